use Rattle.std.proofs.Common.{ap, refl, sym, ◌∙◌}
use Rattle.lua_meaning.specs.Run.{here}
use Rattle.lua_meaning.specs.Statements.{assign}
use Rattle.lua_machine.specs.Does.{world, frame}
use Rattle.lua_machine.proofs.Leads.{from}
use Rattle.lua_machine.proofs.machine.Machine.assign.Goals as goal

pub returns-in-Global : goal.returns-in-Global
returns-in-Global g c =
    let m = c.args.self.now in
    record { leads = λ k. from (ap (λ r. assign (frame c.args.f.now m.stack) r m.value (world m) k) c.in-Global.is) (rw c.broken.ensures here); stack = tt }
