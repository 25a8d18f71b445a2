use Rattle.std.proofs.Common.{ap, refl}
use Rattle.lua_meaning.specs.Run.{here}
use Rattle.lua_meaning.specs.Levels.{level}
use Rattle.lua_meaning.specs.Statements.{for_step}
use Rattle.lua_machine.specs.Does.{frame, world}
use Rattle.lua_machine.proofs.Leads.{from}
use Rattle.lua_statements.proofs.numeric.for_step.Goals as goal

pub returns-in-None : goal.returns-in-None
returns-in-None g c =
    let m = c.args.m.now in
    record { leads = λ k. from (ap (λ s. for_step c.args.p.now (level c.args.p.now c.args.b.now.level) s (frame c.args.f.now m.stack) (world m) k) c.in-None.is) here; stack = refl }
