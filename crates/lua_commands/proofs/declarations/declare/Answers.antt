use Rattle.std.proofs.Common.{ap}
use Rattle.lua_meaning.specs.Run.{here}
use Rattle.lua_meaning.specs.Statements.{declare}
use Rattle.lua_machine.specs.Does.{world, frame}
use Rattle.lua_machine.proofs.Leads.{from}
use Rattle.lua_commands.proofs.declarations.declare.Goals as goal

pub returns-in-Up-clause-locals : goal.returns-in-Up-clause-locals
returns-in-Up-clause-locals g c =
    let m = c.args.m.now in
    record { leads = λ k. from (ap (λ r. declare c.args.p.now (frame c.args.f.now m.stack) r m.value (world m) k) c.in-Up.is) (rw c.broken.ensures here); stack = tt }

pub returns-in-Global-clause-locals : goal.returns-in-Global-clause-locals
returns-in-Global-clause-locals g c =
    let m = c.args.m.now in
    record { leads = λ k. from (ap (λ r. declare c.args.p.now (frame c.args.f.now m.stack) r m.value (world m) k) c.in-Global.is) (rw c.broken-in-Global.ensures here); stack = tt }
