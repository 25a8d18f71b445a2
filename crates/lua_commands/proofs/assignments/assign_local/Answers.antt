use Rattle.lua_meaning.specs.Statements.{assign}
use Rattle.lua_machine.specs.Does.{world}
use Rattle.lua_commands.proofs.Follow.{after_value, no_value, locals_moved}
use Rattle.lua_commands.proofs.assignments.assign_local.Goals as goal

pub returns-in-Failed : goal.returns-in-Failed
returns-in-Failed g c = no_value c.args.f.now c.args.m.now c.one.new.m _ _ c.in-Failed.ensures

pub returns : goal.returns
returns g c =
    let m1 = c.one.new.m in
    let assigned = locals_moved c.args.f.now m1 c.assign.new.self c.assign.result m1.stack c.args.m.now.stack c.in-Well.ensures.stack (λ x. assign x c.args.r.now m1.value (world m1)) c.assign.ensures in
    after_value c.args.f.now c.args.m.now c.one.new.m c.assign.new.self _ _ c.assign.result c.in-Well.ensures assigned
