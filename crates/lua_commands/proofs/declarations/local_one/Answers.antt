use Rattle.lua_meaning.specs.Statements.{declare}
use Rattle.lua_machine.specs.Does.{world}
use Rattle.lua_commands.proofs.Follow.{after_value, no_value, locals_moved}
use Rattle.lua_commands.proofs.declarations.local_one.Goals as goal

pub returns-in-Failed : goal.returns-in-Failed
returns-in-Failed g c = no_value c.args.f.now c.args.m.now c.one.new.m _ _ c.in-Failed.ensures

pub returns : goal.returns
returns g c =
    let m1 = c.one.new.m in
    let declared = locals_moved c.args.f.now m1 c.declare.new.self c.declare.result m1.stack c.args.m.now.stack c.in-Well.ensures.stack (λ x. declare c.args.p.now x c.args.r.now m1.value (world m1)) c.declare.ensures in
    after_value c.args.f.now c.args.m.now c.one.new.m c.declare.new.self _ _ c.declare.result c.in-Well.ensures declared
