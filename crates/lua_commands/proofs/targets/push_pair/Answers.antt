use Rattle.lua_meaning.specs.Levels.{level}
use Rattle.lua_machine.specs.Does.{world}
use Rattle.lua_commands.proofs.Follow.{one_moved}
use Rattle.lua_commands.proofs.PushTurns.{target_after, target_without}
use Rattle.lua_commands.proofs.targets.push_pair.Goals as goal

pub returns-in-Failed : goal.returns-in-Failed
returns-in-Failed g c = λ line. target_without c.args.m.now c.one.new.m _ _ _ c.in-Failed.ensures

pub returns-in-Failed-one : goal.returns-in-Failed-one
returns-in-Failed-one g c =
    let m1 = c.one.new.m in
    let m2 = c.one-2.new.m in
    let l = level c.args.p.now c.args.b.now.level in
    let second = one_moved c.args.f.now m1 m2 _ m1.stack c.args.m.now.stack c.in-Well.ensures.stack (λ x. l.expr c.args.key.now x (world m1)) c.in-Failed-one.ensures in
    λ line. target_after c.args.m.now m1 m2 _ _ _ _ c.in-Well.ensures (target_without m1 m2 _ _ _ second)

pub returns : goal.returns
returns g c =
    let m1 = c.one.new.m in
    let m2 = c.one-2.new.m in
    let l = level c.args.p.now c.args.b.now.level in
    let second = one_moved c.args.f.now m1 m2 _ m1.stack c.args.m.now.stack c.in-Well.ensures.stack (λ x. l.expr c.args.key.now x (world m1)) c.in-Well-one.ensures in
    λ line. target_after c.args.m.now m1 c.push_two.new.m _ _ _ _ c.in-Well.ensures (target_after m1 m2 c.push_two.new.m _ _ _ _ second (c.push_two.ensures _))
