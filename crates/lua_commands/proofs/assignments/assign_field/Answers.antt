use Rattle.std.proofs.Common.{◌∙◌}
use Rattle.lua_meaning.specs.Levels.{level}
use Rattle.lua_machine.specs.Does.{world}
use Rattle.lua_commands.specs.Assigned.{field_set}
use Rattle.lua_commands.proofs.Follow.{after_value, no_value, locals_moved, one_moved}
use Rattle.lua_commands.proofs.assignments.assign_field.Goals as goal

pub returns-in-Failed : goal.returns-in-Failed
returns-in-Failed g c = no_value c.args.f.now c.args.m.now c.one.new.m _ _ c.in-Failed.ensures

pub returns-in-Failed-one : goal.returns-in-Failed-one
returns-in-Failed-one g c =
    let f = c.args.f.now in
    let s = c.args.m.now.stack in
    let l = level c.args.p.now c.args.b.now.level in
    let m1 = c.one.new.m in
    let m2 = c.one-2.new.m in
    let second = one_moved f m1 m2 _ m1.stack s c.in-Well.ensures.stack (λ x. l.expr c.args.key.now x (world m1)) c.in-Failed-one.ensures in
    after_value f c.args.m.now m1 m2 _ _ _ c.in-Well.ensures (no_value f m1 m2 _ _ second)

pub returns-in-Failed-one-2 : goal.returns-in-Failed-one-2
returns-in-Failed-one-2 g c =
    let f = c.args.f.now in
    let s = c.args.m.now.stack in
    let l = level c.args.p.now c.args.b.now.level in
    let m1 = c.one.new.m in
    let m2 = c.one-2.new.m in
    let m3 = c.one-3.new.m in
    let same = c.in-Well-one.ensures.stack ∙ c.in-Well.ensures.stack in
    let second = one_moved f m1 m2 _ m1.stack s c.in-Well.ensures.stack (λ x. l.expr c.args.key.now x (world m1)) c.in-Well-one.ensures in
    let third = one_moved f m2 m3 _ m2.stack s same (λ x. l.expr c.args.e.now x (world m2)) c.in-Failed-one-2.ensures in
    after_value f c.args.m.now m1 m3 _ _ _ c.in-Well.ensures (after_value f m1 m2 m3 _ _ _ second (no_value f m2 m3 _ _ third))

pub returns : goal.returns
returns g c =
    let f = c.args.f.now in
    let s = c.args.m.now.stack in
    let p = c.args.p.now in
    let l = level p c.args.b.now.level in
    let m1 = c.one.new.m in
    let m2 = c.one-2.new.m in
    let m3 = c.one-3.new.m in
    let m4 = c.set_field.new.m in
    let same = c.in-Well-one.ensures.stack ∙ c.in-Well.ensures.stack in
    let second = one_moved f m1 m2 _ m1.stack s c.in-Well.ensures.stack (λ x. l.expr c.args.key.now x (world m1)) c.in-Well-one.ensures in
    let third = one_moved f m2 m3 _ m2.stack s same (λ x. l.expr c.args.e.now x (world m2)) c.in-Well-one-2.ensures in
    let set = locals_moved f m3 m4 c.set_field.result m3.stack s (c.in-Well-one-2.ensures.stack ∙ same) (λ x. field_set p l x c.args.line m1.value m2.value m3.value (world m3)) c.set_field.ensures.locals in
    after_value f c.args.m.now m1 m4 _ _ _ c.in-Well.ensures (after_value f m1 m2 m4 _ _ _ second (after_value f m2 m3 m4 _ _ _ third set))
