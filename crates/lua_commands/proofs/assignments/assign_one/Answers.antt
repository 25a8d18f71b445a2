use Rattle.std.proofs.Common.{ap, ◌∙◌}
use Rattle.lua_program.specs.declared.expr.RExprKind.{out-RExprKind}
use Rattle.lua_program.specs.declared.expr.RExprKind.TheVariants as K
use Rattle.lua_meaning.specs.declared.fault.Fault.TheVariants as F
use Rattle.lua_meaning.specs.Levels.{level}
use Rattle.lua_machine.specs.Does.{frame, world}
use Rattle.lua_commands.specs.Assigned.{stored_in}
use Rattle.lua_commands.proofs.Follow.{locals_by, locals_fail}
use Rattle.lua_commands.proofs.Pairs.{assigned_form, no_target_at}
use Rattle.lua_commands.proofs.Singles.{pair_stored}
use Rattle.lua_commands.proofs.assignments.assign_one.Goals as goal

pub returns-in-Name : goal.returns-in-Name
returns-in-Name g c =
    let p = c.args.p.now in
    let l = level p c.args.b.now.level in
    let m = c.args.m.now in
    assigned_form p l c.args.f.now m c.assign_name.new.m c.args.t.now c.args.e.now _ (ap out-RExprKind c.in-Name.is ∙ K.outs-Name c.in-Name.r c.in-Name.field-1) _ c.assign_name.ensures

pub returns-in-Index : goal.returns-in-Index
returns-in-Index g c =
    let p = c.args.p.now in
    let l = level p c.args.b.now.level in
    let m = c.args.m.now in
    let f = frame c.args.f.now m.stack in
    let two = rw (c.get.ensures, c.get-in-Index.ensures) at c.assign_field.ensures in
    assigned_form p l c.args.f.now m c.assign_field.new.m c.args.t.now c.args.e.now _ (ap out-RExprKind c.in-Index.is ∙ K.outs-Index c.in-Index.two) _
    (locals_by c.args.f.now m c.assign_field.new.m _ _ _ (λ k. pair_stored p l f (world m) _ _ _ c.args.e.now k) two)

pub returns-in_default : goal.returns-in_default
returns-in_default g c =
    let p = c.args.p.now in
    let l = level p c.args.b.now.level in
    let m = c.args.m.now in
    let f = frame c.args.f.now m.stack in
    locals_by c.args.f.now m c.broken.new.self _ _ _ (λ k. no_target_at p l f (world m) (stored_in p l f c.args.e.now k) _ _ c.in_default.not-Name c.in_default.not-Index) (locals_fail c.args.f.now m c.broken.new.self F.Broken c.broken.ensures)
