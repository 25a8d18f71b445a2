use Rattle.std.proofs.Common.{ap, ◌∙◌}
use Rattle.lua_program.specs.declared.expr.RExpr.{out-RExpr}
use Rattle.lua_program.specs.declared.expr.RExprKind.{out-RExprKind}
use Rattle.lua_program.specs.declared.expr.RExprKind.TheVariants as K
use Rattle.lua_meaning.specs.declared.fault.Fault.TheVariants as F
use Rattle.lua_meaning.specs.Levels.{level}
use Rattle.lua_machine.specs.Does.{frame, world}
use Rattle.lua_commands.proofs.Pairs.{target_form, no_target_at}
use Rattle.lua_commands.proofs.PushTurns.{target_fails, target_named}
use Rattle.lua_commands.proofs.targets.push_target.Goals as goal

pub returns-in-Name : goal.returns-in-Name
returns-in-Name g c =
    let a = c.args in
    target_form a.p.now (level a.p.now a.b.now.level) a.f.now a.m.now c.push_name.new.m a.e.now _ (ap out-RExprKind c.in-Name.is ∙ K.outs-Name c.in-Name.r c.in-Name.field-1) _ (c.push_name.ensures (out-RExpr a.e.now).line)

pub returns-in-Index : goal.returns-in-Index
returns-in-Index g c =
    let a = c.args in
    let pair = rw (c.get.ensures, c.get-in-Index.ensures) at c.push_pair.ensures in
    target_form a.p.now (level a.p.now a.b.now.level) a.f.now a.m.now c.push_pair.new.m a.e.now _ (ap out-RExprKind c.in-Index.is ∙ K.outs-Index c.in-Index.two) _ (pair (out-RExpr a.e.now).line)

pub returns-in_default : goal.returns-in_default
returns-in_default g c =
    let a = c.args in
    let m = a.m.now in
    target_named m c.broken.new.self _ _ _ _ (λ k. no_target_at a.p.now (level a.p.now a.b.now.level) (frame a.f.now m.stack) (world m) k _ _ c.in_default.not-Name c.in_default.not-Index) (target_fails m c.broken.new.self _ F.Broken c.broken.ensures)
