use Rattle.std.proofs.Common.{ap, ◌∙◌}
use Rattle.lua_program.specs.declared.expr.RExprKind.{out-RExprKind}
use Rattle.lua_program.specs.declared.expr.RExprKind.TheVariants as E
use Rattle.lua_meaning.specs.Levels.{level}
use Rattle.lua_machine.specs.Does.{frame, world}
use Rattle.lua_machine.proofs.Leads.{from}
use Rattle.lua_expressions.proofs.FormTurns.{single_form}
use Rattle.lua_expressions.proofs.forms.values_of.Goals as goal

pub returns-in-Dots : goal.returns-in-Dots
returns-in-Dots g c = rw (ap out-RExprKind c.in-Dots.is ∙ E.outs-Dots _) c.dots.ensures

pub returns-in-Call : goal.returns-in-Call
returns-in-Call g c = rw (ap out-RExprKind c.in-Call.is ∙ E.outs-Call _ _) (rw (c.as_slice.ensures, c.get-in-Call.ensures, c.get.ensures) at c.called.ensures)

pub returns-in-Method : goal.returns-in-Method
returns-in-Method g c = rw (ap out-RExprKind c.in-Method.is ∙ E.outs-Method _ _ _) (rw (c.as_slice-in-Method.ensures, c.get-in-Method-3.ensures, c.get-in-Method-2.ensures, c.get-in-Method.ensures) at c.method.ensures)

pub returns-in_default : goal.returns-in_default
returns-in_default g c =
    let m = c.args.m.now in
    let p = c.args.p.now in
    record {
      leads = λ k. from (single_form p (level p c.args.b.now.level) (frame c.args.f.now m.stack) c.args.line (world m) k c.args.what.now c.in_default.not-Dots c.in_default.not-Call c.in_default.not-Method) (c.single.ensures.leads k);
      stack = c.single.ensures.stack;
    }
