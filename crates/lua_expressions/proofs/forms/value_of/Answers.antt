use Rattle.std.proofs.Common.{ap, ◌∙◌, rules}
use Rattle.std.proofs.lemmas.Int.{to_z-of_z}
use Rattle.std.specs.Prelude.{FitsSigned}
use mir.Syntax.{w64}
use Rattle.lua_program.specs.declared.expr.RExprKind.{out-RExprKind}
use Rattle.lua_program.specs.declared.expr.RExprKind.TheVariants as E
use Rattle.lua_meaning.specs.Names.{first}
use Rattle.lua_machine.specs.Does.{frame}
use Rattle.lua_machine.proofs.Leads.{one_value}
use Rattle.lua_expressions.proofs.forms.value_of.Goals as goal

pub returns-in-Nil : goal.returns-in-Nil
returns-in-Nil g c = rw (ap out-RExprKind c.in-Nil.is ∙ E.outs-Nil) c.gives.ensures

pub returns-in-True : goal.returns-in-True
returns-in-True g c = rw (ap out-RExprKind c.in-True.is ∙ E.outs-True) c.gives-in-True.ensures

pub returns-in-False : goal.returns-in-False
returns-in-False g c = rw (ap out-RExprKind c.in-False.is ∙ E.outs-False) c.gives-in-False.ensures

pub returns-in-Int : goal.returns-in-Int
returns-in-Int g c =
    let f : FitsSigned w64 c.in-Int.n = search rules in
    rw (ap out-RExprKind c.in-Int.is ∙ E.outs-Int _) (rw (to_z-of_z w64 c.in-Int.n f) at c.gives-in-Int.ensures)

pub returns-in-Text : goal.returns-in-Text
returns-in-Text g c = rw (ap out-RExprKind c.in-Text.is ∙ E.outs-Text _ _) c.text.ensures

pub returns-in-Dots : goal.returns-in-Dots
returns-in-Dots g c = rw (ap out-RExprKind c.in-Dots.is ∙ E.outs-Dots _) (one_value g.H.Host.asked c.args.m.now _ (first (frame c.args.f.now c.args.m.now.stack).dots) c.first_dot.ensures)

pub returns-in-Name : goal.returns-in-Name
returns-in-Name g c = rw (ap out-RExprKind c.in-Name.is ∙ E.outs-Name _ _) c.name.ensures

pub returns-in-Index : goal.returns-in-Index
returns-in-Index g c = rw (ap out-RExprKind c.in-Index.is ∙ E.outs-Index _) (rw c.get.ensures at c.index_of.ensures)

pub returns-in-Call : goal.returns-in-Call
returns-in-Call g c = rw (ap out-RExprKind c.in-Call.is ∙ E.outs-Call _ _) (rw (c.as_slice.ensures, c.get-in-Call-2.ensures, c.get-in-Call.ensures) at c.call_one.ensures)

pub returns-in-Method : goal.returns-in-Method
returns-in-Method g c = rw (ap out-RExprKind c.in-Method.is ∙ E.outs-Method _ _ _) (rw (c.as_slice-in-Method.ensures, c.get-in-Method-3.ensures, c.get-in-Method-2.ensures, c.get-in-Method.ensures) at c.method_one.ensures)

pub returns-in-Function : goal.returns-in-Function
returns-in-Function g c = rw (ap out-RExprKind c.in-Function.is ∙ E.outs-Function _) c.function.ensures

pub returns-in-Binary : goal.returns-in-Binary
returns-in-Binary g c = rw (ap out-RExprKind c.in-Binary.is ∙ E.outs-Binary _ _) (rw (c.get-in-Binary.ensures) at c.binary_of.ensures)

pub returns-in-Unary : goal.returns-in-Unary
returns-in-Unary g c = rw (ap out-RExprKind c.in-Unary.is ∙ E.outs-Unary _ _) (rw (c.get-in-Unary.ensures) at c.unary_of.ensures)

pub returns-in-And : goal.returns-in-And
returns-in-And g c = rw (ap out-RExprKind c.in-And.is ∙ E.outs-And _) (rw (c.get-in-And.ensures) at c.and.ensures)

pub returns-in-Or : goal.returns-in-Or
returns-in-Or g c = rw (ap out-RExprKind c.in-Or.is ∙ E.outs-Or _) (rw (c.get-in-Or.ensures) at c.or.ensures)

pub returns-in-Paren : goal.returns-in-Paren
returns-in-Paren g c = rw (ap out-RExprKind c.in-Paren.is ∙ E.outs-Paren _) (rw (c.get-in-Paren.ensures) at c.one.ensures)

pub returns-in-Table : goal.returns-in-Table
returns-in-Table g c = rw (ap out-RExprKind c.in-Table.is ∙ E.outs-Table _) (rw (c.as_slice-in-Table.ensures) at c.constructed.ensures)
