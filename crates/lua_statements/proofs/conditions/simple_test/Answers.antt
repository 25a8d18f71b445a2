use Rattle.std.proofs.Common.{ap, ◌∙◌}
use Rattle.lua_program.specs.declared.expr.RExprKind.{out-RExprKind}
use Rattle.lua_program.specs.declared.expr.RExprKind.TheVariants as E
use Rattle.lua_meaning.specs.Levels.{level}
use Rattle.lua_machine.specs.Does.{frame, world}
use Rattle.lua_machine.proofs.Leads.{from}
use Rattle.lua_machine.proofs.Levels.{stepped, unstepped}
use Rattle.lua_statements.specs.Conditions.{judged, operator_tested}
use Rattle.lua_statements.proofs.ConditionTurns.{tested_is}
use Rattle.lua_statements.proofs.conditions.simple_test.Goals as goal

pub returns-in-Well : goal.returns-in-Well
unfolding operator_tested
returns-in-Well g c =
    let a = c.args in
    let p = a.p.now in
    let n = a.b.now.level in
    let f = frame a.f.now a.m.now.stack in
    let same = c.in-Well.ensures.stack in
    let leads = rw (same, c.get.ensures, c.lower.ensures.level) at c.operator_test.ensures.leads in
    let stack = rw same at c.operator_test.ensures.stack in
    record {
      leads = λ k. from (tested_is (level p n) a.e.now f (world a.m.now) k)
          (stepped p n a.e.now _ f a.m.now c.tick.new.self (judged k) c.if-b-eq0.false (ap out-RExprKind c.in-Binary.is ∙ E.outs-Binary _ _) c.in-Well.ensures.meaning (leads k));
      stack = stack;
    }

pub returns-in-Failed : goal.returns-in-Failed
unfolding judged
returns-in-Failed g c =
    let a = c.args in
    let p = a.p.now in
    let n = a.b.now.level in
    let f = frame a.f.now a.m.now.stack in
    record {
      leads = λ k. from (tested_is (level p n) a.e.now f (world a.m.now) k) (unstepped p n a.e.now f a.m.now (judged k) c.if-b-eq0.false (c.in-Failed.ensures.meaning _));
      stack = tt;
    }
