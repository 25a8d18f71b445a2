use Rattle.std.proofs.Common.{codes}
use Rattle.lua_machine.proofs.Leads.{leads_on}
use Rattle.lua_machine.proofs.Failures.{raise_leads}
use Rattle.lua_machine.proofs.Levels.{above_level, last_level}
use Rattle.evaluator.proofs.knot.+levels.Goals as goal

pub expr_at-returns-then-level-eq0 : goal.expr_at-returns-then-level-eq0
expr_at-returns-then-level-eq0 g t c =
    rw (last_level c.args.p.now c.args.level c.if-level-eq0.true) record { leads = λ k. raise_leads c.args.m.now c.overflow.new.self k (codes "stack overflow") c.overflow.ensures; stack = tt }

pub expr_at-returns-in-Well : goal.expr_at-returns-in-Well
expr_at-returns-in-Well g t c =
    let same = c.in-Well.ensures.stack in
    let leads = rw same at c.expr_on.ensures.leads in
    rw (above_level c.args.p.now c.args.level c.if-level-eq0.false) record {
      leads = λ k. leads_on (c.in-Well.ensures.meaning _) (leads k);
      stack = rw same at c.expr_on.ensures.stack;
    }

pub expr_at-returns-in-Failed : goal.expr_at-returns-in-Failed
expr_at-returns-in-Failed g t c =
    rw (above_level c.args.p.now c.args.level c.if-level-eq0.false) record { leads = λ k. c.in-Failed.ensures.meaning _; stack = tt }

pub multi_at-returns-then-level-eq0 : goal.multi_at-returns-then-level-eq0
multi_at-returns-then-level-eq0 g t c =
    rw (last_level c.args.p.now c.args.level c.if-level-eq0.true) record { leads = λ k. raise_leads c.args.m.now c.overflow.new.self k (codes "stack overflow") c.overflow.ensures; stack = tt }

pub multi_at-returns-in-Well : goal.multi_at-returns-in-Well
multi_at-returns-in-Well g t c =
    let same = c.in-Well.ensures.stack in
    let leads = rw same at c.multi_on.ensures.leads in
    rw (above_level c.args.p.now c.args.level c.if-level-eq0.false) record {
      leads = λ k. leads_on (c.in-Well.ensures.meaning _) (leads k);
      stack = rw same at c.multi_on.ensures.stack;
    }

pub multi_at-returns-in-Failed : goal.multi_at-returns-in-Failed
multi_at-returns-in-Failed g t c =
    rw (above_level c.args.p.now c.args.level c.if-level-eq0.false) record { leads = λ k. c.in-Failed.ensures.meaning _; stack = tt }

pub call_at-returns-then-level-eq0 : goal.call_at-returns-then-level-eq0
call_at-returns-then-level-eq0 g t c =
    rw (last_level c.args.p.now c.args.level c.if-level-eq0.true) record { leads = λ k. raise_leads c.args.m.now c.overflow.new.self k (codes "stack overflow") c.overflow.ensures; stack = tt }

pub call_at-returns : goal.call_at-returns
call_at-returns g t c = rw (above_level c.args.p.now c.args.level c.if-level-eq0.false) c.call_on.ensures

pub stmt_at-returns-then-level-eq0 : goal.stmt_at-returns-then-level-eq0
stmt_at-returns-then-level-eq0 g t c =
    rw (last_level c.args.p.now c.args.level c.if-level-eq0.true) record { leads = λ k. raise_leads c.args.m.now c.overflow.new.self k (codes "stack overflow") c.overflow.ensures; stack = tt }

pub stmt_at-returns-in-Well : goal.stmt_at-returns-in-Well
stmt_at-returns-in-Well g t c =
    let same = c.in-Well.ensures.stack in
    let leads = rw same at c.stmt_on.ensures.leads in
    rw (above_level c.args.p.now c.args.level c.if-level-eq0.false) record {
      leads = λ k. leads_on (c.in-Well.ensures.meaning _) (leads k);
      stack = rw same at c.stmt_on.ensures.stack;
    }

pub stmt_at-returns-in-Failed : goal.stmt_at-returns-in-Failed
stmt_at-returns-in-Failed g t c =
    rw (above_level c.args.p.now c.args.level c.if-level-eq0.false) record { leads = λ k. c.in-Failed.ensures.meaning _; stack = tt }
