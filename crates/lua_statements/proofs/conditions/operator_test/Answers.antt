use Rattle.std.proofs.Common.{◌∙◌}
use Rattle.lua_program.specs.declared.expr.RPair.{out-RPair}
use Rattle.lua_meaning.specs.Run.{and_then}
use Rattle.lua_meaning.specs.Level.{no_site}
use Rattle.lua_meaning.specs.Levels.{level}
use Rattle.lua_meaning.specs.Operate.{binary}
use Rattle.lua_machine.specs.Does.{frame}
use Rattle.lua_machine.proofs.Leads.{leads_on, upto, judged_at, on_test}
use Rattle.lua_statements.specs.Conditions.{judged, operator_tested}
use Rattle.lua_statements.proofs.conditions.operator_test.Goals as goal

pub returns-in-Failed : goal.returns-in-Failed
unfolding operator_tested judged
returns-in-Failed g c =
    let p = c.args.p.now in
    let l = level p c.args.b.now.level in
    let f = frame c.args.f.now c.args.m.now.stack in
    record { leads = λ k. c.in-Failed.ensures.leads (and_then (judged k) (λ a w. l.expr (out-RPair c.args.pair.now).right f w (and_then (judged k) (λ b w. binary p l c.args.line (no_site f) c.args.op a b w (judged k))))); stack = tt }

pub returns-in-Failed-one : goal.returns-in-Failed-one
unfolding operator_tested judged
returns-in-Failed-one g c =
    let p = c.args.p.now in
    let l = level p c.args.b.now.level in
    let f = frame c.args.f.now c.args.m.now.stack in
    let second = rw c.in-Well.ensures.stack at c.in-Failed-one.ensures.leads in
    let a = c.one.new.m.value in
    record {
      leads = λ k. leads_on (c.in-Well.ensures.leads (and_then (judged k) (λ a w. l.expr (out-RPair c.args.pair.now).right f w (and_then (judged k) (λ b w. binary p l c.args.line (no_site f) c.args.op a b w (judged k))))))
          (second (and_then (judged k) (λ b w. binary p l c.args.line (no_site f) c.args.op a b w (judged k))));
      stack = tt;
    }

pub returns-in-Well-binary : goal.returns-in-Well-binary
unfolding operator_tested judged
returns-in-Well-binary g c =
    let p = c.args.p.now in
    let l = level p c.args.b.now.level in
    let f = frame c.args.f.now c.args.m.now.stack in
    let second = rw c.in-Well.ensures.stack at c.in-Well-one.ensures.leads in
    let a = c.one.new.m.value in
    record {
      leads = λ k. upto (judged_at c.judge.result c.binary.new.m k c.judge.ensures)
          (leads_on (c.in-Well.ensures.leads (and_then (judged k) (λ a w. l.expr (out-RPair c.args.pair.now).right f w (and_then (judged k) (λ b w. binary p l c.args.line (no_site f) c.args.op a b w (judged k))))))
          (leads_on (second (and_then (judged k) (λ b w. binary p l c.args.line (no_site f) c.args.op a b w (judged k)))) (c.in-Well-binary.ensures.leads (judged k))));
      stack = on_test _ (c.in-Well-binary.ensures.stack ∙ c.in-Well-one.ensures.stack ∙ c.in-Well.ensures.stack);
    }

pub returns-in-Failed-binary : goal.returns-in-Failed-binary
unfolding operator_tested judged
returns-in-Failed-binary g c =
    let p = c.args.p.now in
    let l = level p c.args.b.now.level in
    let f = frame c.args.f.now c.args.m.now.stack in
    let second = rw c.in-Well.ensures.stack at c.in-Well-one.ensures.leads in
    let a = c.one.new.m.value in
    record {
      leads = λ k. leads_on (c.in-Well.ensures.leads (and_then (judged k) (λ a w. l.expr (out-RPair c.args.pair.now).right f w (and_then (judged k) (λ b w. binary p l c.args.line (no_site f) c.args.op a b w (judged k))))))
          (leads_on (second (and_then (judged k) (λ b w. binary p l c.args.line (no_site f) c.args.op a b w (judged k)))) (c.in-Failed-binary.ensures.leads (judged k)));
      stack = tt;
    }
