use Rattle.std.specs.Arc.{arc_value}
use Rattle.std.proofs.Common.{refl, sym, ap, ◌∙◌}
use Rattle.lua_machine.specs.Does.{store_of, many}
use Rattle.evaluator.proofs.Ends.{ended}
use Rattle.evaluator.proofs.whole.run.Goals as goal

pub returns-clause-ran : goal.returns-clause-ran
returns-clause-ran g c =
    let m1 = c.begin-got.new.m in
    let led = rw c.of.ensures at c.begin-got.ensures in
    ended g.R.Ready.asked (arc_value c.args.program) (store_of c.args.state) (store_of m1.state) c.args.function c.args.arguments.now c.args.host m1.host c.args.budget m1.left
    (many c.begin-got.result 0 m1) _ led c.into_inner.ensures.inner refl c.saturating_sub.ensures c.end_of-end.ensures
