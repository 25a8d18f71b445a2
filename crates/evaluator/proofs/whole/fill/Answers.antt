use Rattle.std.proofs.Common.{arith}
use Rattle.evaluator.proofs.Fills.{filled_none, filled_more, filled_all}
use Rattle.evaluator.proofs.whole.fill.Goals as goal

pub loop-value-init : goal.loop-value-init
loop-value-init c = filled_none c.args.stack.now c.args.values.now

pub loop-value-preserved : goal.loop-value-preserved
loop-value-preserved c =
    filled_more c.args.stack.now c.loop-value.stack c.push.new.self c.args.values.now c.loop-value.value-index _ (omega arith) c.loop-value.invariant c.in_ok-push.ensures.ok

pub returns : goal.returns
returns c = filled_all c.args.stack.now c.loop-value.stack c.args.values.now c.loop-value.value-index (omega arith) c.loop-value.invariant
