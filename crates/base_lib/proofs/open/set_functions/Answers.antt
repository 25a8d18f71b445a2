use Rattle.std.proofs.Common.{◌∙◌}
use Rattle.base_lib.proofs.Fields.{functions-more}
use Rattle.base_lib.proofs.open.set_functions.Goals as goal

pub loop-number-preserved : goal.loop-number-preserved
loop-number-preserved c = record {
  same = functions-more c.args.id.number c.loop-number.state c.set_function.new.state c.args.numbers.now c.loop-number.number-index c.loop-number-test.true c.in_ok-set_function.ensures.ok ∙ c.loop-number.invariant.same;
  closed = λ closed. c.in_ok-set_function.ensures.closed (c.loop-number.invariant.closed closed);
}
