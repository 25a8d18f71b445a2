use Rattle.std.proofs.Common.{◌≡◌, length}
use Rattle.int_ops.specs.Reading.{past_blanks}
use Rattle.int_ops.proofs.digits.past_blanks.Given as goal

abbrev pub invariant-loop-first : goal.invariant-loop-first
invariant-loop-first l = past_blanks l.left ≡ past_blanks l.fn.text

abbrev pub decreases-loop-first : goal.decreases-loop-first
decreases-loop-first l = length l.left
