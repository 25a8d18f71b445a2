use Rattle.std.proofs.Common.{◌≡◌, length}
use Rattle.int_ops.proofs.Numbers.{small_rest}
use Rattle.int_ops.proofs.digits.small_number.Given as goal

abbrev pub invariant-loop-first : goal.invariant-loop-first
invariant-loop-first l = small_rest l.number l.left ≡ small_rest 0 l.fn.digits

abbrev pub decreases-loop-first : goal.decreases-loop-first
decreases-loop-first l = length l.left
