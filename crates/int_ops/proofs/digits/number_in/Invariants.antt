use Rattle.std.proofs.Common.{◌≡◌, length}
use Rattle.int_ops.proofs.Numbers.{rest_of}
use Rattle.int_ops.proofs.digits.number_in.Given as goal

abbrev pub invariant-loop-first : goal.invariant-loop-first
invariant-loop-first l = rest_of l.base l.number l.left ≡ rest_of l.base 0 l.fn.digits

abbrev pub decreases-loop-first : goal.decreases-loop-first
decreases-loop-first l = length l.left
