use Rattle.std.proofs.Common.{◌≡◌, ◌++◌, length}
use Rattle.linda_core.proofs.queue.push_all.Given as goal

-- what is there and what is to come stay the same
abbrev pub invariant-loop-value : goal.invariant-loop-value
invariant-loop-value l =
    (l.ring.items ++ l.values.items ≡ l.initial.ring.items ++ l.initial.values.items)
    × (l.ring.capacity ≡ l.initial.ring.capacity)

abbrev pub decreases-loop-value : goal.decreases-loop-value
decreases-loop-value l = length l.values.items
