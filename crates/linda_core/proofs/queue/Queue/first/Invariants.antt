use Rattle.std.proofs.Common.{◌≡◌, ◌≤◌, take, length}
use Rattle.linda_core.proofs.queue.Queue.first.Given as goal

abbrev pub invariant-loop-at : goal.invariant-loop-at
invariant-loop-at l =
    (l.copies.items ≡ take l.at l.self-inside.ring.items) × (l.most ≤ length l.self-inside.ring.items)
