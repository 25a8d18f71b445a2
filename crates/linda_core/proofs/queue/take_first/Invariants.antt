use Rattle.std.proofs.Common.{◌≡◌, take, drop}
use Rattle.std.specs.Vec.{vec_capacity}
use Rattle.linda_core.proofs.queue.take_first.Given as goal

-- so many were taken
abbrev pub invariant-loop : goal.invariant-loop
invariant-loop l =
    (l.values.items ≡ take l.counter l.initial.ring.items)
    × (l.ring.items ≡ drop l.counter l.initial.ring.items)
    × (l.ring.capacity ≡ l.initial.ring.capacity)
    × (vec_capacity l.values ≡ vec_capacity l.initial.values)
