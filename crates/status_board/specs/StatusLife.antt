-- The life of a lane's status: Pending, then Running and Waiting by turns, then one end for good.
use Rattle.std.specs.Prelude.{ℕ, Bool, true, false, not, ◌&&◌, List, [], ◌∷◌}
use Rattle.status_board.specs.declared.status.Status.{Status}
use Rattle.status_board.specs.declared.status.Status.TheVariants.{Pending, Running, Waiting, Done, Error, Cancelled}

abbrev pub is_end : Status → Bool
is_end Pending = false
is_end Running = false
is_end Waiting = false
is_end Done = true
is_end Error = true
is_end Cancelled = true

-- how far a lane with this status is in its life
abbrev pub rank : Status → ℕ
rank Pending = 0
rank Running = 1
rank Waiting = 1
rank Done = 2
rank Error = 2
rank Cancelled = 2

abbrev pub is_pending : Status → Bool
is_pending Pending = true
is_pending Running = false
is_pending Waiting = false
is_pending Done = false
is_pending Error = false
is_pending Cancelled = false

abbrev pub is_running : Status → Bool
is_running Pending = false
is_running Running = true
is_running Waiting = false
is_running Done = false
is_running Error = false
is_running Cancelled = false

-- whether the second status may follow the first
abbrev pub may_follow : Status → Status → Bool
may_follow Pending next = is_running next
may_follow Running next = not (is_pending next)
may_follow Waiting next = not (is_pending next)
may_follow Done next = false
may_follow Error next = false
may_follow Cancelled next = false

-- whether a status with those before it, the last one first, is a life so far: it began with
-- Pending, and each followed
abbrev pub is_life : Status → List Status → Bool
is_life status [] = is_pending status
is_life status (last ∷ before) = may_follow last status && is_life last before
