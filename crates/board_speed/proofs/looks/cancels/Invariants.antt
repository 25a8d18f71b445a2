use Rattle.std.proofs.Common.{◌≡◌, ◌≤◌}
use Rattle.board_speed.proofs.looks.cancels.Given as goal

abbrev pub invariant-loop : goal.invariant-loop
invariant-loop l = (l.seat.token.table_id ≡ l.initial.seat.token.table_id) × (l.unasked ≤ l.counter)
