use Rattle.std.proofs.Common.{◌≡◌}
use Rattle.status_board_tests.proofs.draws.too_many_lanes.Given as goal

abbrev pub invariant-loop-wanted : goal.invariant-loop-wanted
invariant-loop-wanted g l = l.seat.token.table_id ≡ l.initial.seat.token.table_id

abbrev pub invariant-loop : goal.invariant-loop
invariant-loop g l = l.seat.token.table_id ≡ l.initial.seat.token.table_id
