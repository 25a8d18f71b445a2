use Rattle.std.proofs.Common.{◌≡◌}
use Rattle.status_board.specs.declared.status.Status.TheVariants.{Running}
use Rattle.status_board.specs.Views.{own_status}
use Rattle.status_board.specs.Seats.{view}
use Rattle.status_board_tests.proofs.statuses.live.Given as goal

abbrev pub invariant-loop : goal.invariant-loop
invariant-loop l = (l.seat.token.table_id ≡ l.initial.seat.token.table_id) × (own_status (view l.seat) ≡ Running)
