use Rattle.std.proofs.Common.{◌≡◌}
use Rattle.status_board.specs.Views.{Drew}
use Rattle.status_board.specs.Seats.{view}
use Rattle.status_board_tests.proofs.draws.watch_two.Given as goal

abbrev pub invariant-loop : goal.invariant-loop
invariant-loop l = (l.seat.token.table_id ≡ l.initial.seat.token.table_id) × (Drew (view l.seat) l.one) × (Drew (view l.seat) l.two)
