-- What clauses say of a board and its seats.
use Rattle.std.specs.Prelude.{◌≡◌}
use Rattle.status_board.specs.declared.view.View.{View}
use Rattle.status_board.specs.declared.board.Board.{Board}
use Rattle.status_board.specs.declared.board.BoardSeat.{BoardSeat}

-- what the seat shows
abbrev pub view : BoardSeat → View
view seat = seat.token.me.0

-- it is a seat of this board
abbrev pub IsSeatOf : Board → BoardSeat → Type 0
IsSeatOf board seat = seat.token.table_id ≡ board.table.shared.table_id
