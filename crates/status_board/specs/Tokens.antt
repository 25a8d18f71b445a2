-- Tokens of the board's table.
use Rattle.std.specs.Prelude.{◌≡◌, ◌+◌, ◌*◌}
use Rattle.atomic_table.specs.Seated.{TableId}
use Rattle.atomic_table.specs.declared.shared.Seat.{Seat}
use Rattle.status_board.specs.declared.view.View.{View}
use Rattle.status_board.specs.Words.{most}

abbrev pub Token : Type 0
Token = Seat (Unit {0}) View

-- the token is of this table, which has the board's words
pub record IsTokenOf (table : TableId) (token : Token) : Type 0 where
  pub table_is : token.table_id ≡ table
  pub words : table.words ≡ 1 + 2 * most

pub record IsSameToken (old new : Token) : Type 0 where
  pub table : new.table_id ≡ old.table_id
  pub number : new.id ≡ old.id
  pub held : new.me.1 ≡ old.me.1
