use Rattle.status_board.proofs.Opening.{opens}
use Rattle.status_board.proofs.board.Board.make.Goals as goal

pub of_words-requires : goal.of_words-requires
of_words-requires c = rw c.code.ensures opens
