-- The pieces of a linda's reply, one by one.
use Rattle.std.specs.Prelude.{List, [], ◌∷◌}
use Rattle.object_store.specs.declared.value.Value.TheVariants as V
use Rattle.linda_core.specs.declared.call.LindaReply.{LindaReply}
use Rattle.linda_core.specs.declared.call.LindaReply.TheVariants as reply
use Rattle.lanes_asks.specs.declared.pieces.Piece.{Piece as Lent}
use Rattle.lanes_asks.specs.declared.pieces.Piece.TheVariants as lent
use Rattle.lanes_lib.specs.Face.{Piece, Plain, Text, key_piece, item_pieces}

-- the piece, whose text is lent
abbrev pub piece_of : Lent → Piece
piece_of (lent.Plain v) = Plain v
piece_of (lent.Text t) = Text t.now

-- the pieces of a reply that gives values, none of any other
abbrev pub pieces_of : LindaReply → List Piece
pieces_of reply.Sent = Plain V.True ∷ []
pieces_of (reply.Got k is) = key_piece k ∷ item_pieces is
pieces_of r = []
