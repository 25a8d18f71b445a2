use Rattle.std.proofs.Common.{◌∙◌, ap, sym, Some}
use Rattle.lanes_asks.proofs.PieceLemmas.{item_pieces_at}
use Rattle.lanes_asks.proofs.pieces.item_piece_at.Goals as goal

pub returns : goal.returns
returns c =
    item_pieces_at c.args.items.now c.args.at c.index-items-at.result c.requires c.index-items-at.is
    ∙ ap Some (sym c.item_piece.ensures)
