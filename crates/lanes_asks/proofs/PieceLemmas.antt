-- The pieces of a reply, one by one.
use Rattle.std.proofs.Common.{◌≡◌, ℕ, zero, suc, ◌<◌, refl, ap, sym, List, [], ◌∷◌, length, slice_get, get_or, Some, arith}
use Rattle.linda_core.specs.declared.item.Item.{Item}
use Rattle.lanes_lib.specs.Face.{item_piece, item_pieces}

pub length_item_pieces : (is : List Item) → length (item_pieces is) ≡ length is
length_item_pieces [] = refl
length_item_pieces (i ∷ is) = ap suc (length_item_pieces is)

pub item_pieces_at : (is : List Item) (at : ℕ) (i : Item) → at < length is → i ≡ get_or is at i →
    slice_get (item_pieces is) at ≡ Some (item_piece i)
item_pieces_at [] at i within there = absurd (omega (arith, within))
item_pieces_at (j ∷ is) zero i within there = ap (λ (i : Item). Some (item_piece i)) (sym there)
item_pieces_at (j ∷ is) (suc at) i within there = item_pieces_at is at i (omega arith) there
