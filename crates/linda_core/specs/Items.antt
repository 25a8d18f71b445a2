-- Items of one value without parts.
use Rattle.std.specs.Prelude.{[], ◌∷◌}
use Rattle.parcel.specs.declared.leaf.Leaf.{Leaf}
use Rattle.linda_core.specs.declared.item.Item.{Item}

-- the parcel of this value alone
abbrev pub leaf_item : Leaf → Item
leaf_item leaf = record { nodes = []; roots = leaf ∷ [] }
