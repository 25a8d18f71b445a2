-- The roots of a parcel.
use Rattle.std.specs.Prelude.{List, [], ◌∷◌, Option, None, Some}
use Rattle.parcel.specs.declared.leaf.Leaf.{Leaf}
use Rattle.parcel.specs.declared.parcel.Parcel.{Parcel}

abbrev pub only_of : List Leaf → Option Leaf
only_of (root ∷ []) = Some root
only_of _ = None

-- the root, where there is exactly one
abbrev pub only_root : Parcel → Option Leaf
only_root parcel = only_of parcel.roots
