-- A map is the list of its pairs in the order of insertion, and a count of further pairs for which
-- it has room.
use Rattle.std.specs.Prelude.{ℕ, ◌-◌, min, List, [], Option, None, Some}
use Rattle.std.specs.declared.alloc.Global.{Global}
use Rattle.std.specs.declared.boxed.Box.{Box}
use Rattle.indexmap.specs.IndexMap.{IndexMap, spare}

pub record Pairs (K V : Type 0) : Type 0 where
  pub entries : List (K × V)
  pub room : ℕ

module _ {K V S : Type 0} where
  -- the pairs in the table of hashes
  abbrev pub entries_of : Option (Box (IndexMap K V S) Global) → List (K × V)
  entries_of None = []
  entries_of (Some map) = map.value.entries

  -- up to eight pairs fit into a list of this capacity; a table of hashes tells its own room
  abbrev pub room_of : ℕ → ℕ → Option (Box (IndexMap K V S) Global) → ℕ
  room_of len capacity None = min 8 capacity - len
  room_of len capacity (Some map) = spare map.value
