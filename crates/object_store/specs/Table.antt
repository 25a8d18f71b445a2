-- What a contract sees of a table.
use Rattle.std.specs.Prelude.{◌≡◌, ℕ, ◌-◌, ◌≤◌, ◌^◌, nat_lt, min, if◌then◌else◌, length, List, Option}
use Rattle.object_store.specs.declared.value.Value.{Value}
use Rattle.object_store.specs.Value.{TableId}
use Rattle.object_store.specs.Pairs.{dead_count, IsBorder, IsTable}

-- its pairs in their order, and its metatable
pub record Contents : Type 0 where
  pub pairs : List (Value × Value)
  pub meta : Option TableId

-- what is seen of a table by itself: also how many new keys can be set without a refusal for memory
pub record TableShown : Type 0 where
  pub pairs : List (Value × Value)
  pub meta : Option TableId
  pub room : ℕ

-- how many new keys fit without a refusal: none where a purge is due, since it takes memory; else
-- as many as the map has room for, up to the most pairs that a table may have
abbrev pub table_room : ℕ → ℕ → ℕ → ℕ
table_room dead all room = if nat_lt (all - dead) dead then 0 else min room (2 ^ 62 - all)

-- a table of a heap, where room is not seen
abbrev pub contents_of : TableShown → Contents
contents_of table = record { pairs = table.pairs; meta = table.meta }

-- what a table keeps beside its pairs
pub record IsKept (pairs : List (Value × Value)) (dead : ℕ) (border : ℕ) : Type 0 where
  pub is_table : IsTable pairs
  pub dead_counted : dead ≡ dead_count pairs
  pub at_border : IsBorder pairs border
  pub few : length pairs ≤ 2 ^ 62
