-- A state is closed where each id in its tables, functions and cells, its string metatable and its
-- lanes table belongs to it: there is an object, or a text, of that number.
use Rattle.std.specs.Prelude.{ℕ, ◌<◌, length, All, IfSome}
use Rattle.object_store.specs.declared.value.Value.{Value}
use Rattle.object_store.specs.declared.value.Value.TheVariants.{Str, Table, Func}
use Rattle.object_store.specs.declared.state.Function.{Function}
use Rattle.object_store.specs.declared.state.Cell.{Cell}
use Rattle.object_store.specs.Table.{Contents}
use Rattle.object_store.specs.Heap.{Heap, Shown}

-- how many objects of each kind, and how many texts, ids may name
pub record Bounds : Type 0 where
  pub tables : ℕ
  pub functions : ℕ
  pub cells : ℕ
  pub texts : ℕ

abbrev pub bounds_of : Shown → Bounds
bounds_of shown = record {
  tables = length shown.heap.tables;
  functions = length shown.heap.functions;
  cells = length shown.heap.cells;
  texts = length shown.texts;
}

-- the id of the value, where it has one, is within the bounds
abbrev pub IsWithin : Bounds → Value → Type 0
IsWithin bounds (Str id) = id.number < bounds.texts
IsWithin bounds (Table id) = id.number < bounds.tables
IsWithin bounds (Func id) = id.number < bounds.functions
IsWithin bounds _ = Unit {0}

abbrev pub IsPairWithin : Bounds → Value × Value → Type 0
IsPairWithin bounds pair = IsWithin bounds pair.0 × IsWithin bounds pair.1

pub record IsTableWithin (bounds : Bounds) (table : Contents) : Type 0 where
  pub pairs : All (IsPairWithin bounds) table.pairs
  pub meta : IfSome table.meta (λ id. id.number < bounds.tables)

abbrev pub IsFunctionWithin : Bounds → Function → Type 0
IsFunctionWithin bounds function = All (λ id. id.number < bounds.cells) function.cells

abbrev pub IsCellWithin : Bounds → Cell → Type 0
IsCellWithin bounds cell = IsWithin bounds cell.content

-- each id of the heap is within the bounds
pub record IsHeapWithin (bounds : Bounds) (heap : Heap) : Type 0 where
  pub tables : All (IsTableWithin bounds) heap.tables
  pub functions : All (IsFunctionWithin bounds) heap.functions
  pub cells : All (IsCellWithin bounds) heap.cells
  pub string_meta : IfSome heap.string_meta (λ id. id.number < bounds.tables)
  pub lanes_table : IfSome heap.lanes_table (λ id. id.number < bounds.tables)

-- the value, the table or the function belongs to the state
abbrev pub Belongs : Shown → Value → Type 0
Belongs shown = IsWithin (bounds_of shown)

abbrev pub BelongsTable : Shown → Contents → Type 0
BelongsTable shown = IsTableWithin (bounds_of shown)

abbrev pub BelongsFunction : Shown → Function → Type 0
BelongsFunction shown = IsFunctionWithin (bounds_of shown)

abbrev pub BelongsCell : Shown → Cell → Type 0
BelongsCell shown = IsCellWithin (bounds_of shown)

abbrev pub IsClosed : Shown → Type 0
IsClosed shown = IsHeapWithin (bounds_of shown) shown.heap
