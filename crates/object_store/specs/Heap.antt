-- What a contract sees of a state: its heap, its interned texts, and the room that is reserved in
-- it.
use Rattle.std.specs.Prelude.{◌≡◌, ℕ, ◌<◌, ◌≤◌, length, max, List, [], ◌∷◌, Option, None, slice_set}
use Rattle.object_store.specs.declared.state.Function.{Function}
use Rattle.object_store.specs.declared.state.Cell.{Cell}
use Rattle.std.specs.Option.{option_map}
use Rattle.lanes_arena.specs.Names.{found}
use Rattle.object_store.specs.declared.value.Value.{Value}
use Rattle.object_store.specs.declared.value.Value.TheVariants.{Str}
use Rattle.object_store.specs.Value.{TableId}
use Rattle.object_store.specs.Table.{Contents, TableShown}
use Rattle.object_store.specs.Event.{BeginsWithEvents}

-- the objects of a state by number, kind by kind, and the tables that it names
pub record Heap : Type 0 where
  pub number : ℕ
  pub tables : List Contents
  pub functions : List Function
  pub cells : List Cell
  pub string_meta : Option TableId
  pub lanes_table : Option TableId

-- how many more objects of each kind can be added without a refusal
pub record Room : Type 0 where
  pub tables : ℕ
  pub functions : ℕ
  pub cells : ℕ

-- the texts are in the order in which they were first interned; the number of a text is its place
pub record Shown : Type 0 where
  pub heap : Heap
  pub texts : List (List ℕ)
  pub room : Room

-- the heap of a new state: one empty table, number 0, which is the globals
abbrev pub opening_heap : ℕ → Heap
opening_heap number = record {
  number = number;
  tables = (record { pairs = []; meta = None }) ∷ [];
  functions = [];
  cells = [];
  string_meta = None;
  lanes_table = None;
}

-- the state with another table, or another cell, of this number
abbrev pub with_table : Shown → ℕ → Contents → Shown
with_table shown number table = record shown {
  heap = record (shown.heap) {
    tables = slice_set shown.heap.tables number table;
  };
}

abbrev pub with_cell : Shown → ℕ → Cell → Shown
with_cell shown number cell = record shown {
  heap = record (shown.heap) {
    cells = slice_set shown.heap.cells number cell;
  };
}

-- the string of these bytes, where it is among the texts
abbrev pub found_string : List (List ℕ) → List ℕ → Option Value
found_string texts text = option_map (λ number. Str (record { number = number })) (found texts text)

-- the room once there is room for this many more
abbrev pub raised_room : Room → ℕ → ℕ → ℕ → Room
raised_room room tables functions cells = record {
  tables = max tables room.tables;
  functions = max functions room.functions;
  cells = max cells room.cells;
}

-- no room was given up
pub record KeepsRoom (old new : Room) : Type 0 where
  pub tables : old.tables ≤ new.tables
  pub functions : old.functions ≤ new.functions
  pub cells : old.cells ≤ new.cells

-- what a state keeps: the globals are table 0, and the texts begin with the names of all events
pub record IsKept (globals : ℕ) (tables : List TableShown) (texts : List (List ℕ)) : Type 0 where
  pub globals_first : globals ≡ 0
  pub has_globals : 0 < length tables
  pub events_first : BeginsWithEvents texts
