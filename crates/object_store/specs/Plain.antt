-- A plain heap has the strings of a state as their bytes: no number of a text, and no room, is seen
-- in it.
use Rattle.std.specs.Prelude.{◌≡◌, ℕ, ◌+◌, ◌<◌, pos, Bool, true, false, ◌&&◌, not, if◌then◌else◌, nat_lt, List, [], ◌∷◌, ◌++◌, map, filter, get_or, Option, None, Some, is_some, count_by}
use Rattle.std.specs.Map.{lookup, set_value, values_of}
use Rattle.std.specs.Option.{unwrap_or, option_map}
use Rattle.std.specs.Str.{bytes_eq}
use Rattle.lanes_arena.specs.declared.code.Code.{Code}
use Rattle.object_store.specs.declared.value.Value.{Value}
use Rattle.object_store.specs.declared.value.Value.TheVariants.{Nil, Int, Str}
use Rattle.object_store.specs.declared.state.Function.{Function}
use Rattle.object_store.specs.declared.state.Cell.{Cell}
use Rattle.object_store.specs.Value.{value_eq, is_nil}
use Rattle.object_store.specs.Table.{Contents}
use Rattle.object_store.specs.Heap.{Heap, Shown}

-- a value with no number of a text: all strings have one shape, and the text beside it
pub record PlainValue : Type 0 where
  pub shape : Value
  pub text : List ℕ

-- what a value stands for under these texts
abbrev pub plain : List (List ℕ) → Value → PlainValue
plain texts (Str id) = record {
  shape = Str (record { number = 0 });
  text = get_or texts id.number
      [];
}
plain texts other = record { shape = other; text = [] }

abbrev pub PlainPair : Type 0
PlainPair = PlainValue × PlainValue

abbrev pub plain_pair : List (List ℕ) → Value × Value → PlainPair
plain_pair texts pair = (plain texts pair.0, plain texts pair.1)

abbrev pub plain_pairs : List (List ℕ) → List (Value × Value) → List PlainPair
plain_pairs texts = map (plain_pair texts)

pub record PlainTable : Type 0 where
  pub pairs : List PlainPair
  pub meta : Option ℕ

pub record PlainFunction : Type 0 where
  pub code : Code
  pub cells : List ℕ

-- tables, functions and cells by number
pub record PlainHeap : Type 0 where
  pub number : ℕ
  pub tables : List PlainTable
  pub functions : List PlainFunction
  pub cells : List PlainValue
  pub string_meta : Option ℕ
  pub lanes_table : Option ℕ

abbrev pub plain_table : List (List ℕ) → Contents → PlainTable
plain_table texts table = record {
  pairs = plain_pairs texts table.pairs;
  meta = option_map (λ id.
      id.number) table.meta;
}

abbrev pub plain_function : Function → PlainFunction
plain_function function = record {
  code = function.code;
  cells = map (λ id. id.number)
      function.cells;
}

abbrev pub plain_cell : List (List ℕ) → Cell → PlainValue
plain_cell texts cell = plain texts cell.content

-- the plain heap of a heap whose strings are these texts
abbrev pub plain_of : List (List ℕ) → Heap → PlainHeap
plain_of texts heap = record {
  number = heap.number;
  tables = map (plain_table texts) heap.tables;
  functions = map plain_function heap.functions;
  cells = map (plain_cell texts) heap.cells;
  string_meta = option_map (λ id. id.number) heap.string_meta;
  lanes_table = option_map (λ id. id.number) heap.lanes_table;
}

abbrev pub plain_heap : Shown → PlainHeap
plain_heap shown = plain_of shown.texts shown.heap

-- whether two plain values are one
abbrev pub plain_eq : PlainValue → PlainValue → Bool
plain_eq a b = value_eq a.shape b.shape && bytes_eq a.text b.text

abbrev pub plain_nil : PlainValue
plain_nil = record { shape = Nil; text = [] }

abbrev pub is_plain_nil : PlainValue → Bool
is_plain_nil a = is_nil a.shape

-- reading, setting, walking and the border, as for tables of values (Lua 5.4 manual, sections 2.1,
-- 3.4.7, 6.1)
abbrev pub plain_get : List PlainPair → PlainValue → PlainValue
plain_get pairs key = unwrap_or (lookup (plain_eq key) pairs) plain_nil

abbrev pub is_plain_live : PlainPair → Bool
is_plain_live pair = not (is_plain_nil pair.1)

abbrev pub plain_dead_count : List PlainPair → ℕ
plain_dead_count pairs = count_by is_plain_nil (values_of pairs)

abbrev pub plain_live_count : List PlainPair → ℕ
plain_live_count pairs = count_by (λ value. not (is_plain_nil value)) (values_of pairs)

abbrev pub plain_purged : List PlainPair → List PlainPair
plain_purged pairs = if nat_lt (plain_live_count pairs) (plain_dead_count pairs) then filter
    is_plain_live pairs else pairs

abbrev pub plain_set : List PlainPair → PlainValue → PlainValue → List PlainPair
plain_set pairs key value =
    if is_some (lookup (plain_eq key) pairs) then set_value (plain_eq key) pairs value
    else if is_plain_nil value then pairs
    else plain_purged pairs ++ (key, value) ∷ []

abbrev pub plain_first_live : List PlainPair → Option PlainPair
plain_first_live [] = None
plain_first_live (pair ∷ pairs) = if is_plain_live pair then Some pair else plain_first_live pairs

abbrev pub plain_rest_after : PlainValue → List PlainPair → Option (List PlainPair)
plain_rest_after key [] = None
plain_rest_after key (pair ∷ pairs) = if plain_eq key pair.0 then Some pairs
    else plain_rest_after key pairs

abbrev pub plain_next : List PlainPair → PlainValue → Option (Option PlainPair)
plain_next pairs key = if is_plain_nil key then Some (plain_first_live pairs)
    else option_map plain_first_live (plain_rest_after key pairs)

abbrev pub plain_int : ℕ → PlainValue
plain_int n = record { shape = Int (pos n); text = [] }

pub record IsPlainBorder (pairs : List PlainPair) (n : ℕ) : Type 0 where
  pub full : (k : ℕ) → k < n → is_plain_nil (plain_get pairs (plain_int (k + 1))) ≡ false
  pub ends : is_plain_nil (plain_get pairs (plain_int (n + 1))) ≡ true
