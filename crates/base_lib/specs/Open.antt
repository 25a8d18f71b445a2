-- What a state is once a library is open (Lua 5.4 manual, sections 6.1 and 6.7). Fields are set in
-- the order in which they stand here, and the name of each is interned before it is set.
use Rattle.std.specs.Prelude.{ℕ, ◌+◌, ◌-◌, ◌^◌, ◌<◌, ◌⊎◌, ℤ, pos, negsuc, length, map, List, [], ◌∷◌, ◌++◌, None, codes, Bool, not, nat_eq, bit_and, if◌then◌else◌}
use Rattle.lanes_arena.specs.Names.{named}
use Rattle.object_store.specs.declared.value.Value.{Value}
use Rattle.object_store.specs.declared.value.Value.TheVariants as V
use Rattle.object_store.specs.Heap.{Shown, raised_room}
use Rattle.base_lib.specs.declared.open.TheConstants.{BASE, MATH}
use Rattle.base_lib.specs.Base.{with_pair}
use Rattle.base_lib.specs.Given.{interned}
use Rattle.base_lib.specs.Shown.{library_name}

-- the table of this number
abbrev pub table_value : ℕ → Value
table_value number = V.Table (record { number = number; kind = record {} })

-- the state once a text is interned
abbrev pub with_text : Shown → List ℕ → Shown
with_text s text = record s { texts = named s.texts text }

-- the state once the field of this name is set in a table
abbrev pub with_field : ℕ → Shown → List ℕ → Value → Shown
with_field table s name value =
    record s {
      heap = with_pair s.heap table (interned s.texts name) value;
      texts = named s.texts name;
    }

-- and once several fields are set, one after the other
abbrev pub with_fields : ℕ → Shown → List (List ℕ × Value) → Shown
with_fields table s [] = s
with_fields table s (field ∷ fields) =
    with_fields table (with_field table s field.0 field.1) fields

-- the field of a library function, by its number
abbrev pub function_field : ℕ → List ℕ × Value
function_field number = (library_name number, V.Lib (record { number = number }))

-- ---- base

-- assert, error, getmetatable, ipairs, next, pairs, pcall, print, rawequal, rawget, rawlen, rawset,
-- require, select, setmetatable, tonumber, tostring, type and xpcall
abbrev pub base_functions : List ℕ
base_functions =
    0 ∷ 1 ∷ 2 ∷ 3 ∷ 5 ∷ 6 ∷ 7 ∷ 8 ∷ 9 ∷ 10 ∷ 11 ∷ 12 ∷ 13 ∷ 14 ∷ 15 ∷ 16 ∷ 17 ∷ 18 ∷ 19 ∷ []

abbrev pub version : List ℕ
version = codes "Lua 5.4"

-- the state once the base library is open: the globals, table 0, have their own name, the version
-- and the functions
abbrev pub opened_base : Shown → Shown
opened_base s =
    let own = with_field 0 s (codes "_G") (table_value 0) in
    let text = interned own.texts version in
    let named_version = with_field 0 (with_text own version) (codes "_VERSION") text in
    with_fields 0 named_version (map function_field base_functions)

-- ---- math

abbrev pub max_integer : ℤ
max_integer = pos (2 ^ 63 - 1)

abbrev pub min_integer : ℤ
min_integer = negsuc (2 ^ 63 - 1)

abbrev pub math_fields : List (List ℕ × Value)
math_fields =
    function_field 20 ∷ function_field 21 ∷ function_field 22
    ∷ (codes "maxinteger", V.Int max_integer)
    ∷ function_field 23
    ∷ (codes "mininteger", V.Int min_integer)
    ∷ function_field 24 ∷ function_field 25 ∷ function_field 26 ∷ []

-- the state once an empty table is added last, for which room was made
abbrev pub with_new_table : Shown → Shown
with_new_table s =
    let room = raised_room s.room 1 0 0 in
    record s {
      heap = record (s.heap) {
        tables = s.heap.tables ++ (record { pairs = []; meta = None }) ∷ [];
      };
      room = record room { tables = room.tables - 1 };
    }

-- no table has a number left; there are never more functions or cells than numbers
abbrev pub IsFull : Shown → Type 0
IsFull s =
    (2 ^ 32 - 1 < length s.heap.tables + 1) ⊎ (2 ^ 32 - 1 < length s.heap.functions + 0)
    ⊎ (2 ^ 32 - 1 < length s.heap.cells + 0)

-- the state once math is open: a new table with its fields, which the globals have under its name
abbrev pub opened_math : Shown → Shown
opened_math s =
    let number = length s.heap.tables in
    let filled = with_fields number (with_new_table s) math_fields in
    with_field 0 filled (codes "math") (table_value number)

-- ---- the libraries of some bits

-- whether the bit of a library is among these
abbrev pub opens : ℕ → ℕ → Bool
opens libs library = not (nat_eq (bit_and libs library) 0)

-- base has no table of its own
abbrev pub tables_of : ℕ → ℕ
tables_of libs = if opens libs MATH then 1 else 0

-- the state once there is room for more tables
abbrev pub with_room : ℕ → Shown → Shown
with_room n s = record s { room = raised_room s.room n 0 0 }

-- there are no numbers left for more tables; there are never more functions or cells than numbers
abbrev pub HasNoNumbers : ℕ → Shown → Type 0
HasNoNumbers n s =
    (2 ^ 32 - 1 < length s.heap.tables + n) ⊎ (2 ^ 32 - 1 < length s.heap.functions + 0)
    ⊎ (2 ^ 32 - 1 < length s.heap.cells + 0)

abbrev pub opened_if : Bool → (Shown → Shown) → Shown → Shown
opened_if opened go s = if opened then go s else s

unfoldable pub with_base : ℕ → Shown → Shown
with_base libs s = opened_if (opens libs BASE) opened_base s

unfoldable pub with_math : ℕ → Shown → Shown
with_math libs s = opened_if (opens libs MATH) opened_math s

unfoldable pub with_cancel_test : Shown → Shown
with_cancel_test s =
    let field = function_field 52 in
    with_field 0 s field.0 field.1

-- the state once the libraries of these bits are open: base, `cancel_test`, which is always a
-- global, and math
abbrev pub opened_each : ℕ → Shown → Shown
opened_each libs s = with_math libs (with_cancel_test (with_base libs s))

-- and room was made for their tables before
abbrev pub opened_libs : ℕ → Shown → Shown
opened_libs libs s = opened_each libs (with_room (tables_of libs) s)
