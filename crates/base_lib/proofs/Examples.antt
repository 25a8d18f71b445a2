-- The definitions of the base library and of math, computed on examples.
use Rattle.std.proofs.Common.{◌≡◌, ℕ, refl, pos, negsuc, List, [], ◌∷◌, None, Ok, Err, codes}
use Rattle.std.specs.Fmt.{digits}
use Rattle.std.specs.Int.{int_wrap}
use Rattle.int_ops.specs.Reading.{integer_of, integer_in}
use Rattle.object_store.specs.declared.value.Value.{Value}
use Rattle.object_store.specs.declared.value.Value.TheVariants as V
use Rattle.object_store.specs.declared.fault.LuaFault.TheVariants as lua
use Rattle.object_store.specs.Heap.{Heap}
use Rattle.lua_ops.specs.Metamethods.{Texts}
use Rattle.base_lib.specs.declared.functions.BaseFn.{BaseFn}
use Rattle.base_lib.specs.declared.functions.BaseFn.TheVariants as fn
use Rattle.base_lib.specs.Base.{Answer, Values, Text, one, base_step}
use Rattle.base_lib.specs.Open.{table_value}
use Rattle.base_lib.specs.Shown.{shown}

abbrev texts : Texts
texts = codes "#" ∷ codes "-2" ∷ codes "z1" ∷ codes "x" ∷ []

abbrev hash : Value
hash = V.Str (record { number = 0 })

abbrev minus_two : Value
minus_two = V.Str (record { number = 1 })

abbrev z1 : Value
z1 = V.Str (record { number = 2 })

abbrev x : Value
x = V.Str (record { number = 3 })

abbrev int : ℕ → Value
int n = V.Int (pos n)

-- table 0 has the pairs 1: 10, 2: nil and x: 30, and table 1 has none
abbrev heap : Heap
heap = record {
  number = 1;
  tables = (record { pairs = (int 1, int 10) ∷ (int 2, V.Nil) ∷ (x, int 30) ∷ []; meta = None }) ∷ (record { pairs = []; meta = None }) ∷ [];
  functions = [];
  cells = [];
  string_meta = None;
  lanes_table = None;
}

abbrev on : BaseFn → List Value → Answer
on = base_step texts heap

abbrev t : Value
t = table_value 0

-- ---- next, from the first live pair on; a dead key has a place, a key without a pair has none

next_first : on fn.Next (t ∷ []) ≡ Ok (Values (int 1 ∷ int 10 ∷ []))
next_first = refl

next_after_dead : on fn.Next (t ∷ int 2 ∷ []) ≡ Ok (Values (x ∷ int 30 ∷ []))
next_after_dead = refl

next_end : on fn.Next (t ∷ x ∷ []) ≡ one V.Nil
next_end = refl

next_without_pair : on fn.Next (t ∷ int 3 ∷ []) ≡ Err lua.DeadKey
next_without_pair = refl

next_of_no_table : on fn.Next (int 1 ∷ []) ≡ Err (lua.BadArgument 1 (codes "next"))
next_of_no_table = refl

-- ---- raw access

raw_get_live : on fn.RawGet (t ∷ x ∷ []) ≡ one (int 30)
raw_get_live = refl

raw_get_without_key : on fn.RawGet (t ∷ []) ≡ Err (lua.BadArgument 2 (codes "rawget"))
raw_get_without_key = refl

raw_len_of_table : on fn.RawLen (t ∷ []) ≡ one (int 1)
raw_len_of_table = refl

raw_len_of_string : on fn.RawLen (z1 ∷ []) ≡ one (int 2)
raw_len_of_string = refl

raw_set_nil_key : on fn.RawSet (t ∷ V.Nil ∷ int 1 ∷ []) ≡ Err lua.NilKey
raw_set_nil_key = refl

raw_equal_of_kinds : on fn.RawEqual (int 0 ∷ V.False ∷ []) ≡ one V.False
raw_equal_of_kinds = refl

-- ---- select

select_count : on fn.Select (hash ∷ V.Nil ∷ V.Nil ∷ []) ≡ one (int 2)
select_count = refl

select_second : on fn.Select (int 2 ∷ int 7 ∷ int 8 ∷ int 9 ∷ []) ≡ Ok (Values (int 8 ∷ int 9 ∷ []))
select_second = refl

select_past : on fn.Select (int 4 ∷ int 7 ∷ int 8 ∷ int 9 ∷ []) ≡ Ok (Values [])
select_past = refl

select_from_the_end : on fn.Select (minus_two ∷ int 7 ∷ int 8 ∷ int 9 ∷ []) ≡ Ok (Values (int 8 ∷ int 9 ∷ []))
unfolding integer_of
select_from_the_end = refl

select_before_the_first : on fn.Select (V.Int (negsuc 1) ∷ int 7 ∷ []) ≡ Err (lua.BadArgument 1 (codes "select"))
select_before_the_first = refl

select_none : on fn.Select (int 0 ∷ int 7 ∷ []) ≡ Err (lua.BadArgument 1 (codes "select"))
select_none = refl

-- ---- metatables

meta_of_none : on fn.GetMetatable (t ∷ []) ≡ one V.Nil
meta_of_none = refl

set_meta_without : on fn.SetMetatable (t ∷ []) ≡ Err (lua.BadArgument 2 (codes "setmetatable"))
set_meta_without = refl

-- ---- numbers

number_of_text : on fn.ToNumber (minus_two ∷ []) ≡ one (V.Int (negsuc 1))
unfolding integer_of
number_of_text = refl

number_of_other : on fn.ToNumber (V.True ∷ []) ≡ one V.Nil
number_of_other = refl

number_in_36 : on fn.ToNumber (z1 ∷ int 36 ∷ []) ≡ one (int 1261)
unfolding integer_in int_wrap
number_in_36 = refl

number_in_35 : on fn.ToNumber (z1 ∷ int 35 ∷ []) ≡ one V.Nil
unfolding integer_in
number_in_35 = refl

number_in_37 : on fn.ToNumber (z1 ∷ int 37 ∷ []) ≡ Err (lua.BadArgument 2 (codes "tonumber"))
number_in_37 = refl

number_of_int_in_base : on fn.ToNumber (int 10 ∷ int 10 ∷ []) ≡ Err (lua.BadArgument 1 (codes "tonumber"))
number_of_int_in_base = refl

abs_wraps : on fn.Abs (V.Int (negsuc 9223372036854775807) ∷ []) ≡ one (V.Int (negsuc 9223372036854775807))
unfolding int_wrap
abs_wraps = refl

greatest : on fn.Max (int 1 ∷ minus_two ∷ int 3 ∷ []) ≡ one (int 3)
unfolding integer_of
greatest = refl

least : on fn.Min (int 1 ∷ minus_two ∷ int 3 ∷ []) ≡ one (V.Int (negsuc 1))
unfolding integer_of
least = refl

greatest_of_others : on fn.Max (int 1 ∷ x ∷ V.Nil ∷ []) ≡ Err (lua.BadArgument 2 (codes "max"))
unfolding integer_of
greatest_of_others = refl

integer_of_string : on fn.ToInteger (minus_two ∷ []) ≡ one V.Nil
integer_of_string = refl

type_of_integer : on fn.MathType (int 1 ∷ []) ≡ Ok (Text (codes "integer"))
type_of_integer = refl

below_as_bits : on fn.Ult (int 1 ∷ minus_two ∷ []) ≡ one V.True
unfolding integer_of
below_as_bits = refl

-- ---- types and texts

type_of_light : on fn.Type (V.Light (record { number = 0 }) ∷ []) ≡ Ok (Text (codes "userdata"))
type_of_light = refl

type_of_nothing : on fn.Type [] ≡ Err (lua.BadArgument 1 (codes "type"))
type_of_nothing = refl

shown_integer : shown texts (V.Int (negsuc 11)) ≡ codes "-12"
unfolding digits
shown_integer = refl

shown_table : shown texts (table_value 12) ≡ codes "table: 12"
unfolding digits
shown_table = refl

shown_function : shown texts (V.Lib (record { number = 29 })) ≡ codes "function: find"
shown_function = refl

shown_step : shown texts (V.Lib (record { number = 4 })) ≡ codes "function: ipairs_step"
shown_step = refl

shown_light : shown texts (V.Light (record { number = 1 })) ≡ codes "light: batched"
shown_light = refl
