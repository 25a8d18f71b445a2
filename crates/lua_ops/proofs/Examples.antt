-- The definitions computed on worked rows (Lua 5.4 manual, sections 2.4 and 3.4).
use Rattle.std.proofs.Common.{◌≡◌, refl, ℕ, List, [], ◌∷◌, Option, Some, None, Ok, Err, pos, negsuc, codes}
use Rattle.object_store.specs.declared.value.Value.{Value}
use Rattle.object_store.specs.declared.value.Value.TheVariants as V
use Rattle.object_store.specs.declared.kind.Kind.TheVariants as kind
use Rattle.object_store.specs.declared.event.Event.TheVariants as event
use Rattle.object_store.specs.declared.fault.LuaFault.TheVariants as lua
use Rattle.object_store.specs.Event.{event_key}
use Rattle.object_store.specs.Table.{Contents}
use Rattle.object_store.specs.Heap.{Heap}
use Rattle.std.specs.Int.{int_wrap}
use Rattle.int_ops.specs.Reading.{integer_of}
use Rattle.lua_ops.specs.declared.step.Step.TheVariants as step
use Rattle.lua_ops.specs.declared.step.Target.TheVariants as target
use Rattle.lua_ops.specs.declared.step.ArithOp.TheVariants as op
use Rattle.lua_ops.specs.declared.step.CompareOp.TheVariants as cmp
use Rattle.lua_ops.specs.Metamethods.{Texts, Text, chain_limit, index_step, set_target, arith_step, compare_step, concat_step, len_step, callee_step}

-- a table by its number, and a library function
abbrev table : ℕ → Value
table n = V.Table (record { number = n; kind = record {} })

abbrev lib : ℕ → Value
lib n = V.Lib (record { number = n })

abbrev str : ℕ → Value
str n = V.Str (record { number = n })

abbrev contents : List (Value × Value) → Option ℕ → Contents
contents pairs None = record { pairs = pairs; meta = None }
contents pairs (Some n) = record { pairs = pairs; meta = Some (record { number = n; kind = record {} }) }

-- table 1 has its handlers in table 2; table 3 asks table 1 for what it lacks, by table 4
abbrev heap : Heap
heap = record {
  number = 1;
  tables =
      contents [] None
      ∷ contents [] (Some 2)
      ∷ contents ((event_key event.Index, lib 1) ∷ (event_key event.Add, lib 2) ∷ (event_key event.Call, lib 3) ∷ (event_key event.Lt, lib 4) ∷ []) None
      ∷ contents ((V.Int (pos 1), V.True) ∷ []) (Some 4)
      ∷ contents ((event_key event.Index, table 1) ∷ (event_key event.NewIndex, table 0) ∷ []) None
      ∷ [];
  functions = [];
  cells = [];
  string_meta = None;
  lanes_table = None;
}

abbrev texts : Texts
texts = codes "ten" ∷ codes " 10 " ∷ []

raw : index_step heap (table 3) (V.Int (pos 1)) ≡ Ok (step.Raw V.True)
unfolding index_step chain_limit
raw = refl

absent : index_step heap (table 0) (V.Int (pos 1)) ≡ Ok (step.Raw V.Nil)
unfolding index_step chain_limit
absent = refl

called : index_step heap (table 3) (V.Int (pos 2)) ≡ Ok (step.Handler (lib 1) (table 1) (V.Int (pos 2)))
unfolding index_step chain_limit
called = refl

no_fields : index_step heap V.Nil (V.Int (pos 1)) ≡ Err (lua.NotIndexable kind.Nil)
unfolding index_step chain_limit
no_fields = refl

set_live : set_target heap (table 3) (V.Int (pos 1)) ≡ Ok (target.Table (record { number = 3; kind = record {} }))
unfolding set_target chain_limit
set_live = refl

set_elsewhere : set_target heap (table 3) (V.Int (pos 2)) ≡ Ok (target.Table (record { number = 0; kind = record {} }))
unfolding set_target chain_limit
set_elsewhere = refl

sum_of_string : arith_step texts heap op.Add (str 1) (V.Int (negsuc 0)) ≡ Ok (step.Raw (V.Int (pos 9)))
unfolding arith_step integer_of int_wrap
sum_of_string = refl

sum_by_handler : arith_step texts heap op.Add (V.Int (pos 1)) (table 1) ≡ Ok (step.Handler (lib 2) (V.Int (pos 1)) (table 1))
unfolding arith_step
sum_by_handler = refl

no_number : arith_step texts heap op.Add (str 0) V.Nil ≡ Err (lua.NotArith kind.Text)
unfolding arith_step integer_of
no_number = refl

no_bits : arith_step texts heap op.BitOr (V.Int (pos 1)) (str 1) ≡ Err (lua.NotBits kind.Text)
unfolding arith_step
no_bits = refl

no_divisor : arith_step texts heap op.Mod (V.Int (pos 1)) (V.Int (pos 0)) ≡ Err lua.ZeroDivisor
unfolding arith_step
no_divisor = refl

text_order : compare_step texts heap cmp.Gt (str 0) (str 1) ≡ Ok (step.Raw V.True)
unfolding compare_step
text_order = refl

swapped : compare_step texts heap cmp.Gt V.Nil (table 1) ≡ Ok (step.Handler (lib 4) (table 1) V.Nil)
unfolding compare_step
swapped = refl

no_order : compare_step texts heap cmp.Le V.Nil (table 1) ≡ Err (lua.NotOrdered kind.Nil kind.Table)
unfolding compare_step
no_order = refl

unequal : compare_step texts heap cmp.Ne (table 1) (table 3) ≡ Ok (step.Raw V.True)
unfolding compare_step
unequal = refl

joined : concat_step texts heap (str 0) (str 1) ≡ Ok (Text (codes "ten 10 "))
unfolding concat_step
joined = refl

bytes : len_step texts heap (str 1) ≡ Ok (step.Raw (V.Int (pos 4)))
unfolding len_step
bytes = refl

border : len_step texts heap (table 3) ≡ Ok (step.Raw (V.Int (pos 1)))
unfolding len_step
border = refl

in_its_place : callee_step heap (table 1) ≡ Ok (Some (lib 3))
unfolding callee_step
in_its_place = refl
