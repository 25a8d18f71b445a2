-- The definitions on examples, each by computation alone.
use Rattle.std.proofs.Common.{◌≡◌, refl, ℕ, pos, negsuc, List, [], ◌∷◌, Option, Some, None, Ok, Err, true, false}
use Rattle.std.specs.Prelude.{codes}
use Rattle.lua_program.specs.declared.expr.Ref.TheVariants as R
use Rattle.object_store.specs.declared.value.Value.{Value}
use Rattle.object_store.specs.declared.value.Value.TheVariants as V
use Rattle.lanes_lib.specs.declared.ask.LanesFn.TheVariants as lanes
use Rattle.base_lib.specs.declared.functions.BaseFn.TheVariants as base
use Rattle.lua_meaning.specs.declared.fault.Fault.TheVariants as F
use Rattle.lua_meaning.specs.declared.library.Builtin.TheVariants as builtin
use Rattle.lua_meaning.specs.declared.library.Library.TheVariants as library
use Rattle.lua_meaning.specs.Run.{Run, Ended, World, Next}
use Rattle.lua_meaning.specs.Level.{Loaded, Locals, CellId, cell_id, Flow, Goes, Breaks, Jumps, Returns, tick}
use Rattle.lua_meaning.specs.Names.{is_true, first, filled, put_slot, put_cell}
use Rattle.lua_meaning.specs.Faults.{position}
use Rattle.lua_meaning.specs.Statements.{more_turns, after, turned}
use Rattle.lua_meaning.specs.Library.{function_of}

-- ---- lists that are cut or filled (section 3.3.3)

fills : filled 3 (V.Int (pos 1) ∷ []) ≡ V.Int (pos 1) ∷ V.Nil ∷ V.Nil ∷ []
fills = refl

cuts : filled 1 (V.True ∷ V.False ∷ []) ≡ V.True ∷ []
cuts = refl

none_gives_nil : first [] ≡ V.Nil
none_gives_nil = refl

-- ---- truth (section 3.3.4): nil and false alone are false

zero_is_true : is_true (V.Int (pos 0)) ≡ true
zero_is_true = refl

false_is_false : is_true V.False ≡ false
false_is_false = refl

-- ---- locals

two : Locals
two = record { slots = V.True ∷ V.Nil ∷ []; cells = cell_id 7 ∷ cell_id 8 ∷ cell_id 9 ∷ [] }

a_slot_is_set : put_slot 1 V.False two ≡ Ok (record { slots = V.True ∷ V.False ∷ []; cells = cell_id 7 ∷ cell_id 8 ∷ cell_id 9 ∷ [] })
unfolding two
a_slot_is_set = refl

no_slot_is_set : put_slot 2 V.False two ≡ Err F.Broken
unfolding two
no_slot_is_set = refl

-- the cells of later slots are gone
a_cell_is_put : put_cell 1 (cell_id 4) two ≡ record { slots = V.True ∷ V.Nil ∷ []; cells = cell_id 7 ∷ cell_id 4 ∷ [] }
unfolding two
a_cell_is_put = refl

-- ---- the turns that follow the first of a numeric `for` (section 3.3.5)

three_more : more_turns (pos 1) (pos 10) (pos 3) ≡ Some 3
three_more = refl

downwards : more_turns (pos 3) (pos 1) (negsuc 0) ≡ Some 2
downwards = refl

no_turn : more_turns (pos 1) (pos 0) (pos 1) ≡ None
no_turn = refl

no_turn_downwards : more_turns (pos 0) (pos 1) (negsuc 0) ≡ None
no_turn_downwards = refl

-- ---- positions

script : Loaded
script = record { program = record { name = codes "t.lua"; texts = []; protos = [] }; keys = [] }

no_line : position script 0 ≡ []
unfolding script
no_line = refl

-- ---- library functions by number

assert_is_first : function_of 0 ≡ Some (library.Builtin builtin.Assert)
assert_is_first = refl

ult_is_last_of_math : function_of 26 ≡ Some (library.Plain base.Ult)
ult_is_last_of_math = refl

no_string_functions : function_of 27 ≡ None
no_string_functions = refl

linda : function_of 49 ≡ Some (library.Lanes lanes.Linda)
linda = refl

-- ---- blocks and loops: a goto leaves block by block, and `break` ends one loop

module _ (k : Next Flow) (go : Locals → World → Run) (jump : ℕ → Locals → World → Run) (l : Locals) (w : World) where
  a_goto_leaves_a_block : after k go jump (Ok (Jumps 1 5 l)) w ≡ k (Ok (Jumps 0 5 l)) w
  a_goto_leaves_a_block = refl

  a_goto_has_come : after k go jump (Ok (Jumps 0 5 l)) w ≡ jump 5 l w
  a_goto_has_come = refl

  break_leaves_a_block : after k go jump (Ok (Breaks l)) w ≡ k (Ok (Breaks l)) w
  break_leaves_a_block = refl

  break_ends_a_loop : turned k go (Ok (Breaks l)) w ≡ k (Ok (Goes l)) w
  break_ends_a_loop = refl
