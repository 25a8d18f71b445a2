-- What the answer of a call says: the values, or the fault.
use Rattle.std.specs.Prelude.{◌≡◌, ◌⊎◌, ℕ, drop, List, [], ◌∷◌, Option, Some, None, Result, Ok, Err, Bool, true, false}
use Rattle.lanes_arena.specs.Names.{named, number_of}
use Rattle.object_store.specs.declared.value.Value.{Value}
use Rattle.object_store.specs.declared.value.Value.TheVariants as V
use Rattle.object_store.specs.declared.fault.LuaFault.{LuaFault}
use Rattle.object_store.specs.declared.fault.LuaFault.TheVariants as lua
use Rattle.object_store.specs.Value.{TableId}
use Rattle.object_store.specs.Heap.{Heap, Shown}
use Rattle.lua_ops.specs.Setting.{adds_pair}
use Rattle.base_lib.specs.declared.functions.BaseFn.{BaseFn}
use Rattle.base_lib.specs.declared.functions.BaseFn.TheVariants as fn
use Rattle.base_lib.specs.declared.given.Given.{Given}
use Rattle.base_lib.specs.declared.given.Given.TheVariants as given
use Rattle.base_lib.specs.declared.refusal.Refusal.{Refusal}
use Rattle.base_lib.specs.declared.refusal.Refusal.TheVariants as refusal
use Rattle.base_lib.specs.Base.{Values, Text, Changed, Answer, argument, table_in, base_step}
use Rattle.base_lib.specs.Functions.{name_of}

-- the values, where the call had these arguments
abbrev pub given_values : Given → List Value → List Value
given_values given.Nothing args = []
given_values (given.One a) args = a ∷ []
given_values (given.Two a b) args = a ∷ b ∷ []
given_values (given.Three a b c) args = a ∷ b ∷ c ∷ []
given_values (given.From place) args = drop place args

-- what the library's definition says of a call in this state
abbrev pub step_of : Shown → BaseFn → List Value → Answer
step_of s function args = base_step s.texts s.heap function args

-- the fault is the one that is wanted; the name in that of a bad argument takes memory
abbrev pub IsFault : LuaFault → LuaFault → Type 0
IsFault (lua.BadArgument n name) fault = (fault ≡ lua.BadArgument n name) ⊎ (fault ≡ lua.Memory)
IsFault wanted fault = fault ≡ wanted

-- the string of a text that is interned now
abbrev pub interned : List (List ℕ) → List ℕ → Value
interned texts text = V.Str (record { number = number_of texts text })

-- What a call gives, and what the state is after it, where the definition says this. A text is
-- interned and is the one value. A fault leaves the state as it was, and so does want of memory,
-- which comes only where something is interned or set.
abbrev pub IsDone : Shown → List Value → Answer → Result Given LuaFault → Shown → Type 0
IsDone old args (Ok (Values values)) (Ok given) new =
    (given_values given args ≡ values) × (new ≡ old)
IsDone old args (Ok (Values values)) (Err fault) new = ⊥
IsDone old args (Ok (Text text)) (Ok given) new =
    (given_values given args ≡ interned old.texts text ∷ [])
    × (new ≡ record old { texts = named old.texts text })
IsDone old args (Ok (Text text)) (Err fault) new = (fault ≡ lua.Memory) × (new ≡ old)
IsDone old args (Ok (Changed heap values)) (Ok given) new =
    (given_values given args ≡ values) × (new ≡ record old { heap = heap })
IsDone old args (Ok (Changed heap values)) (Err fault) new = (fault ≡ lua.Memory) × (new ≡ old)
IsDone old args (Err wanted) (Ok given) new = ⊥
IsDone old args (Err wanted) (Err fault) new = IsFault wanted fault × (new ≡ old)

-- ---- which calls may want memory: those that intern a text, add a pair, or name a bad argument

-- whether `rawset` adds a pair to its table
abbrev pub adds_to : Heap → Option TableId → Value → Value → Bool
adds_to heap None key v = false
adds_to heap (Some id) key v = adds_pair heap id.number key v

abbrev pub adds : Shown → BaseFn → List Value → Bool
adds s fn.RawSet args =
    adds_to s.heap (table_in (argument 1 args)) (argument 2 args) (argument 3 args)
adds s function args = false

abbrev pub takes : Bool → Answer → Bool
takes adding (Ok (Values values)) = false
takes adding (Ok (Text text)) = true
takes adding (Ok (Changed heap values)) = adding
takes adding (Err lua.NilKey) = false
takes adding (Err lua.DeadKey) = false
takes adding (Err lua.Protected) = false
takes adding (Err fault) = true

abbrev pub takes_memory : Shown → BaseFn → List Value → Bool
takes_memory s function args = takes (adds s function args) (step_of s function args)

-- ---- the same with a refusal in place of its fault

-- the fault of a refusal by the function of this name
abbrev pub fault_of : List ℕ → Refusal → LuaFault
fault_of name (refusal.BadArgument n) = lua.BadArgument n name
fault_of name refusal.NilKey = lua.NilKey
fault_of name refusal.DeadKey = lua.DeadKey
fault_of name refusal.Protected = lua.Protected
fault_of name refusal.Memory = lua.Memory

abbrev pub by_name : List ℕ → Result Given Refusal → Result Given LuaFault
by_name name (Ok given) = Ok given
by_name name (Err why) = Err (fault_of name why)

abbrev pub Does : Shown → BaseFn → List Value → Result Given Refusal → Shown → Type 0
Does old function args result new =
    IsDone old args (step_of old function args) (by_name (name_of function) result) new

-- the answer of a function that only reads
abbrev pub answered : List ℕ → List Value → Result Given Refusal → Answer
answered name args (Ok given) = Ok (Values (given_values given args))
answered name args (Err why) = Err (fault_of name why)

abbrev pub Reads : Shown → BaseFn → List Value → Result Given Refusal → Type 0
Reads s function args result = step_of s function args ≡ answered (name_of function) args result
