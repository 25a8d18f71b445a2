-- What the answer of a call says: the value, or the fault.
use Rattle.std.specs.Prelude.{◌≡◌, ◌⊎◌, ℕ, List, Result, Ok, Err}
use Rattle.lanes_arena.specs.Names.{named, number_of}
use Rattle.object_store.specs.declared.value.Value.{Value}
use Rattle.object_store.specs.declared.value.Value.TheVariants as V
use Rattle.object_store.specs.declared.fault.LuaFault.{LuaFault}
use Rattle.object_store.specs.declared.fault.LuaFault.TheVariants as lua
use Rattle.object_store.specs.Heap.{Shown}
use Rattle.lua_pattern.specs.declared.fault.PatternFault.{PatternFault}
use Rattle.lua_pattern.specs.declared.fault.PatternFault.TheVariants as pattern
use Rattle.string_lib.specs.declared.made.Made.{Made}
use Rattle.string_lib.specs.declared.made.Made.TheVariants as made
use Rattle.string_lib.specs.declared.refusal.Refusal.{Refusal}
use Rattle.string_lib.specs.declared.refusal.Refusal.TheVariants as refusal
use Rattle.string_lib.specs.String.{Answer, Of, Text}

-- the fault is the one that is wanted; the name in that of a bad argument takes memory
abbrev pub IsFault : LuaFault → LuaFault → Type 0
IsFault (lua.BadArgument n name) fault = (fault ≡ lua.BadArgument n name) ⊎ (fault ≡ lua.Memory)
IsFault wanted fault = fault ≡ wanted

-- the string of a text that is interned now
abbrev pub interned : List (List ℕ) → List ℕ → Value
interned texts text = V.Str (record { number = number_of texts text })

-- What a call gives, and what the state is after it, where the definition says this. A text is
-- interned. A fault leaves the state as it was, and so does want of memory.
abbrev pub IsDone : Shown → Answer → Result Value LuaFault → Shown → Type 0
IsDone old (Ok (Of v)) (Ok value) new = (value ≡ v) × (new ≡ old)
IsDone old (Ok (Of v)) (Err fault) new = (fault ≡ lua.Memory) × (new ≡ old)
IsDone old (Ok (Text text)) (Ok value) new =
    (value ≡ interned old.texts text) × (new ≡ record old { texts = named old.texts text })
IsDone old (Ok (Text text)) (Err fault) new = (fault ≡ lua.Memory) × (new ≡ old)
IsDone old (Err wanted) (Ok value) new = ⊥
IsDone old (Err wanted) (Err fault) new =
    (IsFault wanted fault ⊎ (fault ≡ lua.Memory)) × (new ≡ old)

-- the fault of a pattern
abbrev pub pattern_fault : PatternFault → LuaFault
pattern_fault pattern.BadItem = lua.BadItem
pattern_fault pattern.OpenSet = lua.OpenSet
pattern_fault pattern.BadCapture = lua.BadCapture
pattern_fault pattern.EndsWithPercent = lua.EndsWithPercent
pattern_fault pattern.TooManyItems = lua.TooManyItems
pattern_fault pattern.Memory = lua.Memory

-- the fault of a refusal by the function of this name
abbrev pub fault_of : List ℕ → Refusal → LuaFault
fault_of name (refusal.BadArgument n) = lua.BadArgument n name
fault_of name refusal.TextTooLong = lua.TextTooLong
fault_of name refusal.TooManyValues = lua.TooManyValues
fault_of name (refusal.Pattern e) = pattern_fault e
fault_of name refusal.Memory = lua.Memory

-- what is made is the definition's answer, but for want of memory
abbrev pub Makes : List ℕ → Answer → Result Made Refusal → Type 0
Makes name answer (Ok (made.Value v)) = answer ≡ Ok (Of v)
Makes name answer (Ok (made.Text text)) = answer ≡ Ok (Text text.items)
Makes name answer (Err refusal.Memory) = Unit {0}
Makes name answer (Err why) = answer ≡ Err (fault_of name why)
