-- What the answers of several values show.
use Rattle.std.specs.Prelude.{◌≡◌, ◌⊎◌, ℕ, List, Result, Ok, Err, Vec}
use Rattle.std.specs.declared.alloc.Global.{Global}
use Rattle.object_store.specs.declared.value.Value.{Value}
use Rattle.object_store.specs.declared.fault.LuaFault.{LuaFault}
use Rattle.object_store.specs.declared.fault.LuaFault.TheVariants as lua
use Rattle.object_store.specs.Heap.{Shown}
use Rattle.string_lib.specs.declared.piece.Piece.{Piece}
use Rattle.string_lib.specs.declared.refusal.Refusal.{Refusal}
use Rattle.string_lib.specs.declared.refusal.Refusal.TheVariants as refusal
use Rattle.string_lib.specs.Given.{fault_of, IsFault}
use Rattle.string_lib.specs.Several.{Pieces, values_of, texts_after}

-- the pieces are the definition's, but for want of memory
abbrev pub MakesAll : List ℕ → Pieces → Result (Vec Piece Global) Refusal → Type 0
MakesAll name answer (Ok made) = answer ≡ Ok made.items
MakesAll name answer (Err refusal.Memory) = Unit {0}
MakesAll name answer (Err why) = answer ≡ Err (fault_of name why)

-- What a call of several values gives, and what the state is after it. Want of memory may leave
-- some of the texts interned; a fault leaves the state as it was.
abbrev pub IsDoneAll : Shown → Pieces → Result (Vec Value Global) LuaFault → Shown → Type 0
IsDoneAll old (Ok pieces) (Ok values) new =
    (values.items ≡ values_of old.texts pieces)
    × (new ≡ record old { texts = texts_after old.texts pieces })
IsDoneAll old (Ok pieces) (Err fault) new = fault ≡ lua.Memory
IsDoneAll old (Err wanted) (Ok values) new = ⊥
IsDoneAll old (Err wanted) (Err fault) new =
    (IsFault wanted fault ⊎ (fault ≡ lua.Memory)) × (new ≡ old)
