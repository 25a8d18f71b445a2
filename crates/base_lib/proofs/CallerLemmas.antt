-- What a caller learns from `IsDone`, by what the definition says of the call.
use Rattle.std.proofs.Common.{◌≡◌, ◌⊎◌, ℕ, inl, inr, refl, List, [], ◌∷◌, Result, Ok, Err, OnErr, ap}
use Rattle.lanes_arena.specs.Names.{named}
use Rattle.object_store.specs.declared.value.Value.{Value}
use Rattle.object_store.specs.declared.fault.LuaFault.{LuaFault}
use Rattle.object_store.specs.declared.fault.LuaFault.TheVariants as lua
use Rattle.object_store.specs.Heap.{Heap, Shown}
use Rattle.base_lib.specs.declared.given.Given.{Given}
use Rattle.base_lib.specs.Base.{Answer, Values, Text, Changed}
use Rattle.base_lib.specs.Given.{given_values, interned, IsFault, IsDone}

-- a call gave these values
abbrev pub Gave : List Value → Result Given LuaFault → List Value → Type 0
Gave args result values = (given : Given) × (result ≡ Ok given) × (given_values given args ≡ values)

pub done-values : (old : Shown) (args : List Value) (values : List Value) (result : Result Given LuaFault) (new : Shown) → IsDone old args (Ok (Values values)) result new → Gave args result values × (new ≡ old)
done-values old args values (Ok given) new done = ((given, refl, done.0), done.1)
done-values old args values (Err fault) new done = absurd done

-- or there was no memory, and the state is as it was
abbrev pub NoMemory : Shown → Result Given LuaFault → Shown → Type 0
NoMemory old result new = (result ≡ Err lua.Memory) × (new ≡ old)

pub done-text : (old : Shown) (args : List Value) (text : List ℕ) (result : Result Given LuaFault) (new : Shown) → IsDone old args (Ok (Text text)) result new → (Gave args result (interned old.texts text ∷ []) × (new ≡ record old { texts = named old.texts text })) ⊎ NoMemory old result new
done-text old args text (Ok given) new done = inl ((given, refl, done.0), done.1)
done-text old args text (Err fault) new done = inr (ap Err done.0, done.1)

pub done-changed : (old : Shown) (args : List Value) (heap : Heap) (values : List Value) (result : Result Given LuaFault) (new : Shown) → IsDone old args (Ok (Changed heap values)) result new → (Gave args result values × (new ≡ record old { heap = heap })) ⊎ NoMemory old result new
done-changed old args heap values (Ok given) new done = inl ((given, refl, done.0), done.1)
done-changed old args heap values (Err fault) new done = inr (ap Err done.0, done.1)

pub done-fault : (old : Shown) (args : List Value) (wanted : LuaFault) (result : Result Given LuaFault) (new : Shown) → IsDone old args (Err wanted) result new → (fault : LuaFault) × (result ≡ Err fault) × IsFault wanted fault × (new ≡ old)
done-fault old args wanted (Ok given) new done = absurd done
done-fault old args wanted (Err fault) new done = (fault, refl, done.0, done.1)

-- a refusal leaves the state as it was
pub done-kept : (old : Shown) (args : List Value) (answer : Answer) (result : Result Given LuaFault) (new : Shown) → IsDone old args answer result new → OnErr result (new ≡ old)
done-kept old args (Ok (Values values)) (Ok given) new done = tt
done-kept old args (Ok (Values values)) (Err fault) new done = absurd done
done-kept old args (Ok (Text text)) (Ok given) new done = tt
done-kept old args (Ok (Text text)) (Err fault) new done = done.1
done-kept old args (Ok (Changed heap values)) (Ok given) new done = tt
done-kept old args (Ok (Changed heap values)) (Err fault) new done = done.1
done-kept old args (Err wanted) (Ok given) new done = absurd done
done-kept old args (Err wanted) (Err fault) new done = done.1

-- no call gives up room
pub done-room : (old : Shown) (args : List Value) (answer : Answer) (result : Result Given LuaFault) (new : Shown) → IsDone old args answer result new → new.room ≡ old.room
done-room old args (Ok (Values values)) (Ok given) new done = ap (λ (s : Shown). s.room) done.1
done-room old args (Ok (Values values)) (Err fault) new done = absurd done
done-room old args (Ok (Text text)) (Ok given) new done = ap (λ (s : Shown). s.room) done.1
done-room old args (Ok (Text text)) (Err fault) new done = ap (λ (s : Shown). s.room) done.1
done-room old args (Ok (Changed heap values)) (Ok given) new done = ap (λ (s : Shown). s.room) done.1
done-room old args (Ok (Changed heap values)) (Err fault) new done = ap (λ (s : Shown). s.room) done.1
done-room old args (Err wanted) (Ok given) new done = absurd done
done-room old args (Err wanted) (Err fault) new done = ap (λ (s : Shown). s.room) done.1
