-- A key of a table that is set.
use Rattle.std.proofs.Common.{◌≡◌, ℕ, Bool, true, false, List, Option, Some, None, Result, Ok, Err, refl, sym, ap, ◌∙◌, subst}
use Rattle.std.specs.Result.{OnOk, OnErr, is_err}
use Rattle.object_store.specs.declared.value.Value.{Value}
use Rattle.object_store.specs.Table.{Contents}
use Rattle.object_store.specs.Heap.{Heap, Shown}
use Rattle.lua_ops.specs.Setting.{with_pair_of}
use Rattle.lua_meaning.specs.Operate.{with_pair_in}
use Rattle.lua_meaning.specs.Run.{Store, with_heap}
use Rattle.lua_machine.specs.Does.{store_of}

-- what is seen of the state is the heap with the pair, and the same texts
pub store_put : (t : Option Contents) (s : Shown) (n : ℕ) (key v : Value) → store_of (with_pair_of t s n key v) ≡ with_heap (store_of s) (with_pair_in t s.heap n key v)
store_put None s n key v = refl
store_put (Some table) s n key v = refl

-- an answer that is no refusal, and one that is
pub on_ok : {A B : Type 0} {P : Type 0} (r : Result A B) → is_err r ≡ false → OnOk r P → P
on_ok (Ok a) e p = p
on_ok (Err b) e p = absurd (no_true (sym e))
  where
    is_false : Bool → Type 0
    is_false true = ⊥
    is_false false = Unit {0}

    no_true : false ≡ true → ⊥
    no_true x = subst is_false x tt

pub on_err : {A B : Type 0} {P : Type 0} (r : Result A B) → is_err r ≡ true → OnErr r P → P
on_err (Err b) e p = p
on_err (Ok a) e p = absurd (no_true e)
  where
    is_false : Bool → Type 0
    is_false true = ⊥
    is_false false = Unit {0}

    no_true : false ≡ true → ⊥
    no_true x = subst is_false x tt
