-- A stack that is cut back.
use Rattle.std.proofs.Common.{◌≡◌, ℕ, ◌+◌, Some, List, length, take, get_or, sym, ap, ◌∙◌, add-zero}
use Rattle.std.specs.Prelude.{slice_get}
use Rattle.std.specs.Option.{unwrap_or}
use Rattle.std.proofs.lemmas.Option.{unwrap_or-slice_get}
use Rattle.std.proofs.Math.Seq.{take-length}
use Rattle.object_store.specs.declared.value.Value.{Value}
use Rattle.lua_machine.specs.Piled.{Piled, cut, with_values}
use Rattle.lua_machine.specs.Does.{Above}

pub cut_all : (s s1 : Piled) (at : ℕ) → at ≡ length s.values → s1 ≡ cut at s → s1 ≡ s
cut_all s s1 at e c = c ∙ ap (with_values s) (ap (λ n. take n s.values) e ∙ take-length s.values)

pub cut_above : (s s1 : Piled) (at : ℕ) → at ≡ length s.values → Above (length s.values) s s1 → cut at s1 ≡ s
cut_above s s1 at e a =
    let v : take at s1.values ≡ s.values = ap (λ n. take n s1.values) e ∙ a.values ∙ take-length s.values in
    λ i. record { values = v i; cells = a.cells i }

pub value_there : (s : List Value) (n : ℕ) (v : Value) → slice_get s (n + 0) ≡ Some v → v ≡ get_or s n v
value_there s n v e = ap (λ o. unwrap_or o v) (sym e) ∙ unwrap_or-slice_get s (n + 0) v ∙ ap (λ n. get_or s n v) (add-zero n)
