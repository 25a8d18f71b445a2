-- Values that come onto a stack one after another.
use Rattle.std.proofs.Common.{◌≡◌, ◌∙◌, ℕ, ◌+◌, ◌<◌, ◌≤◌, get_or, arith, List, [], ◌∷◌, ◌++◌, append_assoc, ap, sym, take, length}
use Rattle.std.proofs.lemmas.Grind.{common_steps}
use Rattle.std.proofs.lemmas.List.{take_more, append-nil}
use Rattle.object_store.specs.declared.value.Value.{Value}
use Rattle.lua_machine.specs.Piled.{Piled, with_values}

pub filled_none : (s : Piled) (vs : List Value) → s ≡ with_values s (s.values ++ take 0 vs)
filled_none s vs = ap (with_values s) (sym (append-nil s.values))

pub filled_more : (s0 s s1 : Piled) (vs : List Value) (i : ℕ) (d : Value) → i < length vs → s ≡ with_values s0 (s0.values ++ take i vs) → s1 ≡ with_values s (s.values ++ get_or vs i d ∷ []) → s1 ≡ with_values s0 (s0.values ++ take (i + 1) vs)
filled_more s0 s s1 vs i d h e made =
    made ∙ ap (λ x. with_values x (x.values ++ get_or vs i d ∷ [])) e
    ∙ ap (with_values s0) (append_assoc s0.values (take i vs) (get_or vs i d ∷ []) ∙ ap (λ l. s0.values ++ l) (sym (take_more vs i d h)))

pub filled_all : (s0 s : Piled) (vs : List Value) (i : ℕ) → length vs ≤ i → s ≡ with_values s0 (s0.values ++ take i vs) → s ≡ with_values s0 (s0.values ++ vs)
filled_all s0 s vs i h e = e ∙ ap (λ l. with_values s0 (s0.values ++ l)) (all i vs h)
  where
    all : (i : ℕ) (vs : List Value) → length vs ≤ i → take i vs ≡ vs
    all i vs h = grind (arith, common_steps)
