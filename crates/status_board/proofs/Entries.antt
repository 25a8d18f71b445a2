-- Lists whose entries have a key, and functions on numbers that change at one of them.
use Rattle.std.proofs.Common.{◌≡◌, ℕ, zero, suc, ◌<◌, ◌==◌, ◌≢◌, ◌⊎◌, ⊎_elim, Bool, true, false, not, true≢false, List, [], ◌∷◌, ◌++◌, length, set, refl, ap, sym, ◌∙◌, subst, arith, cond, eq-eqb, ne_eqb, inl, inr}
use mathlib.Core.Option.{some, some-injective, some-ne-none}
use lib.ListN.{get_elem?}
use Rattle.std.specs.Prelude.{filter}
use Rattle.std.proofs.lemmas.Bool.{eqb-true}
use Rattle.atomic_table.proofs.Lists.{at_set}

pub nat_dec : (a b : ℕ) → (a ≡ b) ⊎ (a ≢ b)
nat_dec a b = elim (a == b) as (λ t. (a == b) ≡ t → (a ≡ b) ⊎ (a ≢ b)) [
  | true ↦ λ e. inl (eqb-true a b e)
  | false ↦ λ e. inr (λ h. true≢false (sym (eq-eqb a b h) ∙ e))
] refl

module _ {X : Type 0} (key : X → ℕ) where
  abbrev pub at : ℕ → List X → List X
  at k xs = filter (λ x. key x == k) xs

  abbrev pub out : ℕ → List X → List X
  out k xs = filter (λ x. not (key x == k)) xs

  kept_same : (k : ℕ) (b : Bool) (x : X) (us : List X) → (key x == k) ≡ b → at k us ≡ [] → at k (cond (not b) (x ∷ us) us) ≡ []
  kept_same k true x us e h = h
  kept_same k false x us e h = ap (λ t. cond t (x ∷ at k us) (at k us)) e ∙ h

  -- without the entries of a key it has none
  pub at_out_same : (k : ℕ) (xs : List X) → at k (out k xs) ≡ []
  at_out_same k [] = refl
  at_out_same k (x ∷ xs) = kept_same k (key x == k) x (out k xs) refl (at_out_same k xs)

  kept_other : (j k : ℕ) → j ≢ k → (b : Bool) (x : X) (us vs : List X) → (key x == j) ≡ b → at k us ≡ at k vs → at k (cond (not b) (x ∷ us) us) ≡ cond (key x == k) (x ∷ at k vs) (at k vs)
  kept_other j k apart true x us vs e h = h ∙ sym (ap (λ t. cond t (x ∷ at k vs) (at k vs)) (ne_eqb (key x) k (λ z. apart (sym (eqb-true (key x) j e) ∙ z))))
  kept_other j k apart false x us vs e h = ap (λ l. cond (key x == k) (x ∷ l) l) h

  -- and the others stay
  pub at_out_other : (j k : ℕ) (xs : List X) → j ≢ k → at k (out j xs) ≡ at k xs
  at_out_other j k [] apart = refl
  at_out_other j k (x ∷ xs) apart = kept_other j k apart (key x == j) x (out j xs) xs refl (at_out_other j k xs apart)

  -- an entry that is renewed
  pub at_renewed_same : (k : ℕ) (x : X) (xs : List X) → key x ≡ k → at k (x ∷ out (key x) xs) ≡ x ∷ []
  at_renewed_same k x xs e = ap (λ t. cond t (x ∷ at k (out (key x) xs)) (at k (out (key x) xs))) (eq-eqb (key x) k e) ∙ ap (λ l. x ∷ l) (ap (λ n. at k (out n xs)) e ∙ at_out_same k xs)

  pub at_renewed_other : (k : ℕ) (x : X) (xs : List X) → key x ≢ k → at k (x ∷ out (key x) xs) ≡ at k xs
  at_renewed_other k x xs e = ap (λ t. cond t (x ∷ at k (out (key x) xs)) (at k (out (key x) xs))) (ne_eqb (key x) k e) ∙ at_out_other (key x) k xs e

  pub at_first_same : (k : ℕ) (x : X) (xs : List X) → key x ≡ k → at k (x ∷ xs) ≡ x ∷ at k xs
  at_first_same k x xs e = ap (λ t. cond t (x ∷ at k xs) (at k xs)) (eq-eqb (key x) k e)

  pub at_first_other : (k : ℕ) (x : X) (xs : List X) → key x ≢ k → at k (x ∷ xs) ≡ at k xs
  at_first_other k x xs e = ap (λ t. cond t (x ∷ at k xs) (at k xs)) (ne_eqb (key x) k e)

-- a function that changes at one number
module _ {X : Type 0} where
  abbrev pub put : (ℕ → X) → ℕ → X → ℕ → X
  put f l x k = cond (k == l) x (f k)

  pub put_same : (f : ℕ → X) (l : ℕ) (x : X) (k : ℕ) → k ≡ l → put f l x k ≡ x
  put_same f l x k e = ap (λ b. cond b x (f k)) (eq-eqb k l e)

  pub put_other : (f : ℕ → X) (l : ℕ) (x : X) (k : ℕ) → k ≢ l → put f l x k ≡ f k
  put_other f l x k e = ap (λ b. cond b x (f k)) (ne_eqb k l e)

  -- a part that the change leaves
  pub put_part : {Y : Type 0} (part : X → Y) (f : ℕ → X) (l : ℕ) (x : X) (k : ℕ) → part x ≡ part (f l) → part (put f l x k) ≡ part (f k)
  put_part part f l x k e = ⊎_elim
      (λ (h : k ≡ l). ap part (put_same f l x k h) ∙ (e ∙ ap (λ n. part (f n)) (sym h)))
      (λ (h : k ≢ l). ap part (put_other f l x k h))
      (nat_dec k l)

  -- a fact that holds of all
  pub put_fact : (P : ℕ → X → Type 0) (f : ℕ → X) (l : ℕ) (x : X) → P l x → ((k : ℕ) → k ≢ l → P k (f k)) → (k : ℕ) → P k (put f l x k)
  put_fact P f l x here there k = ⊎_elim
      (λ (h : k ≡ l). subst (λ (y : ℕ × X). P y.0 y.1) (λ i. (sym h i, sym (put_same f l x k h) i)) here)
      (λ (h : k ≢ l). subst (P k) (sym (put_other f l x k h)) (there k h))
      (nat_dec k l)

module _ {V : Type 0} where
  pub at_lt : (xs : List V) (i : ℕ) (x : V) → get_elem? xs i ≡ some x → i < length xs
  at_lt [] i x e = absurd (some-ne-none x (sym e))
  at_lt (y ∷ ys) zero x e = omega arith
  at_lt (y ∷ ys) (suc i) x e = (let h = at_lt ys i x e in omega (arith, h))

  pub each_set : (Q : ℕ → V → Type 0) (views : List V) (id : ℕ) (w : V) → ((j : ℕ) (u : V) → j ≢ id → get_elem? views j ≡ some u → Q j u) → Q id w → (j : ℕ) (u : V) → get_elem? (set views id w) j ≡ some u → Q j u
  each_set Q views id w others mine j u e =
      ⊎_elim
      (λ (x : (j ≡ id) × (w ≡ u)). subst (λ (y : ℕ × V). Q y.0 y.1) (λ i. (sym x.0 i, x.1 i)) mine)
      (λ (x : (j ≢ id) × (get_elem? views j ≡ some u)). others j u x.0 x.1)
      (at_set views id j w u e)

  pub at_end : (l : List V) (a b : V) (j : ℕ) → get_elem? (l ++ a ∷ []) j ≡ some b → (get_elem? l j ≡ some b) ⊎ ((j ≡ length l) × (a ≡ b))
  at_end [] a b zero e = inr (refl, some-injective a b e)
  at_end [] a b (suc j) e = absurd (some-ne-none b (sym e))
  at_end (x ∷ xs) a b zero e = inl e
  at_end (x ∷ xs) a b (suc j) e = ⊎_elim (λ (h : get_elem? xs j ≡ some b). inl h) (λ (h : (j ≡ length xs) × (a ≡ b)). inr (ap suc h.0, h.1)) (at_end xs a b j e)
