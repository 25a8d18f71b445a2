-- One view changes, and what the rule says of all views.
use Rattle.std.proofs.Common.{◌≡◌, ℕ, zero, suc, ◌+◌, ◌<◌, ◌≤◌, ◌==◌, ◌||◌, ◌≢◌, ◌⊎◌, ⊎_elim, Bool, true, false, true≢false, List, [], ◌∷◌, ◌++◌, length, set, refl, ap, sym, ◌∙◌, subst, arith, cond, eq-eqb, ne_eqb, inl, inr}
use mathlib.Core.Option.{some, some-injective, some-ne-none}
use lib.ListN.{get_elem?}
use Rattle.atomic_table.proofs.Lists.{at_set, set_else}
use Rattle.std.proofs.lemmas.Bool.Decides.{nat_tests}
use Rattle.history_desk.specs.Passes.{has, AreDistinct}

module _ {V : Type 0} where
  pub set_there : (l : List V) (i : ℕ) (v w : V) → get_elem? l i ≡ some v → get_elem? (set l i w) i ≡ some w
  set_there [] i v w e = absurd (some-ne-none v (sym e))
  set_there (x ∷ xs) zero v w e = refl
  set_there (x ∷ xs) (suc i) v w e = set_there xs i v w e

  -- a fact of each view, where one changes
  pub each_set : (Q : ℕ → V → Type 0) (views : List V) (id : ℕ) (w : V) → ((j : ℕ) (u : V) → j ≢ id → get_elem? views j ≡ some u → Q j u) → Q id w → (j : ℕ) (u : V) → get_elem? (set views id w) j ≡ some u → Q j u
  each_set Q views id w others mine j u e =
      ⊎_elim
      (λ (x : (j ≡ id) × (w ≡ u)). subst (λ (y : ℕ × V). Q y.0 y.1) (λ i. (sym x.0 i, x.1 i)) mine)
      (λ (x : (j ≢ id) × (get_elem? views j ≡ some u)). others j u x.0 x.1)
      (at_set views id j w u e)

  pub unique : (l : List V) (i : ℕ) (v w : V) → get_elem? l i ≡ some v → get_elem? l i ≡ some w → v ≡ w
  unique l i v w e f = some-injective v w (sym e ∙ f)

-- equal or not
pub nat_dec : (a b : ℕ) → (a ≡ b) ⊎ (a ≢ b)
nat_dec a b = elim (a == b) as (λ t. (a == b) ≡ t → (a ≡ b) ⊎ (a ≢ b)) [ true ↦ λ e. inl (grind (arith, nat_tests)) | false ↦ λ e. inr (λ h. true≢false (sym (eq-eqb a b h) ∙ e)) ] refl

-- some view at a place has a fact, where one changes
pub some_set : {V : Type 0} (Q : V → Type 0) (views : List V) (id : ℕ) (v w : V) → get_elem? views id ≡ some v → (Q v → Q w) → (k : ℕ) → (u : V) × (get_elem? views k ≡ some u) × Q u → (u : V) × (get_elem? (set views id w) k ≡ some u) × Q u
some_set {V} Q views id v w at keep k old =
    ⊎_elim
    (λ (h : k ≡ id). (w, subst (λ n. get_elem? (set views id w) n ≡ some w) (sym h) (set_there views id v w at), keep (subst Q (unique views id old.0 v (subst (λ n. get_elem? views n ≡ some old.0) h old.1) at) old.2)))
    (λ (h : k ≢ id). (old.0, set_else views id k w h ∙ old.1, old.2))
    (nat_dec k id)

-- a fact of the view at a place, where one changes
pub all_set : {V : Type 0} (Q : V → Type 0) (views : List V) (id : ℕ) (v w : V) → get_elem? views id ≡ some v → (Q v → Q w) → (k : ℕ) → ((u : V) → get_elem? views k ≡ some u → Q u) → (u : V) → get_elem? (set views id w) k ≡ some u → Q u
all_set {V} Q views id v w at keep k old u e =
    ⊎_elim
    (λ (x : (k ≡ id) × (w ≡ u)). subst Q x.1 (keep (old v (subst (λ n. get_elem? views n ≡ some v) (sym x.0) at))))
    (λ (x : (k ≢ id) × (get_elem? views k ≡ some u)). old u x.1)
    (at_set views id k w u e)

-- a view at the end is the new one
pub at_end : {V : Type 0} (l : List V) (a b : V) (j : ℕ) → get_elem? (l ++ a ∷ []) j ≡ some b → (get_elem? l j ≡ some b) ⊎ ((j ≡ length l) × (a ≡ b))
at_end [] a b zero e = inr (refl, some-injective a b e)
at_end [] a b (suc j) e = absurd (some-ne-none b (sym e))
at_end (x ∷ xs) a b zero e = inl e
at_end (x ∷ xs) a b (suc j) e = ⊎_elim (λ (h : get_elem? xs j ≡ some b). inl h) (λ (h : (j ≡ length xs) × (a ≡ b)). inr (ap suc h.0, h.1)) (at_end xs a b j e)

-- ---- numbers in a list

pub has_cons : (n x : ℕ) (xs : List ℕ) → has n (x ∷ xs) ≡ true → (x ≡ n) ⊎ (has n xs ≡ true)
has_cons n x xs e = ⊎_elim (λ (h : x ≡ n). inl h) (λ (h : x ≢ n). inr (sym (ap (λ b. b || has n xs) (ne_eqb x n h)) ∙ e)) (nat_dec x n)

pub has_first : (n x : ℕ) (xs : List ℕ) → x ≡ n → has n (x ∷ xs) ≡ true
has_first n x xs e = ap (λ b. b || has n xs) (eq-eqb x n e)

pub has_rest : (n x : ℕ) (xs : List ℕ) → has n xs ≡ true → has n (x ∷ xs) ≡ true
has_rest n x xs e = elim (x == n) as (λ b. (b || has n xs) ≡ true) [ true ↦ refl | false ↦ e ]

pub has_one : (n x : ℕ) → has n (x ∷ []) ≡ true → x ≡ n
has_one n x e = ⊎_elim (λ (h : x ≡ n). h) (λ h. absurd (true≢false (sym h))) (has_cons n x [] e)

pub has-append : (n : ℕ) (xs ys : List ℕ) → has n (xs ++ ys) ≡ (has n xs || has n ys)
has-append n [] ys = refl
has-append n (x ∷ xs) ys = elim (x == n) as (λ b. (b || has n (xs ++ ys)) ≡ ((b || has n xs) || has n ys)) [ true ↦ refl | false ↦ has-append n xs ys ]

or_true : (a b : Bool) → (a || b) ≡ true → (a ≡ true) ⊎ (b ≡ true)
or_true true b e = inl refl
or_true false b e = inr e

pub not_true : (b : Bool) → (b ≡ true → ⊥) → b ≡ false
not_true b never = elim b as (λ t. b ≡ t → t ≡ false) [ true ↦ λ e. absurd (never e) | false ↦ λ _. refl ] refl

pub has_either : (n : ℕ) (xs ys : List ℕ) → has n (xs ++ ys) ≡ true → (has n xs ≡ true) ⊎ (has n ys ≡ true)
has_either n xs ys e = or_true (has n xs) (has n ys) (sym (has-append n xs ys) ∙ e)

pub has_left : (n : ℕ) (xs ys : List ℕ) → has n xs ≡ true → has n (xs ++ ys) ≡ true
has_left n xs ys e = has-append n xs ys ∙ ap (λ b. b || has n ys) e

pub has_right : (n : ℕ) (xs ys : List ℕ) → has n ys ≡ true → has n (xs ++ ys) ≡ true
has_right n xs ys e = has-append n xs ys ∙ elim (has n xs) as (λ b. (b || has n ys) ≡ true) [ true ↦ refl | false ↦ e ]

-- ---- distinct numbers

pub distinct_both : (xs ys : List ℕ) → AreDistinct xs → AreDistinct ys → ((n : ℕ) → has n xs ≡ true → has n ys ≡ true → ⊥) → AreDistinct (xs ++ ys)
distinct_both [] ys d e apart = e
distinct_both (x ∷ xs) ys d e apart = (
  not_true (has x (xs ++ ys)) (λ h. ⊎_elim (λ (a : has x xs ≡ true). true≢false (sym a ∙ d.0)) (λ (b : has x ys ≡ true). apart x (has_first x x xs refl) b) (has_either x xs ys h)),
  distinct_both xs ys d.1 e (λ n h k. apart n (has_rest n x xs h) k),
)

pub distinct_apart : (xs ys : List ℕ) → AreDistinct (xs ++ ys) → (n : ℕ) → has n xs ≡ true → has n ys ≡ false
distinct_apart [] ys d n h = absurd (true≢false (sym h))
distinct_apart (x ∷ xs) ys d n h = ⊎_elim
    (λ (e : x ≡ n). not_true (has n ys) (λ k. true≢false (sym (has_right n xs ys k) ∙ (ap (λ m. has m (xs ++ ys)) (sym e) ∙ d.0))))
    (λ (e : has n xs ≡ true). distinct_apart xs ys d.1 n e)
    (has_cons n x xs h)
