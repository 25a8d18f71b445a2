-- The order of paths.
use Rattle.std.proofs.Common.{◌≡◌, ◌∙◌, ℕ, suc, ◌<◌, ◌⊎◌, inl, inr, [], ◌∷◌, refl, ap, sym, subst, arith}
use Rattle.graph_copy.specs.Paths.{Path, IsBefore, IsUpTo}

pub before-trans : (p q r : Path) → IsBefore p q → IsBefore q r → IsBefore p r
before-trans [] [] r h k = absurd h
before-trans [] (n ∷ q) [] h k = absurd k
before-trans [] (n ∷ q) (o ∷ r) h k = tt
before-trans (m ∷ p) [] r h k = absurd h
before-trans (m ∷ p) (n ∷ q) [] h k = absurd k
before-trans (m ∷ p) (n ∷ q) (o ∷ r) h k = by h k (before-trans p q r)
  where
    by : IsBefore p q ⊎ ((p ≡ q) × (m < n)) → IsBefore q r ⊎ ((q ≡ r) × (n < o)) → (IsBefore p q → IsBefore q r → IsBefore p r) → IsBefore p r ⊎ ((p ≡ r) × (m < o))
    by (inl a) (inl b) rest = inl (rest a b)
    by (inl a) (inr b) rest = inl (subst (IsBefore p) b.0 a)
    by (inr a) (inl b) rest = inl (subst (λ (x : Path). IsBefore x r) (sym a.0) b)
    by (inr a) (inr b) rest = let less : m < o = omega (arith, a.1, b.1) in inr (a.0 ∙ b.0, less)

pub up-trans : (p q r : Path) → IsUpTo p q → IsUpTo q r → IsUpTo p r
up-trans p q r (inl h) (inl k) = inl (before-trans p q r h k)
up-trans p q r (inl h) (inr k) = inl (subst (IsBefore p) k h)
up-trans p q r (inr h) k = subst (λ (x : Path). IsUpTo x r) (sym h) k

-- with one more edge of the same place
pub up-extend : (m : ℕ) (p q : Path) → IsUpTo p q → IsUpTo (m ∷ p) (m ∷ q)
up-extend m p q (inl h) = inl (inl h)
up-extend m p q (inr h) = inr (ap (λ (x : Path). m ∷ x) h)

-- the next place is later
pub before-next : (m : ℕ) (p : Path) → IsBefore (m ∷ p) (suc m ∷ p)
before-next m p = let less : m < suc m = omega arith in inr (refl, less)
