-- Long brackets.
use Rattle.std.proofs.Common.{◌≡◌, refl, ap, ℕ, zero, suc, ◌+◌, ◌≤◌, Bool, true, false, nat_eq, ◌&&◌, List, [], ◌∷◌, length, Option, Some, None, arith}
use Rattle.std.proofs.lemmas.Bool.{ne_eqb}
use Rattle.lua_lexer.specs.Spellings.{rest_closes, one_more, close_at}

-- the place, counted from k bytes before
abbrev pub further : ℕ → Option ℕ → Option ℕ
further k None = None
further k (Some j) = Some (k + j)

further_more : (k : ℕ) (o : Option ℕ) → further k (one_more o) ≡ further (k + 1) o
further_more k None = refl
further_more k (Some j) = ap Some (omega arith)

pub further_start : (o : Option ℕ) → o ≡ further 0 o
further_start None = refl
further_start (Some j) = ap Some (omega arith)

pub further_end : (n k : ℕ) (v : List ℕ) → v ≡ [] → further k (close_at n v) ≡ None
unfolding close_at
further_end n k v e = rw e refl

pub further_here : (n k : ℕ) (v : List ℕ) (b : ℕ) (bs : List ℕ) → v ≡ b ∷ bs → b ≡ 93 → rest_closes n bs ≡ true → further k (close_at n v) ≡ Some k
unfolding close_at
further_here n k v b bs e h g = rw (e, h, g) (ap Some (omega arith))

by_both : (n k : ℕ) (b : ℕ) (bs : List ℕ) → (nat_eq b 93 && rest_closes n bs) ≡ false → further k (close_at n (b ∷ bs)) ≡ further (k + 1) (close_at n bs)
unfolding close_at
by_both n k b bs e = rw e (further_more k (close_at n bs))

pub further_on : (n k : ℕ) (v : List ℕ) (b : ℕ) (bs : List ℕ) → v ≡ b ∷ bs → rest_closes n bs ≡ false → further k (close_at n v) ≡ further (k + 1) (close_at n bs)
further_on n k v b bs e h = rw e (by_both n k b bs (rw h (and_false (nat_eq b 93))))
  where
    and_false : (x : Bool) → (x && false) ≡ false
    and_false true = refl
    and_false false = refl

pub further_off : (n k : ℕ) (v : List ℕ) (b : ℕ) (bs : List ℕ) → v ≡ b ∷ bs → (b ≡ 93 → ⊥) → further k (close_at n v) ≡ further (k + 1) (close_at n bs)
further_off n k v b bs e h = rw e (by_both n k b bs (ap (λ x. x && rest_closes n bs) (ne_eqb b 93 h)))

equals_then : (v : Bool) (n : ℕ) (bs : List ℕ) → (rest_closes n bs ≡ true → n + 1 ≤ length bs) → (v && rest_closes n bs) ≡ true → suc n + 1 ≤ suc (length bs)
equals_then true n bs ih e = omega (arith, ih e)
equals_then false n bs ih e = cc

pub rest_long : (n : ℕ) (bs : List ℕ) → rest_closes n bs ≡ true → n + 1 ≤ length bs
rest_long n [] e = cc
rest_long zero (b ∷ bs) e = omega arith
rest_long (suc n) (b ∷ bs) e = equals_then (nat_eq b 61) n bs (rest_long n bs) e

pub ruleset close_rules = (further_start, further_end, further_here, further_on, further_off, rest_long)
