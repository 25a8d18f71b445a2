-- Numbers that digits write.
use Rattle.std.proofs.Common.{◌≡◌, refl, sym, ◌∙◌, ap, ℕ, ◌+◌, ◌*◌, ◌%◌, ◌^◌, ◌≤◌, ◌<◌, Bool, true, false, if◌then◌else◌, List, [], ◌∷◌, Option, Some, None, arith}
use Rattle.std.specs.Prelude.{option_map}
use Rattle.std.proofs.Math.Nat.{mod-add-mod, mod-eq_of_lt}
use Rattle.std.proofs.lemmas.Nat.{mul-mod_first}
use Rattle.std.proofs.lemmas.Bool.{lt-ltb, le-ltb, lt-leb}
use Rattle.int_ops.specs.Reading.{digit_of, number_after, are_digits, number_in}
use Rattle.int_ops.specs.View.{small}

-- the number that the digits write after n, modulo 2^64, if they are digits
abbrev pub rest_of : ℕ → ℕ → List ℕ → Option ℕ
rest_of base n bs = if are_digits base bs then Some (number_after base n bs % 2 ^ 64) else None

step_mod : (base n m d : ℕ) → n % 2 ^ 64 ≡ m % 2 ^ 64 → (n * base + d) % 2 ^ 64 ≡ (m * base + d) % 2 ^ 64
step_mod base n m d e =
    sym (mod-add-mod (n * base) (2 ^ 64) d)
    ∙ ap (λ z. (z + d) % 2 ^ 64) (sym (mul-mod_first n base (2 ^ 64)) ∙ ap (λ z. (z * base) % 2 ^ 64) e ∙ mul-mod_first m base (2 ^ 64))
    ∙ mod-add-mod (m * base) (2 ^ 64) d

after_mod : (base n m : ℕ) (bs : List ℕ) → n % 2 ^ 64 ≡ m % 2 ^ 64 → number_after base n bs % 2 ^ 64 ≡ number_after base m bs % 2 ^ 64
after_mod base n m [] e = e
after_mod base n m (b ∷ bs) e = after_mod base (n * base + digit_of b) (m * base + digit_of b) bs (step_mod base n m (digit_of b) e)

rest_same : (base n m : ℕ) (bs : List ℕ) → n % 2 ^ 64 ≡ m % 2 ^ 64 → rest_of base n bs ≡ rest_of base m bs
rest_same base n m bs e = ap (λ z. if are_digits base bs then Some z else None) (after_mod base n m bs e)

pub rest_whole : (base : ℕ) (bs : List ℕ) → (bs ≡ [] → ⊥) → rest_of base 0 bs ≡ option_map (λ n. n % 2 ^ 64) (number_in base bs)
rest_whole base [] n = absurd (n refl)
rest_whole base (b ∷ bs) n = by (are_digits base (b ∷ bs))
  where
    by : (v : Bool) → (if v then Some (number_after base 0 (b ∷ bs) % 2 ^ 64) else None) ≡ option_map (λ k. k % 2 ^ 64) (if v then Some (number_after base 0 (b ∷ bs)) else None)
    by true = refl
    by false = refl

pub rest_end : (base n : ℕ) (v : List ℕ) → v ≡ [] → n < 2 ^ 64 → rest_of base n v ≡ Some n
rest_end base n v e f = rw e (ap Some (mod-eq_of_lt f))

pub rest_bad : (base n : ℕ) (v : List ℕ) (b : ℕ) (bs : List ℕ) → v ≡ b ∷ bs → base ≤ digit_of b → rest_of base n v ≡ None
rest_bad base n v b bs e f = rw e (rw (le-ltb (digit_of b) base f) refl)

pub rest_more : (base n m : ℕ) (v : List ℕ) (b : ℕ) (bs : List ℕ) → v ≡ b ∷ bs → digit_of b < base → m % 2 ^ 64 ≡ (n * base + digit_of b) % 2 ^ 64 → rest_of base n v ≡ rest_of base m bs
rest_more base n m v b bs e f g = rw e (rw (lt-ltb (digit_of b) base f) (rest_same base (n * base + digit_of b) m bs (sym g)))

pub ruleset number_rules = (rest_whole, rest_end, rest_bad, rest_more)

-- the number that the digits write after n, if they are decimal digits and it is at most 2^63
abbrev pub small_rest : ℕ → List ℕ → Option ℕ
small_rest n bs = if are_digits 10 bs then small (Some (number_after 10 n bs)) else None

pub small_whole : (bs : List ℕ) → (bs ≡ [] → ⊥) → small_rest 0 bs ≡ small (number_in 10 bs)
small_whole [] n = absurd (n refl)
small_whole (b ∷ bs) n = by (are_digits 10 (b ∷ bs))
  where
    by : (v : Bool) → (if v then small (Some (number_after 10 0 (b ∷ bs))) else None) ≡ small (if v then Some (number_after 10 0 (b ∷ bs)) else None)
    by true = refl
    by false = refl

pub small_bad : (n : ℕ) (v : List ℕ) (b : ℕ) (bs : List ℕ) → v ≡ b ∷ bs → 10 ≤ digit_of b → small_rest n v ≡ None
small_bad n v b bs e f = rw e (rw (le-ltb (digit_of b) 10 f) refl)

pub small_more : (n m : ℕ) (v : List ℕ) (b : ℕ) (bs : List ℕ) → v ≡ b ∷ bs → digit_of b < 10 → m ≡ n * 10 + digit_of b → small_rest n v ≡ small_rest m bs
small_more n m v b bs e f g = rw e (rw (lt-ltb (digit_of b) 10 f) (ap (λ z. small_rest z bs) (sym g)))

grows : (n : ℕ) (bs : List ℕ) → n ≤ number_after 10 n bs
grows n [] = omega arith
grows n (b ∷ bs) = omega (arith, grows (n * 10 + digit_of b) bs)

too_great : (n : ℕ) (bs : List ℕ) → 2 ^ 63 < n → small_rest n bs ≡ None
too_great n bs f = by (are_digits 10 bs)
  where
    by : (v : Bool) → (if v then small (Some (number_after 10 n bs)) else None) ≡ None
    by true = rw (lt-leb (number_after 10 n bs) (2 ^ 63) (omega (arith, f, grows n bs))) refl
    by false = refl

pub small_none : (n m : ℕ) (v : List ℕ) (b : ℕ) (bs : List ℕ) → v ≡ b ∷ bs → digit_of b < 10 → 2 ^ 60 ≤ n → 2 ^ 63 < m → small_rest n v ≡ small_rest m bs
small_none n m v b bs e f g h = rw e (rw (lt-ltb (digit_of b) 10 f) (too_great (n * 10 + digit_of b) bs (omega (arith, g)) ∙ sym (too_great m bs h)))

pub ruleset small_rules = (small_whole, small_bad, small_more, small_none)
