-- Numbers after a sign.
use Rattle.std.proofs.Common.{◌≡◌, refl, sym, ◌∙◌, ap, ℕ, zero, suc, ◌-◌, ◌%◌, ◌^◌, ◌≤◌, ◌<◌, Bool, true, false, if◌then◌else◌, nat_le, Option, Some, None, arith}
use Rattle.std.specs.Prelude.{ℤ, pos, negsuc, neg_ℤ, ◌-ℤ◌, option_map, FitsSigned}
use Rattle.std.specs.Int.{w64, cast_signed, int_wrap}
use Rattle.std.proofs.lemmas.Int.{ints, int_wrap-sub_right, int_wrap_fits}
use Rattle.std.proofs.lemmas.Bool.{le-leb, lt-leb, leb-true, leb-false}
use Rattle.std.proofs.Math.Nat.{mod-eq_of_lt, mod-mod}
use Rattle.int_ops.specs.Wrapping.{wrapped}
use Rattle.int_ops.specs.Reading.{signed, within}
use Rattle.int_ops.specs.View.{small}

-- 64 bits as a number
cast_wrapped : (n : ℕ) → cast_signed w64 (n % 2 ^ 64) ≡ wrapped (pos n)
unfolding int_wrap
cast_wrapped n = refl

minus_from_zero : (z : ℤ) → neg_ℤ z ≡ pos 0 -ℤ z
minus_from_zero (pos zero) = refl
minus_from_zero (pos (suc n)) = omega (arith, ints)
minus_from_zero (negsuc n) = omega (arith, ints)

neg_wrapped : (n : ℕ) → wrapped (neg_ℤ (cast_signed w64 (n % 2 ^ 64))) ≡ wrapped (neg_ℤ (pos n))
neg_wrapped n =
    ap wrapped (minus_from_zero (cast_signed w64 (n % 2 ^ 64)) ∙ ap (λ z. pos 0 -ℤ z) (cast_wrapped n))
    ∙ int_wrap-sub_right w64 (pos 0) (pos n)
    ∙ ap wrapped (sym (minus_from_zero (pos n)))

pub cast_small : (n : ℕ) → n < 2 ^ 64 → cast_signed w64 n ≡ wrapped (pos n)
cast_small n f = ap (cast_signed w64) (sym (mod-eq_of_lt f)) ∙ cast_wrapped n

pub neg_small : (n : ℕ) → n < 2 ^ 64 → wrapped (neg_ℤ (cast_signed w64 n)) ≡ wrapped (neg_ℤ (pos n))
neg_small n f = ap (λ z. wrapped (neg_ℤ (cast_signed w64 z))) (sym (mod-eq_of_lt f)) ∙ neg_wrapped n

pub ruleset wrap_rules = (cast_small, neg_small)

pos_mod : (n : ℕ) → wrapped (pos (n % 2 ^ 64)) ≡ wrapped (pos n)
unfolding int_wrap
pos_mod n = ap (cast_signed w64) (mod-mod n (2 ^ 64))

signed_mod : (minus : Bool) (n : ℕ) → wrapped (signed minus (n % 2 ^ 64)) ≡ wrapped (signed minus n)
signed_mod false n = pos_mod n
signed_mod true n =
    ap wrapped (minus_from_zero (pos (n % 2 ^ 64)))
    ∙ sym (int_wrap-sub_right w64 (pos 0) (pos (n % 2 ^ 64)))
    ∙ ap (λ z. wrapped (pos 0 -ℤ z)) (pos_mod n)
    ∙ int_wrap-sub_right w64 (pos 0) (pos n)
    ∙ ap wrapped (sym (minus_from_zero (pos n)))

-- ---- what the numbers of a text give

abbrev number_of : Option ℕ → ℕ
number_of None = 0
number_of (Some n) = n

pub wrapped_some : (minus : Bool) (o : Option ℕ) (n : ℕ) → option_map (λ k. k % 2 ^ 64) o ≡ Some n → option_map (λ k. wrapped (signed minus k)) o ≡ Some (wrapped (signed minus n))
wrapped_some minus None n e = cc
wrapped_some minus (Some k) n e = ap Some (sym (signed_mod minus k) ∙ ap (λ z. wrapped (signed minus z)) (ap number_of e))

pub wrapped_none : (minus : Bool) (o : Option ℕ) → option_map (λ k. k % 2 ^ 64) o ≡ None → option_map (λ k. wrapped (signed minus k)) o ≡ None
wrapped_none minus None e = refl
wrapped_none minus (Some k) e = cc

pub ruleset sign_rules = (wrapped_some, wrapped_none)

neg_fits : (n : ℕ) → n ≤ 2 ^ 63 → FitsSigned w64 (neg_ℤ (pos n))
neg_fits zero h = omega (arith, ints)
neg_fits (suc n) h = omega (arith, ints)

small_by : (k : ℕ) (v : Bool) (n : ℕ) → nat_le k (2 ^ 63) ≡ v → (if v then Some k else None) ≡ Some n → (k ≡ n) × (k ≤ 2 ^ 63)
small_by k true n f e = (ap number_of e, leb-true k (2 ^ 63) f)
small_by k false n f e = cc

small_is : (k n : ℕ) → small (Some k) ≡ Some n → (k ≡ n) × (k ≤ 2 ^ 63)
small_is k n e = small_by k (nat_le k (2 ^ 63)) n refl e

pub decimal_minus : (o : Option ℕ) (n : ℕ) → small o ≡ Some n → within true o ≡ Some (wrapped (neg_ℤ (cast_signed w64 n)))
decimal_minus None n e = cc
decimal_minus (Some k) n e =
    let h = small_is k n e in
    let f : n ≤ 2 ^ 63 = omega (arith, h.0, h.1) in
    rw (le-leb k (2 ^ 63) h.1) (ap Some (ap (λ z. neg_ℤ (pos z)) h.0 ∙ sym (neg_small n (omega (arith, f)) ∙ int_wrap_fits w64 (neg_ℤ (pos n)) (neg_fits n f))))

pub decimal_plus : (o : Option ℕ) (n : ℕ) → small o ≡ Some n → n < 2 ^ 63 → within false o ≡ Some (pos n)
decimal_plus None n e f = cc
decimal_plus (Some k) n e f = let h = small_is k n e in rw (le-leb k (2 ^ 63 - 1) (omega (arith, h.0, f))) (ap (λ z. Some (pos z)) h.0)

pub decimal_over : (o : Option ℕ) (n : ℕ) → small o ≡ Some n → 2 ^ 63 ≤ n → within false o ≡ None
decimal_over None n e f = cc
decimal_over (Some k) n e f = let h = small_is k n e in rw (lt-leb k (2 ^ 63 - 1) (omega (arith, h.0, f))) refl

none_by : (k : ℕ) (v : Bool) → nat_le k (2 ^ 63) ≡ v → (if v then Some k else None) ≡ None → 2 ^ 63 < k
none_by k true f e = cc
none_by k false f e = leb-false k (2 ^ 63) f

over_limit : (minus : Bool) (k : ℕ) → 2 ^ 63 < k → within minus (Some k) ≡ None
over_limit true k h = rw (lt-leb k (2 ^ 63) h) refl
over_limit false k h = rw (lt-leb k (2 ^ 63 - 1) (omega (arith, h))) refl

pub decimal_none : (minus : Bool) (o : Option ℕ) → small o ≡ None → within minus o ≡ None
decimal_none minus None e = refl
decimal_none minus (Some k) e = over_limit minus k (none_by k (nat_le k (2 ^ 63)) refl e)

pub ruleset decimal_rules = (decimal_minus, decimal_plus, decimal_over, decimal_none)
