-- Floors of quotients.
use Rattle.std.proofs.Common.{◌≡◌, ◌≢◌, refl, sym, ◌∙◌, ap, ℕ, zero, suc, ◌+◌, ◌*◌, ◌/◌, ◌%◌, ◌≤◌, ◌<◌, true, false, arith}
use Rattle.std.specs.Prelude.{ℤ, pos, negsuc, neg_ℤ, ◌-ℤ◌, ◌+ℤ◌, ◌*ℤ◌, FitsSigned, int_div, int_rem}
use Rattle.std.specs.Int.{w64}
use Rattle.std.proofs.Math.Nat.{div-add-mod, div-eq_of_lt-le}
use Rattle.std.proofs.lemmas.Int.{ints, quot_is, rem_is, quot-rem, int_wrap_fits, to_z-of_z}
use Rattle.std.proofs.Math.IntN.{pred_ℤ-*ℤ, -ℤ_one}
use mir.Val.{to_z, of_z}
use Rattle.int_ops.specs.Wrapping.{wrapped, floor_quotient, floor_remainder, is_cut_upwards, IsFloor}

pub ruleset quotient_rules = (quot_is, rem_is)

-- ---- naturals

up_exact : (a b : ℕ) → a % suc b ≡ 0 → (a + b) / suc b ≡ a / suc b
up_exact a b e = div-eq_of_lt-le {k = a / suc b} (suc b) {m = a + b} (omega (arith, div-add-mod a (suc b), e)) (omega (arith, div-add-mod a (suc b), e))

up_cut : (a b : ℕ) → 0 < a % suc b → (a + b) / suc b ≡ suc (a / suc b)
up_cut a b e = div-eq_of_lt-le {k = suc (a / suc b)} (suc b) {m = a + b} (omega (arith, div-add-mod a (suc b), e)) (omega (arith, div-add-mod a (suc b), e))

down_cut : (a b : ℕ) → 0 < suc a % suc b → a / suc b ≡ suc a / suc b
down_cut a b e = div-eq_of_lt-le {k = suc a / suc b} (suc b) {m = a} (omega (arith, div-add-mod (suc a) (suc b), e)) (omega (arith, div-add-mod (suc a) (suc b), e))

-- with q divisors in a + 1 and nothing left
down_by : (a b q : ℕ) → suc b * q ≡ suc a → suc (a / suc b) ≡ q
down_by a b zero n = absurd (omega (arith, n))
down_by a b (suc q) n = ap suc (div-eq_of_lt-le {k = q} (suc b) {m = a} (omega (arith, n)) (omega (arith, n)))

down_exact : (a b : ℕ) → suc a % suc b ≡ 0 → suc (a / suc b) ≡ suc a / suc b
down_exact a b e = down_by a b (suc a / suc b) (omega (arith, div-add-mod (suc a) (suc b), e))

-- ---- integers

minus_one : (n : ℕ) → neg_ℤ (pos n) -ℤ pos 1 ≡ negsuc n
minus_one zero = refl
minus_one (suc n) = omega (arith, ints)

up_above : (a b r : ℕ) → a % suc b ≡ r → is_cut_upwards (pos r) (negsuc b) ≡ true → neg_ℤ (pos (a / suc b)) -ℤ pos 1 ≡ neg_ℤ (pos ((a + b) / suc b))
up_above a b zero e c = cc
up_above a b (suc r) e c = minus_one (a / suc b) ∙ ap (λ n. neg_ℤ (pos n)) (sym (up_cut a b (omega (arith, e))))

up_same : (a b r : ℕ) → a % suc b ≡ r → is_cut_upwards (pos r) (negsuc b) ≡ false → neg_ℤ (pos (a / suc b)) ≡ neg_ℤ (pos ((a + b) / suc b))
up_same a b zero e c = ap (λ n. neg_ℤ (pos n)) (sym (up_exact a b e))
up_same a b (suc r) e c = cc

down_above : (a b r : ℕ) → suc a % suc b ≡ r → is_cut_upwards (neg_ℤ (pos r)) (pos (suc b)) ≡ true → neg_ℤ (pos (suc a / suc b)) -ℤ pos 1 ≡ negsuc (a / suc b)
down_above a b zero e c = cc
down_above a b (suc r) e c = minus_one (suc a / suc b) ∙ ap negsuc (sym (down_cut a b (omega (arith, e))))

down_same : (a b r : ℕ) → suc a % suc b ≡ r → is_cut_upwards (neg_ℤ (pos r)) (pos (suc b)) ≡ false → neg_ℤ (pos (suc a / suc b)) ≡ negsuc (a / suc b)
down_same a b zero e c = ap (λ n. neg_ℤ (pos n)) (sym (down_exact a b e))
down_same a b (suc r) e c = cc

not_above : (a b r : ℕ) → is_cut_upwards (pos r) (pos b) ≡ false
not_above a b zero = refl
not_above a b (suc r) = refl

not_below : (b r : ℕ) → is_cut_upwards (neg_ℤ (pos r)) (negsuc b) ≡ false
not_below b zero = refl
not_below b (suc r) = refl

-- the cut quotient is one above the floor
pub above_floor : (a b : ℤ) → b ≢ pos 0 → is_cut_upwards (int_rem a b) b ≡ true → int_div a b -ℤ pos 1 ≡ floor_quotient a b
above_floor (pos a) (pos b) n c = let e = not_above a b (a % b) in cc
above_floor (pos a) (negsuc b) n c = up_above a b (a % suc b) refl c
above_floor (negsuc a) (pos zero) n c = absurd (n refl)
above_floor (negsuc a) (pos (suc b)) n c = down_above a b (suc a % suc b) refl c
above_floor (negsuc a) (negsuc b) n c = let e = not_below b (suc a % suc b) in cc

-- or the floor
pub at_floor : (a b : ℤ) → b ≢ pos 0 → is_cut_upwards (int_rem a b) b ≡ false → int_div a b ≡ floor_quotient a b
at_floor (pos a) (pos b) n c = refl
at_floor (pos a) (negsuc b) n c = up_same a b (a % suc b) refl c
at_floor (negsuc a) (pos zero) n c = absurd (n refl)
at_floor (negsuc a) (pos (suc b)) n c = down_same a b (suc a % suc b) refl c
at_floor (negsuc a) (negsuc b) n c = refl

-- a quotient in range is its floor or one above
pub sub_one : (a b q r : ℤ) → b ≢ pos 0 → q ≡ int_div a b → r ≡ int_rem a b → is_cut_upwards r b ≡ true → wrapped (q -ℤ pos 1) ≡ wrapped (floor_quotient a b)
sub_one a b q r n e f c = ap wrapped (ap (λ z. z -ℤ pos 1) e ∙ above_floor a b n (ap (λ z. is_cut_upwards z b) (sym f) ∙ c))

pub same_quotient : (a b q r : ℤ) → b ≢ pos 0 → FitsSigned w64 q → q ≡ int_div a b → r ≡ int_rem a b → is_cut_upwards r b ≡ false → to_z w64 (of_z w64 q) ≡ wrapped (floor_quotient a b)
same_quotient a b q r n s e f c = to_z-of_z w64 q s ∙ sym (int_wrap_fits w64 q s) ∙ ap wrapped (e ∙ at_floor a b n (ap (λ z. is_cut_upwards z b) (sym f) ∙ c))

opposite_fits : (r b : ℤ) → FitsSigned w64 r → FitsSigned w64 b → is_cut_upwards r b ≡ true → FitsSigned w64 (r +ℤ b)
opposite_fits (pos zero) b f g c = cc
opposite_fits (pos (suc r)) (pos b) f g c = cc
opposite_fits (pos (suc r)) (negsuc b) f g c = omega (arith, ints)
opposite_fits (negsuc r) (pos b) f g c = omega (arith, ints)
opposite_fits (negsuc r) (negsuc b) f g c = cc

left_above : (a b q r g : ℤ) → q *ℤ b +ℤ r ≡ a → q -ℤ pos 1 ≡ g → r +ℤ b ≡ a -ℤ (g *ℤ b)
left_above a b q r g e f =
    let h : g *ℤ b ≡ q *ℤ b -ℤ b = ap (λ z. z *ℤ b) (sym f ∙ -ℤ_one q) ∙ pred_ℤ-*ℤ q b in
    omega (arith, ints, e, h)

left_same : (a b q r g : ℤ) → q *ℤ b +ℤ r ≡ a → q ≡ g → r ≡ a -ℤ (g *ℤ b)
left_same a b q r g e f =
    let h : g *ℤ b ≡ q *ℤ b = ap (λ z. z *ℤ b) (sym f) in
    omega (arith, ints, e, h)

pub add_divisor : (a b r : ℤ) → b ≢ pos 0 → FitsSigned w64 r → FitsSigned w64 b → r ≡ int_rem a b → is_cut_upwards r b ≡ true → wrapped (r +ℤ b) ≡ floor_remainder a b
add_divisor a b r n s t f c =
    int_wrap_fits w64 (r +ℤ b) (opposite_fits r b s t c)
    ∙ left_above a b (int_div a b) r (floor_quotient a b) (ap (λ z. int_div a b *ℤ b +ℤ z) f ∙ quot-rem a b) (above_floor a b n (ap (λ z. is_cut_upwards z b) (sym f) ∙ c))

pub same_rest : (a b r : ℤ) → b ≢ pos 0 → FitsSigned w64 r → r ≡ int_rem a b → is_cut_upwards r b ≡ false → to_z w64 (of_z w64 r) ≡ floor_remainder a b
same_rest a b r n s f c =
    to_z-of_z w64 r s
    ∙ left_same a b (int_div a b) r (floor_quotient a b) (ap (λ z. int_div a b *ℤ b +ℤ z) f ∙ quot-rem a b) (at_floor a b n (ap (λ z. is_cut_upwards z b) (sym f) ∙ c))

pub ruleset floor_rules = (sub_one, same_quotient, add_divisor, same_rest)

ceiling : (a b k : ℕ) → suc b * k ≤ a + b → a ≤ suc b * k → IsFloor (pos a) (negsuc b) (neg_ℤ (pos k))
ceiling a b zero h g = (omega (arith, ints, h, g), omega (arith, ints, h, g))
ceiling a b (suc k) h g = (omega (arith, ints, h, g), omega (arith, ints, h, g))

pub is_floor : (a b : ℤ) → b ≢ pos 0 → IsFloor a b (floor_quotient a b)
is_floor (pos a) (pos zero) n = absurd (n refl)
is_floor (pos a) (pos (suc b)) n = (omega (arith, ints, div-add-mod a (suc b)), omega (arith, ints, div-add-mod a (suc b)))
is_floor (pos a) (negsuc b) n = ceiling a b ((a + b) / suc b) (omega (arith, div-add-mod (a + b) (suc b))) (omega (arith, div-add-mod (a + b) (suc b)))
is_floor (negsuc a) (pos zero) n = absurd (n refl)
is_floor (negsuc a) (pos (suc b)) n = (omega (arith, ints, div-add-mod a (suc b)), omega (arith, ints, div-add-mod a (suc b)))
is_floor (negsuc a) (negsuc b) n = (omega (arith, ints, div-add-mod (suc a) (suc b)), omega (arith, ints, div-add-mod (suc a) (suc b)))
