-- Steps of the search for a closing bracket.
use Rattle.std.proofs.Common.{◌≡◌, refl, ap, ◌∙◌, ℕ, suc, ◌+◌, ◌-◌, ◌<◌, Bool, true, false, ◌&&◌, nat_eq, List, length, drop, get_or, drop-cons, add-one, eq-eqb, if◌then◌else◌, arith, Option, Some, None, option_map}
use Rattle.std.proofs.lemmas.Bool.{ne_eqb}
use Rattle.lua_pattern.specs.Matches.{closing, depth_after}

shift : (i : ℕ) (t : Bool) (found : Option ℕ) → option_map (λ n. i + n) (if t then Some 1 else option_map suc found) ≡ (if t then Some (i + 1) else option_map (λ n. (i + 1) + n) found)
shift i true found = refl
shift i false None = refl
shift i false (Some n) = ap Some (omega arith)

closing_step : (o c d i : ℕ) (bs : List ℕ) → i < length bs → option_map (λ n. i + n) (closing o c d (drop i bs)) ≡ (if nat_eq (get_or bs i 0) c && nat_eq d 1 then Some (i + 1) else option_map (λ n. (i + 1) + n) (closing o c (depth_after o c (get_or bs i 0) d) (drop (i + 1) bs)))
closing_step o c d i bs h = rw (drop-cons bs i 0 h) (shift i (nat_eq (get_or bs i 0) c && nat_eq d 1) (closing o c (depth_after o c (get_or bs i 0) d) (drop (suc i) bs)) ∙ rw (add-one i) refl)

pub closing_done : (o c d i : ℕ) (bs : List ℕ) → i < length bs → get_or bs i 0 ≡ c → d ≡ 1 → option_map (λ n. i + n) (closing o c d (drop i bs)) ≡ Some (i + 1)
closing_done o c d i bs h e one = closing_step o c d i bs h ∙ rw (eq-eqb (get_or bs i 0) c e, eq-eqb d 1 one) refl

pub closing_closes : (o c d i : ℕ) (bs : List ℕ) → i < length bs → get_or bs i 0 ≡ c → (d ≡ 1 → ⊥) → option_map (λ n. i + n) (closing o c d (drop i bs)) ≡ option_map (λ n. (i + 1) + n) (closing o c (d - 1) (drop (i + 1) bs))
closing_closes o c d i bs h e more = closing_step o c d i bs h ∙ rw (eq-eqb (get_or bs i 0) c e, ne_eqb d 1 more) refl

pub closing_opens : (o c d i : ℕ) (bs : List ℕ) → i < length bs → (get_or bs i 0 ≡ c → ⊥) → get_or bs i 0 ≡ o → option_map (λ n. i + n) (closing o c d (drop i bs)) ≡ option_map (λ n. (i + 1) + n) (closing o c (d + 1) (drop (i + 1) bs))
closing_opens o c d i bs h other e = closing_step o c d i bs h ∙ rw (ne_eqb (get_or bs i 0) c other, eq-eqb (get_or bs i 0) o e) refl

pub closing_passes : (o c d i : ℕ) (bs : List ℕ) → i < length bs → (get_or bs i 0 ≡ c → ⊥) → (get_or bs i 0 ≡ o → ⊥) → option_map (λ n. i + n) (closing o c d (drop i bs)) ≡ option_map (λ n. (i + 1) + n) (closing o c d (drop (i + 1) bs))
closing_passes o c d i bs h other neither = closing_step o c d i bs h ∙ rw (ne_eqb (get_or bs i 0) c other, ne_eqb (get_or bs i 0) o neither) refl

pub ruleset closing_rules = (closing_done, closing_closes, closing_opens, closing_passes)
