-- The length of a run.
use Rattle.std.proofs.Common.{◌≡◌, refl, ap, ◌∙◌, ℕ, suc, ◌+◌, ◌<◌, Bool, true, false, List, [], ◌∷◌, length, drop, get_or, drop-cons, add-one, if◌then◌else◌}
use Rattle.lua_pattern.specs.Singles.{run_length, any}

pub run_at : (test : ℕ → Bool) (bs : List ℕ) (i : ℕ) → i < length bs → run_length test (drop i bs) ≡ (if test (get_or bs i 0) then suc (run_length test (drop (suc i) bs)) else 0)
run_at test bs i h = rw (drop-cons bs i 0 h) refl

pub run_stops : (test : ℕ → Bool) (bs : List ℕ) (i : ℕ) → i < length bs → test (get_or bs i 0) ≡ false → run_length test (drop i bs) ≡ 0
run_stops test bs i h e = run_at test bs i h ∙ rw e refl

pub run_goes_on : (test : ℕ → Bool) (bs : List ℕ) (i : ℕ) → i < length bs → test (get_or bs i 0) ≡ true → run_length test (drop i bs) ≡ suc (run_length test (drop (i + 1) bs))
run_goes_on test bs i h e = run_at test bs i h ∙ rw (e, add-one i) refl

-- every byte passes
pub run_any : (bs : List ℕ) → run_length any bs ≡ length bs
run_any [] = refl
run_any (b ∷ bs) = ap suc (run_any bs)

pub ruleset run_rules = (run_stops, run_goes_on, run_any)
