-- Parts of a subject.
use Rattle.std.proofs.Common.{◌≡◌, refl, ◌∙◌, ℕ, zero, suc, ◌-◌, ◌≤◌, ◌<◌, List, length, drop, get_or, drop-cons, sub-one, arith}
use Rattle.lua_pattern.specs.Matches.{byte_before, byte_from}

pub byte_from_drop : (bs : List ℕ) (i : ℕ) → i < length bs → byte_from (drop i bs) ≡ get_or bs i 0
byte_from_drop bs i h = rw (drop-cons bs i 0 h) refl

pub byte_before_drop : (bs : List ℕ) (i : ℕ) → 0 < i → i ≤ length bs → byte_before bs i ≡ get_or bs (i - 1) 0
byte_before_drop bs zero h l = absurd (omega arith)
byte_before_drop bs (suc i) h l = byte_from_drop bs i (omega arith) ∙ rw (sub-one (suc i)) refl

pub ruleset byte_rules = (byte_from_drop, byte_before_drop)
