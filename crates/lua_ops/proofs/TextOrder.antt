-- `<` of slices is `text_lt`.
use Rattle.std.proofs.Common.{◌≡◌, ℕ, List, Bool, refl, arith}
use Rattle.std.specs.Ordering.{nat_cmp, is_lt, is_some_and}
use Rattle.std.specs.Prelude.{Some}
use Rattle.std.specs.Cmp.Lexicographic.{slice_partial_cmp}
use Rattle.std.proofs.lemmas.Cmp.{same_from_slice_cmp_tested}
use Rattle.std.proofs.lemmas.Bool.Decides.{nat_tests}
use Rattle.lua_ops.specs.Metamethods.{text_lt}

pub is_text_lt : (xs ys : List ℕ) (r : Bool) → r ≡ is_some_and is_lt (slice_partial_cmp (λ x y. Some (nat_cmp x y)) xs ys) → r ≡ text_lt xs ys
is_text_lt = same_from_slice_cmp_tested nat_cmp is_lt text_lt refl (λ _ _. refl) (λ _ _. refl) (λ x y xs ys o h. grind (arith, nat_tests))

pub ruleset text_rules = (is_text_lt)
