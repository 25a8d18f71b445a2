use Rattle.std.proofs.Common.{◌≡◌, ◌≤◌, ℕ, [], ap, sym, arith}
use Rattle.std.specs.Option.{unwrap_or}
use Rattle.std.proofs.lemmas.Option.{slice_get_past}
use Rattle.base_lib.specs.Shown.{library_name, library_names}
use Rattle.base_lib.proofs.shown.library_name.Goals as goal

-- there are 61 names
library_name-past : (number : ℕ) → 61 ≤ number → [] ≡ library_name number
library_name-past number past = ap (λ o. unwrap_or o []) (sym (slice_get_past library_names number past))

pub returns-in_default : goal.returns-in_default
returns-in_default c = let k : 61 ≤ c.args.id.number = omega arith in library_name-past c.args.id.number k
