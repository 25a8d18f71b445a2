-- What contracts see of a bank, and the room that was reserved in it.
use Rattle.std.specs.Prelude.{◌≡◌, ℕ, nat_eq, List, map, position, slice_get, Some}
use Rattle.std.specs.Map.{keys_of, values_of}
use Rattle.linda_core.specs.BankMeaning.{Bank}
use Rattle.linda_core.specs.Holding.{Holding, content}

-- the lindas by number, and how many more fit without a refusal
pub record BankHolding : Type 0 where
  pub lindas : List (ℕ × Holding)
  pub spare : ℕ

-- without the room
abbrev pub seen_bank : List (ℕ × Holding) → Bank
seen_bank lindas = map (λ entry. (entry.0, content entry.1)) lindas

abbrev pub bank_content : BankHolding → Bank
bank_content bank = seen_bank bank.lindas

-- the linda of this number stands at this place
pub record StandsAt (lindas : List (ℕ × Holding)) (number place : ℕ) (linda : Holding) :
    Type 0 where
  pub found : position (nat_eq number) (keys_of lindas) ≡ Some place
  pub there : slice_get (values_of lindas) place ≡ Some linda
