-- A table is its list of pairs of a key and a value, in the order in which the keys were first set
-- (the Lua 5.4 manual, section 2.1, leaves that order open). No key has two pairs. A pair whose
-- value is `Nil` is dead, any other is live.
use Rattle.std.specs.Prelude.{◌≡◌, ◌≢◌, false, ℕ, ℤ, zero, suc, length, ◌+◌, ◌<◌, pos, Bool, not, if◌then◌else◌, List, [], ◌∷◌, ◌++◌, Option, None, Some, nat_lt, count_by, filter, is_some}
use Rattle.std.specs.Map.{lookup, set_value, keys_of, values_of}
use Rattle.std.specs.List.{IsDistinct}
use Rattle.std.specs.Option.{unwrap_or, option_map}
use Rattle.object_store.specs.declared.value.Value.{Value}
use Rattle.object_store.specs.declared.value.Value.TheVariants.{Nil, Int}
use Rattle.object_store.specs.Value.{value_eq, is_nil}

abbrev pub is_live : Value × Value → Bool
is_live pair = not (is_nil pair.1)

-- how many pairs are dead, and how many are live
abbrev pub dead_count : List (Value × Value) → ℕ
dead_count pairs = count_by is_nil (values_of pairs)

abbrev pub live_count : List (Value × Value) → ℕ
live_count pairs = count_by (λ value. not (is_nil value)) (values_of pairs)

-- the value of the key's pair, or `Nil` where it has none
abbrev pub get_pair : List (Value × Value) → Value → Value
get_pair pairs key = unwrap_or (lookup (value_eq key) pairs) Nil

-- whether the key has a pair, live or dead
abbrev pub has_pair : List (Value × Value) → Value → Bool
has_pair pairs key = is_some (lookup (value_eq key) pairs)

-- without the dead pairs, where they outnumber the live ones
abbrev pub purged : List (Value × Value) → List (Value × Value)
purged pairs = if nat_lt (live_count pairs) (dead_count pairs) then filter is_live pairs else pairs

-- a key with a pair keeps its place and takes the value; for another key `Nil` changes nothing, and
-- any other value makes a pair, the last one, once the purge is done
abbrev pub set_pair : List (Value × Value) → Value → Value → List (Value × Value)
set_pair pairs key value =
    if has_pair pairs key then set_value (value_eq key) pairs value
    else if is_nil value then pairs
    else purged pairs ++ (key, value) ∷ []

-- the first live pair
abbrev pub first_live : List (Value × Value) → Option (Value × Value)
first_live [] = None
first_live (pair ∷ pairs) = if is_live pair then Some pair else first_live pairs

-- the pairs after the key's, where it has one
abbrev pub rest_after : Value → List (Value × Value) → Option (List (Value × Value))
rest_after key [] = None
rest_after key (pair ∷ pairs) = if value_eq key pair.0 then Some pairs else rest_after key pairs

-- the first live pair after the key's, or of all for `Nil`; no answer where the key has no pair
-- (section 6.1, `next`)
abbrev pub next_pair : List (Value × Value) → Value → Option (Option (Value × Value))
next_pair pairs key = if is_nil key then Some (first_live pairs)
    else option_map first_live (rest_after key pairs)

-- each integer from 1 to n has a value
abbrev pub IsFullTo : List (Value × Value) → ℕ → Type 0
IsFullTo pairs n = (k : ℕ) → k < n → get_pair pairs (Int (pos (k + 1))) ≢ Nil

-- n is the border: the least number such that the integer after it has no value (section 3.4.7
-- allows any border)
pub record IsBorder (pairs : List (Value × Value)) (n : ℕ) : Type 0 where
  pub full : IsFullTo pairs n
  pub ends : get_pair pairs (Int (pos (n + 1))) ≡ Nil

-- the border as an integer
pub record IsBorderAt (pairs : List (Value × Value)) (at : ℤ) : Type 0 where
  pub number : ℕ
  pub is_number : at ≡ pos number
  pub is_border : IsBorder pairs number

-- the border, which is never above the number of pairs
abbrev pub border_from : List (Value × Value) → ℕ → ℕ → ℕ
border_from pairs zero n = n
border_from pairs (suc fuel) n = if is_nil (get_pair pairs (Int (pos (n + 1)))) then n
    else border_from pairs fuel (n + 1)

abbrev pub border_of : List (Value × Value) → ℕ
border_of pairs = border_from pairs (length pairs) 0

-- what holds of each table's pairs: no key has two, and `Nil` has none
pub record IsTable (pairs : List (Value × Value)) : Type 0 where
  pub keys_once : IsDistinct value_eq (keys_of pairs)
  pub no_nil_key : has_pair pairs Nil ≡ false
