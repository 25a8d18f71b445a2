-- Texts in the order in which they were first named. The number of a text is its place.
use Rattle.std.specs.Prelude.{ℕ, List, [], ◌∷◌, ◌++◌, Option, position, if◌then◌else◌}
use Rattle.std.specs.List.{list_any, position_or_len}
use Rattle.std.specs.Str.{bytes_eq}

-- the texts once this one is named
abbrev pub named : List (List ℕ) → List ℕ → List (List ℕ)
named texts text = if list_any (bytes_eq text) texts then texts else texts ++ text ∷ []

-- the number that the text has then
abbrev pub number_of : List (List ℕ) → List ℕ → ℕ
number_of texts text = position_or_len (bytes_eq text) texts

-- the number of a text that is held
abbrev pub found : List (List ℕ) → List ℕ → Option ℕ
found texts text = position (bytes_eq text) texts
