-- Kinds of bytes, runs of them, and line ends (Lua manual, section 3.1).
use Rattle.std.specs.Prelude.{◌≡◌, ℕ, suc, ◌≤◌, ◌-◌, Bool, if◌then◌else◌, nat_le, nat_eq, ◌||◌, ◌&&◌, not, List, [], ◌∷◌, length, drop}

abbrev pub is_digit : ℕ → Bool
is_digit b = nat_le 48 b && nat_le b 57

-- a letter of ASCII, or an underscore
abbrev pub is_letter : ℕ → Bool
is_letter b = (nat_le 97 b && nat_le b 122) || (nat_le 65 b && nat_le b 90) || nat_eq b 95

abbrev pub is_word : ℕ → Bool
is_word b = is_letter b || is_digit b

abbrev pub is_hex_digit : ℕ → Bool
is_hex_digit b = is_digit b || (nat_le 97 b && nat_le b 102) || (nat_le 65 b && nat_le b 70)

abbrev pub is_line_end : ℕ → Bool
is_line_end b = nat_eq b 10 || nat_eq b 13

-- space, tab, line feed, vertical tab, form feed, carriage return
abbrev pub is_blank : ℕ → Bool
is_blank b = nat_eq b 32 || (nat_le 9 b && nat_le b 13)

abbrev pub is_inline : ℕ → Bool
is_inline b = not (is_line_end b)

abbrev pub is_equals : ℕ → Bool
is_equals b = nat_eq b 61

abbrev pub is_quote : ℕ → Bool
is_quote b = nat_eq b 34 || nat_eq b 39

-- the longest run of such bytes from the front on
abbrev pub run : (ℕ → Bool) → List ℕ → List ℕ
run p [] = []
run p (b ∷ bs) = if p b then b ∷ run p bs else []

-- what stands after it
abbrev pub past : (ℕ → Bool) → List ℕ → List ℕ
past p [] = []
past p (b ∷ bs) = if p b then past p bs else b ∷ bs

-- CR LF and LF CR are one line end
abbrev pub is_pair : ℕ → ℕ → Bool
is_pair b c = (nat_eq b 10 && nat_eq c 13) || (nat_eq b 13 && nat_eq c 10)

-- how many line ends there are
unfoldable pub line_ends : List ℕ → ℕ
line_ends [] = 0
line_ends (b ∷ []) = if is_line_end b then 1 else 0
line_ends (b ∷ c ∷ bs) =
    if is_pair b c then suc (line_ends bs) else
    (if is_line_end b then suc (line_ends (c ∷ bs)) else line_ends (c ∷ bs))

-- the bytes with each line end as one LF
unfoldable pub line_feeds : List ℕ → List ℕ
line_feeds [] = []
line_feeds (b ∷ []) = (if is_line_end b then 10 else b) ∷ []
line_feeds (b ∷ c ∷ bs) =
    if is_pair b c then 10 ∷ line_feeds bs else (if is_line_end b then 10 else b) ∷ line_feeds
    (c ∷ bs)

-- without a line end at the front
abbrev pub past_line_end : List ℕ → List ℕ
past_line_end [] = []
past_line_end (b ∷ []) = if is_line_end b then [] else b ∷ []
past_line_end (b ∷ c ∷ bs) =
    if is_pair b c then bs else (if is_line_end b then c ∷ bs else b ∷ c ∷ bs)

-- the bytes end with these
abbrev pub EndsWith : List ℕ → List ℕ → Type 0
EndsWith script bytes =
    (length bytes ≤ length script) × (drop (length script - length bytes) script ≡ bytes)
