-- Classes of ASCII bytes (Lua manual, section 6.4.1).
use Rattle.std.specs.Prelude.{ℕ, Bool, not, nat_eq, nat_le, nat_lt, ◌&&◌, ◌||◌}
use Rattle.lua_pattern.specs.declared.class.Class.{Class}
use Rattle.lua_pattern.specs.declared.class.Class.TheVariants.{Letter, Control, Digit, Printed, Lower, Punctuation, Space, Upper, Alphanumeric, HexDigit}

abbrev pub is_lower : ℕ → Bool
is_lower b = nat_le 97 b && nat_le b 122

abbrev pub is_upper : ℕ → Bool
is_upper b = nat_le 65 b && nat_le b 90

abbrev pub is_digit : ℕ → Bool
is_digit b = nat_le 48 b && nat_le b 57

abbrev pub is_letter : ℕ → Bool
is_letter b = is_lower b || is_upper b

abbrev pub is_alphanumeric : ℕ → Bool
is_alphanumeric b = is_letter b || is_digit b

-- printed, and no space
abbrev pub is_printed : ℕ → Bool
is_printed b = nat_le 33 b && nat_le b 126

abbrev pub is_hex_digit : ℕ → Bool
is_hex_digit b = is_digit b || (nat_le 97 b && nat_le b 102) || (nat_le 65 b && nat_le b 70)

abbrev pub in_class : Class → ℕ → Bool
in_class Letter b = is_letter b
in_class Control b = nat_lt b 32 || nat_eq b 127
in_class Digit b = is_digit b
in_class Printed b = is_printed b
in_class Lower b = is_lower b
in_class Punctuation b = is_printed b && not (is_alphanumeric b)
in_class Space b = nat_eq b 32 || (nat_le 9 b && nat_le b 13)
in_class Upper b = is_upper b
in_class Alphanumeric b = is_alphanumeric b
in_class HexDigit b = is_hex_digit b
