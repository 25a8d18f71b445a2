-- Texts as the string library makes them (Lua 5.4 manual, section 6.4).
use Rattle.std.specs.Prelude.{ℕ, zero, suc, ◌+◌, ◌-◌, ◌*◌, ℤ, pos, negsuc, Bool, nat_le, nat_lt, ◌&&◌, min, List, [], ◌++◌, length, take, drop, if◌then◌else◌}

-- ---- places, counted from 1, and from the end below 0

-- how many bytes stand before the place; place 0 counts as the first
abbrev pub start_place : ℤ → ℕ → ℕ
start_place (pos n) len = n - 1
start_place (negsuc n) len = len - suc n

-- how many bytes there are up to the place, with its own
abbrev pub end_place : ℤ → ℕ → ℕ
end_place (pos n) len = min n len
end_place (negsuc n) len = len - n

-- the bytes from one place up to another, as far as they are there
abbrev pub part : List ℕ → ℤ → ℤ → List ℕ
part text first last =
    drop (start_place first (length text)) (take (end_place last (length text)) text)

-- ---- ASCII letters in another case

abbrev pub lower : ℕ → ℕ
lower b = if nat_le 65 b && nat_le b 90 then b + 32 else b

abbrev pub upper : ℕ → ℕ
upper b = if nat_le 97 b && nat_le b 122 then b - 32 else b

-- ---- copies

-- the most bytes of a string
abbrev pub text_limit : ℕ
text_limit = 67108864

-- so many copies of a text with a separator between them
abbrev pub copies : List ℕ → ℕ → List ℕ → List ℕ
copies text zero separator = []
copies text (suc zero) separator = text
copies text (suc (suc n)) separator = text ++ separator ++ copies text (suc n) separator

abbrev pub copies_length : ℕ → ℕ → ℕ → ℕ
copies_length len count separator = len * count + separator * (count - 1)

abbrev pub is_too_long : ℕ → ℕ → ℕ → Bool
is_too_long len count separator = nat_lt text_limit (copies_length len count separator)
