-- Whole numbers of 64 bits (Lua manual, sections 3.4.1 and 3.4.2): each operation is that of the
-- integers without bound, brought modulo 2^64 into the range from -2^63 to 2^63 - 1.
use Rattle.std.specs.Prelude.{ℕ, zero, suc, ◌+◌, ◌-◌, ◌*◌, ◌/◌, ◌%◌, ◌^◌, ℤ, pos, negsuc, neg_ℤ, ◌-ℤ◌, ◌*ℤ◌, ◌≤ℤ◌, ◌<ℤ◌, nat_lt, if◌then◌else◌, Bool, true, false}
use Rattle.std.specs.Int.{w64, cast_unsigned, cast_signed, int_wrap}

-- the one number of the range that differs from this one by a multiple of 2^64
abbrev pub wrapped : ℤ → ℤ
wrapped z = int_wrap w64 z

-- ---- quotients

-- the greatest integer that isn't above a / b, of a divisor that isn't 0
abbrev pub floor_quotient : ℤ → ℤ → ℤ
floor_quotient (pos a) (pos b) = pos (a / b)
floor_quotient (pos a) (negsuc b) = neg_ℤ (pos ((a + b) / suc b))
floor_quotient (negsuc a) (pos b) = negsuc (a / b)
floor_quotient (negsuc a) (negsuc b) = pos (suc a / suc b)

-- q is the floor of a / b: q divisors leave less than one more, on the divisor's side of 0
abbrev pub IsFloor : ℤ → ℤ → ℤ → Type 0
IsFloor a (pos b) q = (pos 0 ≤ℤ (a -ℤ (q *ℤ pos b))) × ((a -ℤ (q *ℤ pos b)) <ℤ pos b)
IsFloor a (negsuc b) q = ((a -ℤ (q *ℤ negsuc b)) ≤ℤ pos 0) × (negsuc b <ℤ (a -ℤ (q *ℤ negsuc b)))

-- whether a quotient that is cut towards 0 is above its floor, by what it leaves and the divisor
abbrev pub is_cut_upwards : ℤ → ℤ → Bool
is_cut_upwards (pos zero) b = false
is_cut_upwards (pos (suc r)) (pos b) = false
is_cut_upwards (pos (suc r)) (negsuc b) = true
is_cut_upwards (negsuc r) (pos b) = true
is_cut_upwards (negsuc r) (negsuc b) = false

-- what that many divisors leave
abbrev pub floor_remainder : ℤ → ℤ → ℤ
floor_remainder a b = a -ℤ (floor_quotient a b *ℤ b)

-- ---- the 64 bits

-- the bits of a number, read as a number from 0 to 2^64 - 1
abbrev pub bits_of : ℤ → ℕ
bits_of a = cast_unsigned w64 a

-- the number that has these bits
abbrev pub of_bits : ℕ → ℤ
of_bits n = cast_signed w64 n

-- the bits that are not among these
abbrev pub other_bits : ℕ → ℕ
other_bits n = 2 ^ 64 - 1 - n

-- the bits moved towards the higher ones, those from the 64th on being lost
abbrev pub moved_up : ℤ → ℕ → ℤ
moved_up a count = if nat_lt count 64 then of_bits (bits_of a * 2 ^ count % 2 ^ 64) else pos 0

-- the bits moved towards the lower ones, those below the lowest being lost
abbrev pub moved_down : ℤ → ℕ → ℤ
moved_down a count = if nat_lt count 64 then of_bits (bits_of a / 2 ^ count) else pos 0

abbrev pub shifted_left : ℤ → ℤ → ℤ
shifted_left a (pos n) = moved_up a n
shifted_left a (negsuc n) = moved_down a (suc n)

abbrev pub shifted_right : ℤ → ℤ → ℤ
shifted_right a (pos n) = moved_down a n
shifted_right a (negsuc n) = moved_up a (suc n)
