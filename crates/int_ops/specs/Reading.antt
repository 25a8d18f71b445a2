-- Which texts read as integers (Lua manual, sections 3.1 and 3.4.3).
use Rattle.std.specs.Prelude.{ℕ, ◌+◌, ◌-◌, ◌*◌, ◌^◌, ℤ, pos, neg_ℤ, Bool, true, false, if◌then◌else◌, nat_le, nat_lt, nat_eq, ◌||◌, ◌&&◌, List, [], ◌∷◌, Option, Some, None, option_map}
use Rattle.std.specs.List.{list_all}
use Rattle.int_ops.specs.Wrapping.{wrapped}

-- space, tab, line feed, vertical tab, form feed, carriage return
abbrev pub is_blank : ℕ → Bool
is_blank b = nat_eq b 32 || (nat_le 9 b && nat_le b 13)

-- the text without the blanks at its front
abbrev pub past_blanks : List ℕ → List ℕ
past_blanks [] = []
past_blanks (b ∷ bs) = if is_blank b then past_blanks bs else b ∷ bs

-- the text without the blanks at its end
abbrev pub up_to_blanks : List ℕ → List ℕ
up_to_blanks [] = []
up_to_blanks (b ∷ bs) = if list_all is_blank (b ∷ bs) then [] else b ∷ up_to_blanks bs

abbrev pub trimmed : List ℕ → List ℕ
trimmed text = up_to_blanks (past_blanks text)

-- the value of a digit or a letter of either case, 0 to 35; 36 for any other byte
abbrev pub digit_of : ℕ → ℕ
digit_of b =
    if nat_le 48 b && nat_le b 57 then b - 48
    else (if nat_le 97 b && nat_le b 122 then b - 87
    else (if nat_le 65 b && nat_le b 90 then b - 55 else 36))

-- the number that the digits go on to write after those of n
abbrev pub number_after : ℕ → ℕ → List ℕ → ℕ
number_after base n [] = n
number_after base n (b ∷ bs) = number_after base (n * base + digit_of b) bs

abbrev pub are_digits : ℕ → List ℕ → Bool
are_digits base bs = list_all (λ b. nat_lt (digit_of b) base) bs

-- the number that one or more digits of this base write
abbrev pub number_in : ℕ → List ℕ → Option ℕ
number_in base [] = None
number_in base (b ∷ bs) =
    if are_digits base (b ∷ bs) then Some (number_after base 0 (b ∷ bs)) else None

-- n, or -n after a minus sign
abbrev pub signed : Bool → ℕ → ℤ
signed false n = pos n
signed true n = neg_ℤ (pos n)

-- whether the text begins with `-`, and what stands after its sign, if it has one
abbrev pub is_minus : List ℕ → Bool
is_minus [] = false
is_minus (b ∷ bs) = nat_eq b 45

abbrev pub past_sign : List ℕ → List ℕ
past_sign [] = []
past_sign (b ∷ bs) = if nat_eq b 45 || nat_eq b 43 then bs else b ∷ bs

-- a sign or none, and one or more digits of the base, with blanks round them: the value modulo 2^64
unfoldable pub integer_in : ℕ → List ℕ → Option ℤ
integer_in base text =
    let core = trimmed text in option_map (λ n. wrapped (signed (is_minus core) n))
    (number_in base (past_sign core))

-- the greatest size that a decimal numeral with or without a minus may have
abbrev pub limit : Bool → ℕ
limit minus = if minus then 2 ^ 63 else 2 ^ 63 - 1

abbrev pub within : Bool → Option ℕ → Option ℤ
within minus None = None
within minus (Some n) = if nat_le n (limit minus) then Some (signed minus n) else None

-- what stands after `0x` or `0X`, if the text begins so
abbrev pub past_hex : List ℕ → Option (List ℕ)
past_hex [] = None
past_hex (b ∷ []) = None
past_hex (b ∷ c ∷ bs) = if nat_eq b 48 && (nat_eq c 120 || nat_eq c 88) then Some bs else None

-- hexadecimal digits, of a value modulo 2^64, or decimal digits, of a value in range
abbrev pub unsigned : Bool → List ℕ → Option (List ℕ) → Option ℤ
unsigned minus bs (Some digits) = option_map (λ n. wrapped (signed minus n)) (number_in 16 digits)
unsigned minus bs None = within minus (number_in 10 bs)

-- the integer that a text reads as: a sign or none, and a hexadecimal or decimal numeral, with
-- blanks round them
unfoldable pub integer_of : List ℕ → Option ℤ
integer_of text =
    let core = trimmed text in unsigned (is_minus core) (past_sign core) (past_hex (past_sign core))
