-- What the spelling of each kind of token is (Lua manual, section 3.1).
use Rattle.std.specs.Prelude.{◌≡◌, ℕ, zero, suc, ◌+◌, ◌-◌, ◌*◌, ◌/◌, ◌%◌, ◌^◌, Bool, true, false, if◌then◌else◌, nat_le, nat_lt, nat_eq, ◌||◌, ◌&&◌, not, List, [], ◌∷◌, ◌++◌, length, take, drop, Option, Some, None, codes}
use Rattle.std.specs.List.{list_all}
use Rattle.lua_lexer.specs.declared.stop.Why.{Why}
use Rattle.lua_lexer.specs.declared.stop.Why.TheVariants.{BadEscape, OpenString}
use Rattle.lua_tokens.specs.declared.Word.{Word}
use Rattle.lua_tokens.specs.declared.Word.TheVariants as w
use Rattle.lua_tokens.specs.declared.Sign.{Sign}
use Rattle.lua_tokens.specs.declared.Sign.TheVariants as s
use Rattle.lua_lexer.specs.Bytes.{is_digit, is_letter, is_word, is_hex_digit, is_line_end, is_blank, is_inline, is_equals, is_quote, run, past, past_line_end}

-- ---- long brackets

-- whether equals signs of this number and a `]` stand here
abbrev pub rest_closes : ℕ → List ℕ → Bool
rest_closes n [] = false
rest_closes zero (b ∷ bs) = nat_eq b 93
rest_closes (suc n) (b ∷ bs) = nat_eq b 61 && rest_closes n bs

-- whether the closing bracket of this level stands here
abbrev pub closes : ℕ → List ℕ → Bool
closes n [] = false
closes n (b ∷ bs) = nat_eq b 93 && rest_closes n bs

abbrev pub one_more : Option ℕ → Option ℕ
one_more None = None
one_more (Some k) = Some (suc k)

-- the place of the first closing bracket of this level
unfoldable pub close_at : ℕ → List ℕ → Option ℕ
close_at n [] = None
close_at n (b ∷ bs) = if closes n (b ∷ bs) then Some 0 else one_more (close_at n bs)

abbrev pub split_close : ℕ → List ℕ → Option ℕ → Option (List ℕ × List ℕ)
split_close n bs None = None
split_close n bs (Some k) = Some (take k bs, drop (n + 2) (drop k bs))

-- what stands up to it, and what stands after it
abbrev pub up_to_close : ℕ → List ℕ → Option (List ℕ × List ℕ)
up_to_close n bs = split_close n bs (close_at n bs)

abbrev pub then_open : ℕ → List ℕ → Option (ℕ × List ℕ)
then_open n [] = None
then_open n (b ∷ bs) = if nat_eq b 91 then Some (n, bs) else None

-- after a `[`: the level and the bytes after the opening bracket, if it is one
abbrev pub opening : List ℕ → Option (ℕ × List ℕ)
opening bs = then_open (length (run is_equals bs)) (past is_equals bs)

-- the level of the opening long bracket that stands here, and the bytes after it
abbrev pub opens : List ℕ → Option (ℕ × List ℕ)
opens [] = None
opens (b ∷ bs) = if nat_eq b 91 then opening bs else None

-- ---- comments

-- the bytes after `--`, where it stands here
abbrev pub dashes : List ℕ → Option (List ℕ)
dashes [] = None
dashes (b ∷ []) = None
dashes (b ∷ c ∷ bs) = if nat_eq b 45 && nat_eq c 45 then Some bs else None

abbrev pub behind_close : Option (List ℕ × List ℕ) → Option (List ℕ)
behind_close None = None
behind_close (Some x) = Some x.1

abbrev pub long_or_line : List ℕ → Option (ℕ × List ℕ) → Option (List ℕ)
long_or_line bs None = Some (past is_inline bs)
long_or_line bs (Some o) = behind_close (up_to_close o.0 o.1)

-- what stands after the comment of which these bytes stand after its `--`: a long bracket that
-- isn't closed makes none
abbrev pub comment : List ℕ → Option (List ℕ)
comment bs = long_or_line bs (opens bs)

-- ---- names and reserved words

abbrev pub is_name : List ℕ → Bool
is_name [] = false
is_name (b ∷ bs) = is_letter b && list_all is_word bs

abbrev pub is_text : List ℕ → List ℕ → Bool
is_text [] [] = true
is_text [] (c ∷ cs) = false
is_text (b ∷ bs) [] = false
is_text (b ∷ bs) (c ∷ cs) = nat_eq b c && is_text bs cs

-- the reserved word that is spelled so
unfoldable pub keyword : List ℕ → Option Word
keyword bs =
    if is_text bs (codes "and") then Some w.And
    else (if is_text bs (codes "break") then Some w.Break
    else (if is_text bs (codes "do") then Some w.Do
    else (if is_text bs (codes "else") then Some w.Else
    else (if is_text bs (codes "elseif") then Some w.Elseif
    else (if is_text bs (codes "end") then Some w.End
    else (if is_text bs (codes "false") then Some w.False
    else (if is_text bs (codes "for") then Some w.For
    else (if is_text bs (codes "function") then Some w.Function
    else (if is_text bs (codes "goto") then Some w.Goto
    else (if is_text bs (codes "if") then Some w.If
    else (if is_text bs (codes "in") then Some w.In
    else (if is_text bs (codes "local") then Some w.Local
    else (if is_text bs (codes "nil") then Some w.Nil
    else (if is_text bs (codes "not") then Some w.Not
    else (if is_text bs (codes "or") then Some w.Or
    else (if is_text bs (codes "repeat") then Some w.Repeat
    else (if is_text bs (codes "return") then Some w.Return
    else (if is_text bs (codes "then") then Some w.Then
    else (if is_text bs (codes "true") then Some w.True
    else (if is_text bs (codes "until") then Some w.Until
    else (if is_text bs (codes "while") then Some w.While
    else None)))))))))))))))))))))

-- ---- signs

unfoldable pub sign_text : Sign → List ℕ
sign_text s.Plus = codes "+"
sign_text s.Minus = codes "-"
sign_text s.Star = codes "*"
sign_text s.Slash = codes "/"
sign_text s.Percent = codes "%"
sign_text s.Caret = codes "^"
sign_text s.Hash = codes "#"
sign_text s.Amp = codes "&"
sign_text s.Tilde = codes "~"
sign_text s.Pipe = codes "|"
sign_text s.ShiftLeft = codes "<<"
sign_text s.ShiftRight = codes ">>"
sign_text s.SlashSlash = codes "//"
sign_text s.EqualEqual = codes "=="
sign_text s.NotEqual = codes "~="
sign_text s.LessEqual = codes "<="
sign_text s.GreaterEqual = codes ">="
sign_text s.Less = codes "<"
sign_text s.Greater = codes ">"
sign_text s.Equal = codes "="
sign_text s.OpenParen = codes "("
sign_text s.CloseParen = codes ")"
sign_text s.OpenBrace = codes "{"
sign_text s.CloseBrace = codes "}"
sign_text s.OpenBracket = codes "["
sign_text s.CloseBracket = codes "]"
sign_text s.ColonColon = codes "::"
sign_text s.Semicolon = codes ";"
sign_text s.Colon = codes ":"
sign_text s.Comma = codes ","
sign_text s.Dot = codes "."
sign_text s.DotDot = codes ".."
sign_text s.DotDotDot = codes "..."

-- ---- numerals

-- e and E, or p and P in a hexadecimal numeral
abbrev pub is_exponent : Bool → ℕ → Bool
is_exponent hex b = if hex then nat_eq b 80 || nat_eq b 112 else nat_eq b 69 || nat_eq b 101

abbrev pub is_plus_minus : ℕ → Bool
is_plus_minus b = nat_eq b 43 || nat_eq b 45

-- whether `0x` or `0X` stands here
abbrev pub is_hex : List ℕ → Bool
is_hex [] = false
is_hex (b ∷ []) = false
is_hex (b ∷ c ∷ bs) = nat_eq b 48 && (nat_eq c 120 || nat_eq c 88)

-- whether a byte belongs to the run of a numeral, by the byte before it
abbrev pub in_run : Bool → ℕ → ℕ → Bool
in_run hex before b = is_word b || nat_eq b 46 || (is_plus_minus b && is_exponent hex before)

abbrev pub run_from : Bool → ℕ → List ℕ → List ℕ
run_from hex before [] = []
run_from hex before (b ∷ bs) = if in_run hex before b then b ∷ run_from hex b bs else []

abbrev pub past_from : Bool → ℕ → List ℕ → List ℕ
past_from hex before [] = []
past_from hex before (b ∷ bs) = if in_run hex before b then past_from hex b bs else b ∷ bs

-- the run of the numeral that stands here, and what stands after it
abbrev pub numeral_run : List ℕ → List ℕ
numeral_run bs = run_from (is_hex bs) 0 bs

abbrev pub past_numeral : List ℕ → List ℕ
past_numeral bs = past_from (is_hex bs) 0 bs

abbrev pub begins_digit : List ℕ → Bool
begins_digit [] = false
begins_digit (b ∷ bs) = is_digit b

-- a digit, or a point and a digit
abbrev pub begins_numeral : List ℕ → Bool
begins_numeral [] = false
begins_numeral (b ∷ bs) = is_digit b || (nat_eq b 46 && begins_digit bs)

-- letters and digits from a digit on
abbrev pub is_numeral : List ℕ → Bool
is_numeral [] = false
is_numeral (b ∷ bs) = is_digit b && list_all is_word bs

abbrev pub is_digit_of : Bool → ℕ → Bool
is_digit_of hex b = if hex then is_hex_digit b else is_digit b

-- one digit or more, and nothing else
abbrev pub are_digits : List ℕ → Bool
are_digits [] = false
are_digits (b ∷ bs) = is_digit b && list_all is_digit bs

abbrev pub are_signed_digits : List ℕ → Bool
are_signed_digits [] = false
are_signed_digits (b ∷ bs) = if is_plus_minus b then are_digits bs else are_digits (b ∷ bs)

-- nothing, or an exponent
abbrev pub is_power : Bool → List ℕ → Bool
is_power hex [] = true
is_power hex (b ∷ bs) = is_exponent hex b && are_signed_digits bs

abbrev pub begins_with : (ℕ → Bool) → List ℕ → Bool
begins_with p [] = false
begins_with p (b ∷ bs) = p b

-- what may follow the digits before the point, where there is one of these or not
abbrev pub is_fraction : Bool → Bool → List ℕ → Bool
is_fraction hex some [] = some
is_fraction hex some (b ∷ bs) =
    if nat_eq b 46 then (some || begins_with (is_digit_of hex) bs) && is_power hex
    (past (is_digit_of hex) bs) else some && is_power hex (b ∷ bs)

-- digits with a point, an exponent, both or none, and at least one digit before the exponent
abbrev pub is_digits_form : Bool → List ℕ → Bool
is_digits_form hex bs =
    is_fraction hex (begins_with (is_digit_of hex) bs) (past (is_digit_of hex) bs)

-- the form of a float numeral, to which also belong the digits that are no integer since their
-- value is too great
abbrev pub is_float : List ℕ → Bool
is_float text = if is_hex text then is_digits_form true (drop 2 text) else is_digits_form false text

-- ---- strings

abbrev pub is_plain : ℕ → ℕ → Bool
is_plain quote b = not (nat_eq b quote || nat_eq b 92 || is_line_end b)

-- the value of a hexadecimal digit
abbrev pub hex_value : ℕ → ℕ
hex_value b = if is_digit b then b - 48 else (if nat_le 97 b then b - 87 else b - 55)

-- the number that hexadecimal digits go on to write after those of n
abbrev pub hex_number : ℕ → List ℕ → ℕ
hex_number n [] = n
hex_number n (b ∷ bs) = hex_number (n * 16 + hex_value b) bs

-- the byte for which one letter stands after a backslash
abbrev pub letter_escape : ℕ → Option ℕ
letter_escape b =
    if nat_eq b 97 then Some 7
    else (if nat_eq b 98 then Some 8
    else (if nat_eq b 102 then Some 12
    else (if nat_eq b 110 then Some 10
    else (if nat_eq b 114 then Some 13
    else (if nat_eq b 116 then Some 9
    else (if nat_eq b 118 then Some 11
    else (if nat_eq b 92 || is_quote b then Some b
    else None)))))))

-- at most this many digits more
abbrev pub decimal : ℕ → ℕ → List ℕ → ℕ × List ℕ
decimal zero n bs = (n, bs)
decimal (suc k) n [] = (n, [])
decimal (suc k) n (b ∷ bs) = if is_digit b then decimal k (n * 10 + (b - 48)) bs else (n, b ∷ bs)

abbrev pub decimal_escape : ℕ × List ℕ → Option (List ℕ × List ℕ)
decimal_escape x = if nat_le x.0 255 then Some (x.0 ∷ [], x.1) else None

-- two hexadecimal digits
abbrev pub hex_escape : List ℕ → Option (List ℕ × List ℕ)
hex_escape [] = None
hex_escape (b ∷ []) = None
hex_escape (b ∷ c ∷ bs) =
    if is_hex_digit b && is_hex_digit c then Some ((hex_value b * 16 + hex_value c) ∷ [], bs) else
    None

-- UTF-8 in its older form of up to six bytes, of a number below 2^31
abbrev pub tail_byte : ℕ → ℕ → ℕ
tail_byte n unit = 128 + n / unit % 64

abbrev pub utf8 : ℕ → List ℕ
utf8 n =
    if nat_lt n 0x80 then n ∷ []
    else (if nat_lt n 0x800 then (192 + n / 64) ∷ tail_byte n 1 ∷ []
    else (if nat_lt n 0x10000 then (224 + n / 4096) ∷ tail_byte n 64 ∷ tail_byte n 1 ∷ []
    else (if nat_lt n 0x200000 then (240 + n / 262144) ∷ tail_byte n 4096 ∷ tail_byte n 64 ∷
    tail_byte n 1 ∷ []
    else (if nat_lt n 0x4000000 then (248 + n / 16777216) ∷ tail_byte n 262144 ∷ tail_byte n 4096 ∷
    tail_byte n 64 ∷ tail_byte n 1 ∷ []
    else (252 + n / 1073741824) ∷ tail_byte n 16777216 ∷ tail_byte n 262144 ∷ tail_byte n 4096 ∷
    tail_byte n 64 ∷ tail_byte n 1 ∷ []))))

-- the digits between the braces, and what stands after them
abbrev pub code_point : List ℕ → List ℕ → Option (List ℕ × List ℕ)
code_point [] bs = None
code_point (d ∷ ds) [] = None
code_point (d ∷ ds) (b ∷ bs) =
    if nat_eq b 125 && nat_lt (hex_number 0 (d ∷ ds)) (2 ^ 31) then Some
    (utf8 (hex_number 0 (d ∷ ds)), bs) else None

abbrev pub unicode_escape : List ℕ → Option (List ℕ × List ℕ)
unicode_escape [] = None
unicode_escape (b ∷ bs) =
    if nat_eq b 123 then code_point (run is_hex_digit bs) (past is_hex_digit bs) else None

abbrev pub other_escape : ℕ → List ℕ → Option (List ℕ × List ℕ)
other_escape b bs =
    if is_line_end b then Some (10 ∷ [], past_line_end (b ∷ bs))
    else (if nat_eq b 122 then Some ([], past is_blank bs)
    else (if nat_eq b 120 then hex_escape bs
    else (if nat_eq b 117 then unicode_escape bs
    else (if is_digit b then decimal_escape (decimal 3 0 (b ∷ bs)) else None))))

abbrev pub letter_or_other : ℕ → List ℕ → Option ℕ → Option (List ℕ × List ℕ)
letter_or_other b bs (Some c) = Some (c ∷ [], bs)
letter_or_other b bs None = other_escape b bs

-- the bytes for which the escape stands that begins after a backslash, and what stands after it
unfoldable pub escape : List ℕ → Option (List ℕ × List ℕ)
escape [] = None
escape (b ∷ bs) = letter_or_other b bs (letter_escape b)

-- after an opening quote: up to the same quote, and here the bytes for which it stands, and what
-- stands after it
pub data Quoted (quote : ℕ) : List ℕ → List ℕ → List ℕ → Type 0 where
  close : (b : ℕ) (rest : List ℕ) → nat_eq b quote ≡ true → Quoted quote (b ∷ rest) [] rest
  plain : (b : ℕ) (bs value rest : List ℕ) → is_plain quote b ≡ true → Quoted quote bs value rest
      → Quoted quote (b ∷ bs) (b ∷ value) rest
  escaped : (bs front behind value rest : List ℕ) → escape bs ≡ Some (front, behind)
      → Quoted quote behind value rest → Quoted quote (92 ∷ bs) (front ++ value) rest

abbrev pub breaks_off : List ℕ → Bool
breaks_off [] = true
breaks_off (b ∷ bs) = is_line_end b

-- after an opening quote: up to the first of a bad escape, and of a line end without backslash or
-- the end of the script; `at` is the place of the string
pub data Broken (at : List ℕ) (quote : ℕ) : List ℕ → Why × List ℕ → Type 0 where
  ends : (bs : List ℕ) → breaks_off bs ≡ true → Broken at quote bs (OpenString, at)
  wrong : (bs : List ℕ) → escape bs ≡ None → Broken at quote (92 ∷ bs) (BadEscape, 92 ∷ bs)
  behind_plain : (b : ℕ) (bs : List ℕ) (stop : Why × List ℕ) → is_plain quote b ≡ true
      → Broken at quote bs stop → Broken at quote (b ∷ bs) stop
  behind_escape : (bs front behind : List ℕ) (stop : Why × List ℕ)
      → escape bs ≡ Some (front, behind) → Broken at quote behind stop
      → Broken at quote (92 ∷ bs) stop
