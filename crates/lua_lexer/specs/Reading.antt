-- The token that stands at a place, by its first byte: what the code computes, which proofs show to
-- be the spelling.
use Rattle.std.specs.Prelude.{ℕ, ℤ, zero, suc, Bool, true, false, if◌then◌else◌, nat_eq, List, [], ◌∷◌, ◌++◌, length, Option, Some, None, Result, Ok, Err}
use Rattle.lua_lexer.specs.declared.stop.Why.{Why}
use Rattle.lua_lexer.specs.declared.stop.Why.TheVariants.{BadByte, BadEscape, OpenString, OpenComment, BadNumeral, FloatNumeral}
use Rattle.lua_tokens.specs.declared.Word.{Word}
use Rattle.lua_tokens.specs.declared.Sign.{Sign}
use Rattle.lua_tokens.specs.declared.Sign.TheVariants as s
use Rattle.int_ops.specs.Reading.{integer_of}
use Rattle.lua_lexer.specs.Bytes.{is_letter, is_line_end, is_quote, is_word, run, past, line_feeds, past_line_end}
use Rattle.lua_lexer.specs.Spellings.{up_to_close, opens, dashes, keyword, numeral_run, past_numeral, begins_numeral, is_numeral, is_float, escape}
use Rattle.lua_lexer.specs.Tokens.{Lex, name, int, text, word, sign, finish}

abbrev pub Stop : Type 0
Stop = Why × List ℕ

-- a value and the bytes after it, or why no token stands there and the bytes from that place on
abbrev pub Outcome : Type 0 → Type 0
Outcome A = Result (A × List ℕ) Stop

-- ---- words

abbrev pub named : List ℕ → Option Word → Lex
named bs None = name bs
named bs (Some w) = word w

unfoldable pub word_at : List ℕ → Outcome Lex
word_at bs = Ok (named (run is_word bs) (keyword (run is_word bs)), past is_word bs)

-- ---- numerals

abbrev pub float_or_bad : Bool → Why
float_or_bad v = if v then FloatNumeral else BadNumeral

abbrev pub int_or_stop : List ℕ → Option ℤ → Outcome Lex
int_or_stop bs None = Err (float_or_bad (is_float (numeral_run bs)), bs)
int_or_stop bs (Some n) = Ok (int n, past_numeral bs)

-- the integer that a run is, which has no point and no sign
abbrev pub integer_run : List ℕ → Option ℤ
integer_run bs = if is_numeral bs then integer_of bs else None

unfoldable pub numeral_at : List ℕ → Outcome Lex
numeral_at bs = int_or_stop bs (integer_run (numeral_run bs))

-- ---- signs

-- the one sign where this byte follows, else the other
abbrev pub longer : ℕ → Sign → Sign → List ℕ → Sign × List ℕ
longer c two one [] = (one, [])
longer c two one (b ∷ bs) = if nat_eq b c then (two, bs) else (one, b ∷ bs)

abbrev pub dots : List ℕ → Sign × List ℕ
dots [] = (s.Dot, [])
dots (b ∷ bs) = if nat_eq b 46 then longer 46 s.DotDotDot s.DotDot bs else (s.Dot, b ∷ bs)

abbrev pub less : List ℕ → Sign × List ℕ
less [] = (s.Less, [])
less (b ∷ bs) = if nat_eq b 60 then (s.ShiftLeft, bs) else longer 61 s.LessEqual s.Less (b ∷ bs)

abbrev pub greater : List ℕ → Sign × List ℕ
greater [] = (s.Greater, [])
greater (b ∷ bs) =
    if nat_eq b 62 then (s.ShiftRight, bs) else longer 61 s.GreaterEqual s.Greater (b ∷ bs)

-- the signs of one byte that begin no longer one
unfoldable pub single : ℕ → Option Sign
single b =
    if nat_eq b 40 then Some s.OpenParen
    else (if nat_eq b 41 then Some s.CloseParen
    else (if nat_eq b 44 then Some s.Comma
    else (if nat_eq b 43 then Some s.Plus
    else (if nat_eq b 45 then Some s.Minus
    else (if nat_eq b 42 then Some s.Star
    else (if nat_eq b 37 then Some s.Percent
    else (if nat_eq b 94 then Some s.Caret
    else (if nat_eq b 35 then Some s.Hash
    else (if nat_eq b 38 then Some s.Amp
    else (if nat_eq b 124 then Some s.Pipe
    else (if nat_eq b 123 then Some s.OpenBrace
    else (if nat_eq b 125 then Some s.CloseBrace
    else (if nat_eq b 91 then Some s.OpenBracket
    else (if nat_eq b 93 then Some s.CloseBracket
    else (if nat_eq b 59 then Some s.Semicolon
    else None)))))))))))))))

abbrev pub with_rest : List ℕ → Option Sign → Option (Sign × List ℕ)
with_rest bs None = None
with_rest bs (Some x) = Some (x, bs)

-- the longest sign that begins with this byte
unfoldable pub sign_at : ℕ → List ℕ → Option (Sign × List ℕ)
sign_at b bs =
    if nat_eq b 46 then Some (dots bs)
    else (if nat_eq b 61 then Some (longer 61 s.EqualEqual s.Equal bs)
    else (if nat_eq b 60 then Some (less bs)
    else (if nat_eq b 62 then Some (greater bs)
    else (if nat_eq b 126 then Some (longer 61 s.NotEqual s.Tilde bs)
    else (if nat_eq b 47 then Some (longer 47 s.SlashSlash s.Slash bs)
    else (if nat_eq b 58 then Some (longer 58 s.ColonColon s.Colon bs)
    else with_rest bs (single b)))))))

-- ---- strings

abbrev pub put_front : List ℕ → Outcome (List ℕ) → Outcome (List ℕ)
put_front front (Ok x) = Ok (front ++ x.0, x.1)
put_front front (Err stop) = Err stop

abbrev pub after_escape : (List ℕ → Outcome (List ℕ)) → List ℕ → Option (List ℕ × List ℕ)
    → Outcome (List ℕ)
after_escape more back None = Err (BadEscape, back)
after_escape more back (Some x) = put_front x.0 (more x.1)

-- a string after its quote; the number is greater than that of the bytes
unfoldable pub quoted : List ℕ → ℕ → ℕ → List ℕ → Outcome (List ℕ)
quoted at quote zero bs = Err (OpenString, at)
quoted at quote (suc n) [] = Err (OpenString, at)
quoted at quote (suc n) (b ∷ bs) =
    if nat_eq b quote then Ok ([], bs)
    else (if nat_eq b 92 then after_escape (quoted at quote n) (b ∷ bs) (escape bs)
    else (if is_line_end b then Err (OpenString, at) else put_front (b ∷ [])
    (quoted at quote n bs)))

unfoldable pub string : List ℕ → ℕ → List ℕ → Outcome (List ℕ)
string at quote bs = quoted at quote (suc (length bs)) bs

abbrev pub texted : Outcome (List ℕ) → Outcome Lex
texted (Ok x) = Ok (text x.0, x.1)
texted (Err stop) = Err stop

abbrev pub bracket_end : List ℕ → Option (List ℕ × List ℕ) → Outcome Lex
bracket_end at None = Err (OpenString, at)
bracket_end at (Some x) = Ok (text (line_feeds (past_line_end x.0)), x.1)

abbrev pub signed : List ℕ → Option (Sign × List ℕ) → Outcome Lex
signed at None = Err (BadByte, at)
signed at (Some x) = Ok (sign x.0, x.1)

-- ---- the token that stands here

abbrev pub dashed_or_signed : ℕ → List ℕ → Option (List ℕ) → Outcome Lex
dashed_or_signed b bs (Some inside) = Err (OpenComment, b ∷ bs)
dashed_or_signed b bs None = signed (b ∷ bs) (sign_at b bs)

abbrev pub bracketed : ℕ → List ℕ → Option (ℕ × List ℕ) → Outcome Lex
bracketed b bs (Some o) = bracket_end (b ∷ bs) (up_to_close o.0 o.1)
bracketed b bs None = dashed_or_signed b bs (dashes (b ∷ bs))

unfoldable pub spelling : List ℕ → Outcome Lex
spelling [] = Ok (finish, [])
spelling (b ∷ bs) =
    if is_letter b then word_at (b ∷ bs)
    else (if begins_numeral (b ∷ bs) then numeral_at (b ∷ bs)
    else (if is_quote b then texted (string (b ∷ bs) b bs)
    else bracketed b bs (opens (b ∷ bs))))

abbrev pub is_finish : Lex → Bool
is_finish finish = true
is_finish _ = false
