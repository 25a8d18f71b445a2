-- The tables of the bytes of words and of blanks.
use Rattle.std.proofs.Common.{◌≡◌, refl, ◌∙◌, ap, ℕ, ◌<◌, ◌≤◌, false, map, get_or, arith}
use Rattle.std.proofs.lemmas.Bool.Decides.{nat_tests}
use Rattle.std.specs.List.{range_with_len}
use Rattle.std.proofs.lemmas.List.FromFn.{get_or-map-range_with_len}
use Rattle.lua_lexer.specs.declared.bytes.TheConstants.{WORD_BYTES, BLANK_BYTES}
use Rattle.lua_lexer.specs.Bytes.{is_word, is_blank}

all_bytes : WORD_BYTES ≡ map is_word (range_with_len 0 256)
all_bytes = refl

pub word_byte : (b : ℕ) → b < 256 → get_or WORD_BYTES b false ≡ is_word b
word_byte b h = ap (λ z. get_or z b false) all_bytes ∙ get_or-map-range_with_len is_word 0 256 b b false h (omega arith)

all_blanks : BLANK_BYTES ≡ map is_blank (range_with_len 0 33)
all_blanks = refl

pub blank_byte : (b : ℕ) → b ≤ 32 → get_or BLANK_BYTES b false ≡ is_blank b
blank_byte b h = ap (λ z. get_or z b false) all_blanks ∙ get_or-map-range_with_len is_blank 0 33 b b false (omega arith) (omega arith)

pub no_blank : (b : ℕ) → 32 < b → is_blank b ≡ false
no_blank b h = grind (arith, nat_tests)

pub ruleset blank_rules = (blank_byte, no_blank)
