use Rattle.std.proofs.Common.{◌≡◌, length}
use Rattle.lua_lexer.specs.Bytes.{past}
use Rattle.lua_lexer.specs.Spellings.{is_digit_of}
use Rattle.lua_lexer.proofs.numeral.past_digits.Given as goal

abbrev pub invariant-loop-first : goal.invariant-loop-first
invariant-loop-first l = past (is_digit_of l.hex) l.left ≡ past (is_digit_of l.hex) l.fn.bytes

abbrev pub decreases-loop-first : goal.decreases-loop-first
decreases-loop-first l = length l.left
