use Rattle.std.proofs.Common.{◌≡◌, length}
use Rattle.lua_lexer.specs.Bytes.{past, is_hex_digit}
use Rattle.lua_lexer.proofs.escape.past_hex_digits.Given as goal

abbrev pub invariant-loop-first : goal.invariant-loop-first
invariant-loop-first l = past is_hex_digit l.left ≡ past is_hex_digit l.fn.bytes

abbrev pub decreases-loop-first : goal.decreases-loop-first
decreases-loop-first l = length l.left
