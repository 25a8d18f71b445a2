use Rattle.std.proofs.Common.{◌≡◌, length}
use Rattle.lua_lexer.specs.Bytes.{past, is_blank}
use Rattle.lua_lexer.proofs.bytes.past_blanks.Given as goal

abbrev pub invariant-loop-left : goal.invariant-loop-left
invariant-loop-left l = past is_blank l.left ≡ past is_blank l.fn.bytes

abbrev pub decreases-loop-left : goal.decreases-loop-left
decreases-loop-left l = length l.left
