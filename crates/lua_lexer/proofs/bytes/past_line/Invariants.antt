use Rattle.std.proofs.Common.{◌≡◌, length}
use Rattle.lua_lexer.specs.Bytes.{past, is_inline}
use Rattle.lua_lexer.proofs.bytes.past_line.Given as goal

abbrev pub invariant-loop-left : goal.invariant-loop-left
invariant-loop-left l = past is_inline l.left ≡ past is_inline l.fn.bytes

abbrev pub decreases-loop-left : goal.decreases-loop-left
decreases-loop-left l = length l.left
