use Rattle.std.proofs.Common.{◌≡◌, ◌≤◌, ◌+◌, length}
use Rattle.lua_lexer.specs.Bytes.{line_ends, past, is_inline}
use Rattle.lua_lexer.proofs.bytes.line_ends.Given as goal

abbrev pub invariant-loop-left : goal.invariant-loop-left
invariant-loop-left l = record { count : l.count + line_ends l.left ≡ line_ends l.fn.bytes; few : l.count + length l.left ≤ length l.fn.bytes; stopped : past is_inline l.left ≡ l.left }

abbrev pub decreases-loop-left : goal.decreases-loop-left
decreases-loop-left l = length l.left
