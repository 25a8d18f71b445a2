use Rattle.std.proofs.Common.{◌≡◌, ◌+◌, length}
use Rattle.lua_lexer.specs.Bytes.{run, past, is_equals}
use Rattle.lua_lexer.proofs.bytes.equals.Given as goal

abbrev pub invariant-loop-left : goal.invariant-loop-left
invariant-loop-left l = record { fits : l.count + length l.left ≡ length l.fn.bytes; count : l.count + length (run is_equals l.left) ≡ length (run is_equals l.fn.bytes); rest : past is_equals l.left ≡ past is_equals l.fn.bytes }

abbrev pub decreases-loop-left : goal.decreases-loop-left
decreases-loop-left l = length l.left
