use Rattle.std.proofs.Common.{◌≡◌, ◌+◌, length}
use Rattle.lua_lexer.specs.Spellings.{close_at}
use Rattle.lua_lexer.proofs.Closes.{further}
use Rattle.lua_lexer.proofs.gap.close_at.Given as goal

abbrev pub invariant-loop-first : goal.invariant-loop-first
invariant-loop-first l = record { fits : l.at + length l.left ≡ length l.bytes; place : close_at l.level l.fn.bytes ≡ further l.at (close_at l.level l.left) }

abbrev pub decreases-loop-first : goal.decreases-loop-first
decreases-loop-first l = length l.left
