use Rattle.std.proofs.Common.{length, List, ℕ}
use Rattle.lua_lexer.specs.Tokens.{Skips}
use Rattle.lua_lexer.proofs.gap.gap.Given as goal

abbrev pub invariant-loop-inside : goal.invariant-loop-inside
invariant-loop-inside l = (here : List ℕ) → Skips l.left here → Skips l.fn.bytes here

abbrev pub decreases-loop-inside : goal.decreases-loop-inside
decreases-loop-inside l = length l.left
