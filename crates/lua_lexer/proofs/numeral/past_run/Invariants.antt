use Rattle.std.proofs.Common.{◌≡◌, length}
use Rattle.lua_lexer.specs.Spellings.{past_from}
use Rattle.lua_lexer.proofs.numeral.past_run.Given as goal

abbrev pub invariant-loop-first : goal.invariant-loop-first
invariant-loop-first l = past_from l.hex l.before l.left ≡ past_from l.hex 0 l.fn.bytes

abbrev pub decreases-loop-first : goal.decreases-loop-first
decreases-loop-first l = length l.left
