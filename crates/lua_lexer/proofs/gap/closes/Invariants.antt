use Rattle.std.proofs.Common.{◌≡◌}
use Rattle.lua_lexer.specs.Spellings.{rest_closes}
use Rattle.lua_lexer.proofs.gap.closes.Given as goal

abbrev pub invariant-loop-more : goal.invariant-loop-more
invariant-loop-more l = rest_closes l.more l.left ≡ rest_closes l.level l.fn.bytes

abbrev pub decreases-loop-more : goal.decreases-loop-more
decreases-loop-more l = l.more
