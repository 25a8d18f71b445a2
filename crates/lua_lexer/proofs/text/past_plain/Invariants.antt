use Rattle.std.proofs.Common.{◌≡◌, length}
use Rattle.lua_lexer.specs.Bytes.{past}
use Rattle.lua_lexer.specs.Spellings.{is_plain}
use Rattle.lua_lexer.proofs.text.past_plain.Given as goal

abbrev pub invariant-loop-first : goal.invariant-loop-first
invariant-loop-first l = past (is_plain l.quote) l.left ≡ past (is_plain l.quote) l.fn.bytes

abbrev pub decreases-loop-first : goal.decreases-loop-first
decreases-loop-first l = length l.left
