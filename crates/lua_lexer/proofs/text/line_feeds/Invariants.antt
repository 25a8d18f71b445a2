use Rattle.std.proofs.Common.{◌≡◌, ◌++◌, length}
use Rattle.lua_lexer.specs.Bytes.{line_feeds}
use Rattle.lua_lexer.proofs.text.line_feeds.Given as goal

abbrev pub invariant-loop-first : goal.invariant-loop-first
invariant-loop-first l = l.found.items ++ line_feeds l.left ≡ line_feeds l.fn.bytes

abbrev pub decreases-loop-first : goal.decreases-loop-first
decreases-loop-first l = length l.left
