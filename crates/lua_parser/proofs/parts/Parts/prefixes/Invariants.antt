use Rattle.std.proofs.Common.{◌≡◌, ◌-◌, length}
use Rattle.lua_grammar.specs.Statements.{parts, prefixes}
use Rattle.lua_parser.proofs.PrefixTurns.{start}
use Rattle.lua_parser.proofs.parts.Parts.prefixes.Given as goal

abbrev pub invariant-prefix : goal.invariant-prefix
invariant-prefix g l =
    (prefixes (parts l.self.depth) (parts (l.self.depth - 1)) (parts (l.self.depth - 2)) l.fn.first l.fn.tokens
    ≡ prefixes (parts l.self.depth) (parts (l.self.depth - 1)) (parts (l.self.depth - 2)) (start l.expr l.ends) l.tokens) × (l.below.depth ≡ l.self.depth - 1)

abbrev pub decreases-prefix : goal.decreases-prefix
decreases-prefix g l = length l.tokens
