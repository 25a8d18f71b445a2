use Rattle.std.proofs.Common.{◌≡◌, ◌-◌, length}
use Rattle.lua_grammar.specs.Statements.{parts, more_stats}
use Rattle.lua_parser.proofs.parts.Parts.more_stats.Given as goal

abbrev pub invariant-stats : goal.invariant-stats
invariant-stats g l =
    more_stats (parts l.self.depth) (parts (l.self.depth - 1)) (parts (l.self.depth - 2)) l.fn.found l.fn.tokens
    ≡ more_stats (parts l.self.depth) (parts (l.self.depth - 1)) (parts (l.self.depth - 2)) l.stats l.tokens

abbrev pub decreases-stats : goal.decreases-stats
decreases-stats g l = length l.tokens
