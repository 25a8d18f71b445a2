use Rattle.std.proofs.Common.{◌≡◌, ◌-◌, length}
use Rattle.lua_grammar.specs.Statements.{parts, more_declared}
use Rattle.lua_parser.proofs.parts.Parts.more_declared.Given as goal

abbrev pub invariant-names : goal.invariant-names
invariant-names g l =
    more_declared (parts l.self.depth) (parts (l.self.depth - 1)) (parts (l.self.depth - 2)) l.fn.found l.fn.tokens
    ≡ more_declared (parts l.self.depth) (parts (l.self.depth - 1)) (parts (l.self.depth - 2)) l.names.items l.tokens

abbrev pub decreases-names : goal.decreases-names
decreases-names g l = length l.tokens
