use Rattle.std.proofs.Common.{◌≡◌, ◌-◌, length}
use Rattle.lua_grammar.specs.Statements.{parts, for_names}
use Rattle.lua_parser.proofs.parts.Parts.for_names.Given as goal

abbrev pub invariant-names : goal.invariant-names
invariant-names g l =
    for_names (parts l.self.depth) (parts (l.self.depth - 1)) (parts (l.self.depth - 2)) l.fn.found l.fn.tokens
    ≡ for_names (parts l.self.depth) (parts (l.self.depth - 1)) (parts (l.self.depth - 2)) l.names.items l.tokens

abbrev pub decreases-names : goal.decreases-names
decreases-names g l = length l.tokens
