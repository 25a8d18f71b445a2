use Rattle.std.proofs.Common.{◌≡◌, ◌-◌, length}
use Rattle.lua_grammar.specs.Statements.{parts, assigned}
use Rattle.lua_parser.proofs.parts.Parts.assigned.Given as goal

abbrev pub invariant-targets : goal.invariant-targets
invariant-targets g l =
    assigned (parts l.self.depth) (parts (l.self.depth - 1)) (parts (l.self.depth - 2)) l.fn.found l.fn.tokens
    ≡ assigned (parts l.self.depth) (parts (l.self.depth - 1)) (parts (l.self.depth - 2)) l.targets l.tokens

abbrev pub decreases-targets : goal.decreases-targets
decreases-targets g l = length l.tokens
