use Rattle.std.proofs.Common.{◌≡◌, length}
use Rattle.lua_grammar.specs.Expressions as spec
use Rattle.lua_grammar.specs.Statements.{parts}
use Rattle.lua_parser.proofs.parts.Parts.climb.Given as goal

abbrev pub invariant-turns : goal.invariant-turns
invariant-turns g l = spec.climb (parts l.self.depth) l.least l.fn.first l.fn.tokens ≡ spec.climb (parts l.self.depth) l.least l.found l.tokens

abbrev pub decreases-turns : goal.decreases-turns
decreases-turns g l = length l.tokens
