use Rattle.std.proofs.Common.{◌≡◌, length}
use Rattle.lua_grammar.specs.Expressions as spec
use Rattle.lua_grammar.specs.Statements.{parts}
use Rattle.lua_parser.proofs.parts.Parts.suffixes.Given as goal

abbrev pub invariant-turns : goal.invariant-turns
invariant-turns g l = spec.suffixes (parts l.self.depth) l.fn.first l.fn.tokens ≡ spec.suffixes (parts l.self.depth) l.found l.tokens

abbrev pub decreases-turns : goal.decreases-turns
decreases-turns g l = length l.tokens
