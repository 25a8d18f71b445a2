use Rattle.std.proofs.Common.{◌≡◌, length}
use Rattle.lua_grammar.specs.Expressions as spec
use Rattle.lua_grammar.specs.Statements.{parts}
use Rattle.lua_parser.proofs.parts.Parts.more_exprs.Given as goal

abbrev pub invariant-more : goal.invariant-more
invariant-more g l = spec.more_exprs (parts l.self.depth) l.fn.first l.fn.tokens ≡ spec.more_exprs (parts l.self.depth) l.found l.tokens

abbrev pub decreases-more : goal.decreases-more
decreases-more g l = length l.tokens
