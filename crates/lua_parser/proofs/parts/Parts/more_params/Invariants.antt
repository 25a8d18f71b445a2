use Rattle.std.proofs.Common.{◌≡◌, length}
use Rattle.lua_parser.specs.Steps as spec
use Rattle.lua_parser.proofs.parts.Parts.more_params.Given as goal

abbrev pub invariant-turns : goal.invariant-turns
invariant-turns g l = spec.more_params l.self.depth l.fn.first l.fn.tokens ≡ spec.more_params l.self.depth l.found.items l.tokens

abbrev pub decreases-turns : goal.decreases-turns
decreases-turns g l = length l.tokens
