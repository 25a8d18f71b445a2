use Rattle.std.proofs.Common.{◌≡◌, ◌≤◌, length}
use Rattle.lua_grammar.specs.Expressions.{nothing}
use Rattle.lua_parser.specs.Fields.{more_fields}
use Rattle.lua_parser.proofs.parts.Parts.table.Given as goal

abbrev pub invariant-fields : goal.invariant-fields
invariant-fields g l = (more_fields l.self.depth nothing l.fn.tokens ≡ more_fields l.self.depth l.found l.tokens) × (l.found.depth ≤ l.self.depth)

abbrev pub decreases-fields : goal.decreases-fields
decreases-fields g l = length l.tokens
