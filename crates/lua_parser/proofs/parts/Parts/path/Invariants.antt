use Rattle.std.proofs.Common.{◌≡◌, ◌-◌, length}
use Rattle.lua_grammar.specs.Statements.{parts, path}
use Rattle.lua_parser.proofs.parts.Parts.path.Given as goal

abbrev pub invariant-path : goal.invariant-path
invariant-path g l =
    (path (parts l.self.depth) (parts (l.self.depth - 1)) (parts (l.self.depth - 2)) l.fn.first l.fn.tokens
    ≡ path (parts l.self.depth) (parts (l.self.depth - 1)) (parts (l.self.depth - 2)) l.path l.tokens) × (l.limit ≡ l.self.depth - 1)

abbrev pub decreases-path : goal.decreases-path
decreases-path g l = length l.tokens
