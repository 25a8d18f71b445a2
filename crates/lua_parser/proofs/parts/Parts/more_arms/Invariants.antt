use Rattle.std.proofs.Common.{◌≡◌, ◌-◌, length}
use Rattle.lua_grammar.specs.Statements.{parts, more_arms}
use Rattle.lua_parser.proofs.parts.Parts.more_arms.Given as goal

abbrev pub invariant-loop-arms : goal.invariant-loop-arms
invariant-loop-arms g l =
    more_arms (parts l.self.depth) (parts (l.self.depth - 1)) (parts (l.self.depth - 2)) l.fn.found l.fn.tokens
    ≡ more_arms (parts l.self.depth) (parts (l.self.depth - 1)) (parts (l.self.depth - 2)) l.arms l.tokens

abbrev pub decreases-loop-arms : goal.decreases-loop-arms
decreases-loop-arms g l = length l.tokens
