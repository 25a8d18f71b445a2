use Rattle.std.proofs.Common.{◌≡◌, ◌-◌, length}
use Rattle.lua_grammar.specs.Statements.{parts, target_from}
use Rattle.lua_parser.proofs.PrefixTurns.{start}
use Rattle.lua_parser.proofs.parts.Parts.target_from.Given as goal

abbrev pub invariant-from : goal.invariant-from
invariant-from g l =
    target_from (parts l.self.depth) (parts (l.self.depth - 1)) (parts (l.self.depth - 2)) l.fn.first l.fn.tokens
    ≡ target_from (parts l.self.depth) (parts (l.self.depth - 1)) (parts (l.self.depth - 2)) (start l.expr l.ends) l.tokens

abbrev pub decreases-from : goal.decreases-from
decreases-from g l = length l.tokens
