use Rattle.std.proofs.Common.{◌≡◌, ◌+◌, length}
use Rattle.lua_lexer.specs.Bytes.{line_ends}
use Rattle.lua_lexer.proofs.Fronts.{Suffix}
use Rattle.lua_lexer.proofs.Turns.{Goes, Stops}
use Rattle.lua_lexer.proofs.script.all.Given as goal

abbrev pub invariant-loop-found : goal.invariant-loop-found
invariant-loop-found l = record { goes : Goes l.script l.found l.left; stops : Stops l.script l.left; lines : l.line + line_ends l.left ≡ 1 + line_ends l.script; suffix : Suffix l.script l.left }

abbrev pub decreases-loop-found : goal.decreases-loop-found
decreases-loop-found l = length l.left
