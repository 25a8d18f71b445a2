use Rattle.std.proofs.Common.{◌≡◌, drop}
use Rattle.lua_scope.specs.Front.{with_front}
use Rattle.lua_scope.specs.Resolved.{cells}
use Rattle.lua_scope.proofs.lower.cells.Given as goal

abbrev pub invariant-loop-name : goal.invariant-loop-name
invariant-loop-name l = with_front l.cells (cells l.found (drop l._name-index l.names) l.builder) ≡ cells l.found l.names l.initial.builder
