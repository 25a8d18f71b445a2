use Rattle.std.proofs.Common.{◌≡◌, drop}
use Rattle.lua_scope.specs.Front.{with_front}
use Rattle.lua_scope.specs.Resolved.{variables}
use Rattle.lua_scope.proofs.lower.variables.Given as goal

abbrev pub invariant-loop-name : goal.invariant-loop-name
invariant-loop-name l = with_front l.refs (variables l.found (drop l._name-index l.names) l.builder) ≡ variables l.found l.names l.initial.builder
