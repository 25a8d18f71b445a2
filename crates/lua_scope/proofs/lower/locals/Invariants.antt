use Rattle.std.proofs.Common.{◌≡◌, drop}
use Rattle.lua_scope.specs.Front.{with_front}
use Rattle.lua_scope.specs.Resolved.{locals}
use Rattle.lua_scope.proofs.lower.locals.Given as goal

abbrev pub invariant-loop-name : goal.invariant-loop-name
invariant-loop-name l = with_front l.refs (locals l.found (drop l.name-index l.names) l.builder) ≡ locals l.found l.names l.initial.builder
