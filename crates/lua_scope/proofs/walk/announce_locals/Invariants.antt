use Rattle.std.proofs.Common.{◌≡◌, drop}
use Rattle.lua_scope.specs.Rules.{scope_of, locals_declared}
use Rattle.lua_scope.proofs.walk.announce_locals.Given as goal

abbrev pub invariant-loop-name : goal.invariant-loop-name
invariant-loop-name l =
    (l.before ≡ l.name-index)
    × (l.survey ≡ l.initial.survey)
    × (locals_declared l.before (drop l.name-index l.names) (scope_of l.survey) ≡ locals_declared 0 l.names (scope_of l.initial.survey))
