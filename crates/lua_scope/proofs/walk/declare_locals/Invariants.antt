use Rattle.std.proofs.Common.{◌≡◌, map, drop}
use Rattle.lua_scope.specs.Walk.{locals_declared}
use Rattle.lua_scope.specs.Rules.{scope_of, with_names, local}
use Rattle.lua_scope.proofs.walk.declare_locals.Given as goal

abbrev pub invariant-loop-name : goal.invariant-loop-name
invariant-loop-name l =
    (locals_declared (drop l.name-index l.names) l.survey ≡ locals_declared l.names l.initial.survey)
    × (with_names (map local (drop l.name-index l.names)) (scope_of l.survey) ≡ with_names (map local l.names) (scope_of l.initial.survey))
