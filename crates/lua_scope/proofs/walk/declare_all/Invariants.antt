use Rattle.std.proofs.Common.{◌≡◌, map, drop}
use Rattle.lua_scope.specs.Walk.{all_declared}
use Rattle.lua_scope.specs.Rules.{scope_of, with_names, variable}
use Rattle.lua_scope.proofs.walk.declare_all.Given as goal

abbrev pub invariant-loop-name : goal.invariant-loop-name
invariant-loop-name l =
    (all_declared (drop l.name-index l.names) l.survey ≡ all_declared l.names l.initial.survey)
    × (with_names (map variable (drop l.name-index l.names)) (scope_of l.survey) ≡ with_names (map variable l.names) (scope_of l.initial.survey))
