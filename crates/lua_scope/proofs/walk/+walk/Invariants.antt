use Rattle.std.proofs.Common.{◌≡◌, map, drop}
use Rattle.lua_scope.specs.Walk.{each, in_expr, in_field, in_stat, in_branch}
use Rattle.lua_scope.specs.Rules as rules
use Rattle.lua_scope.specs.Rules.{scope_of}
use Rattle.lua_scope.proofs.walk.+walk.Given as goal

abbrev pub invariant-branches-loop-branch : goal.invariant-branches-loop-branch
invariant-branches-loop-branch l =
    (each (map in_branch (drop l.branch-index l.all)) l.survey ≡ each (map in_branch l.all) l.initial.survey)
    × (rules.each (map rules.branch_faults (drop l.branch-index l.all)) (scope_of l.initial.survey) ≡ rules.each (map rules.branch_faults l.all) (scope_of l.initial.survey))
    × (scope_of l.survey ≡ scope_of l.initial.survey)

abbrev pub invariant-exprs-loop-e : goal.invariant-exprs-loop-e
invariant-exprs-loop-e l =
    (each (map in_expr (drop l.e-index l.all)) l.survey ≡ each (map in_expr l.all) l.initial.survey)
    × (rules.each_of l.are_targets (map rules.expr_faults (drop l.e-index l.all)) (scope_of l.initial.survey) ≡ rules.each_of l.are_targets (map rules.expr_faults l.all) (scope_of l.initial.survey))
    × (scope_of l.survey ≡ scope_of l.initial.survey)

abbrev pub invariant-fields-loop-field : goal.invariant-fields-loop-field
invariant-fields-loop-field l =
    (each (map in_field (drop l.field-index l.all)) l.survey ≡ each (map in_field l.all) l.initial.survey)
    × (rules.each (map rules.field_faults (drop l.field-index l.all)) (scope_of l.initial.survey) ≡ rules.each (map rules.field_faults l.all) (scope_of l.initial.survey))
    × (scope_of l.survey ≡ scope_of l.initial.survey)

abbrev pub invariant-stats-loop-s : goal.invariant-stats-loop-s
invariant-stats-loop-s l =
    (each (map (λ x. x.what) (map in_stat (drop l.s-index l.all))) l.survey ≡ each (map (λ x. x.what) (map in_stat l.all)) l.initial.survey)
    × ((rules.stats (map (λ x. x.what) (map rules.stat_part (drop l.s-index l.all)))).faults (scope_of l.survey) ≡ (rules.stats (map (λ x. x.what) (map rules.stat_part l.all))).faults (scope_of l.initial.survey))
    × ((rules.stats (map (λ x. x.what) (map rules.stat_part (drop l.s-index l.all)))).after (scope_of l.survey) ≡ (rules.stats (map (λ x. x.what) (map rules.stat_part l.all))).after (scope_of l.initial.survey))
