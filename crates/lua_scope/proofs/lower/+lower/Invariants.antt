use Rattle.std.proofs.Common.{◌≡◌, map}
use Rattle.std.specs.Vec.Iter.{into_iter_items}
use Rattle.lua_scope.specs.Front.{with_front}
use Rattle.lua_scope.specs.Resolved.{all, expr_of, field_of, stat_of, branch_of}
use Rattle.lua_scope.proofs.lower.+lower.Given as goal

abbrev pub invariant-branches-loop-b : goal.invariant-branches-loop-b
invariant-branches-loop-b l = with_front l.made (all (map (branch_of l.found) (into_iter_items l.b-iterator)) l.builder) ≡ all (map (branch_of l.found) l.fn.all) l.initial.builder

abbrev pub invariant-exprs-loop-e : goal.invariant-exprs-loop-e
invariant-exprs-loop-e l = with_front l.made (all (map (expr_of l.found) (into_iter_items l.e-iterator)) l.builder) ≡ all (map (expr_of l.found) l.fn.all) l.initial.builder

abbrev pub invariant-fields-loop-f : goal.invariant-fields-loop-f
invariant-fields-loop-f l = with_front l.made (all (map (field_of l.found) (into_iter_items l.f-iterator)) l.builder) ≡ all (map (field_of l.found) l.fn.all) l.initial.builder

abbrev pub invariant-stats-loop-s : goal.invariant-stats-loop-s
invariant-stats-loop-s l =
    with_front l.made (all (map (λ x. x.what) (map (stat_of l.found) (into_iter_items l.s-iterator))) l.builder)
    ≡ all (map (λ x. x.what) (map (stat_of l.found) l.fn.all)) l.initial.builder
