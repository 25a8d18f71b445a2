use Rattle.std.proofs.Common.{◌≡◌, ◌≤◌, length, map, take}
use Rattle.lua_scope.specs.Labels.{outline_of, before_last_labels}
use Rattle.lua_scope.proofs.labels.before_last_labels.Given as goal

abbrev pub invariant-loop-count : goal.invariant-loop-count
invariant-loop-count l =
    (l.count ≤ length l.all)
    × (before_last_labels (map outline_of (take l.count l.all)) ≡ before_last_labels (map outline_of l.all))

abbrev pub decreases-loop-count : goal.decreases-loop-count
decreases-loop-count l = l.count
