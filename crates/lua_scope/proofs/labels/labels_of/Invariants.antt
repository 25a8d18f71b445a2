use Rattle.std.proofs.Common.{◌≡◌, ◌++◌, map, drop}
use Rattle.lua_scope.specs.Labels.{outline_of, labels_from}
use Rattle.lua_scope.proofs.labels.labels_of.Given as goal

abbrev pub invariant-loop-s : goal.invariant-loop-s
invariant-loop-s l =
    (l.statement ≡ l.s-index)
    × (l.labels ++ labels_from l.plain l.start l.statement l.visible (map outline_of (drop l.s-index l.all))
    ≡ labels_from l.plain l.start 0 l.start (map outline_of l.all))
