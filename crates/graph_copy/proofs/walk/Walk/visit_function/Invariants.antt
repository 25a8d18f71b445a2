use Rattle.std.proofs.Common.{◌≡◌, drop}
use Rattle.graph_copy.specs.Search.{seen_of, met_all, cell_targets}
use Rattle.graph_copy.proofs.walk.Walk.visit_function.Given as goal

abbrev pub invariant-loop-place : goal.invariant-loop-place
invariant-loop-place l = met_all 1048576 (seen_of l.self) l.source l.place (cell_targets (drop l.place l.cell-items)) ≡ met_all 1048576 (seen_of l.initial.self) l.source 0 (cell_targets l.initial.cell-items)
