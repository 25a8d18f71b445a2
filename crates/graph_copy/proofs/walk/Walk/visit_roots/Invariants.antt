use Rattle.std.proofs.Common.{◌≡◌, map, drop}
use Rattle.graph_copy.specs.Graph.{target_of}
use Rattle.graph_copy.specs.Search.{seen_of, met_all}
use Rattle.graph_copy.proofs.walk.Walk.visit_roots.Given as goal

abbrev pub invariant-loop-place : goal.invariant-loop-place
invariant-loop-place l = met_all 1048576 (seen_of l.self) 0 l.place (map target_of (drop l.place l.roots)) ≡ met_all 1048576 (seen_of l.initial.self) 0 0 (map target_of l.initial.roots)
