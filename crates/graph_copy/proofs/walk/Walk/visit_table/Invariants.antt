use Rattle.std.proofs.Common.{◌≡◌, ◌≤◌, ◌*◌, ◌^◌, ◌++◌, drop, filter, length}
use Rattle.object_store.specs.Pairs.{is_live}
use Rattle.graph_copy.specs.Search.{seen_of, met_all, pair_targets, meta_targets, table_targets}
use Rattle.object_store.specs.Table.{contents_of}
use Rattle.graph_copy.proofs.walk.Walk.visit_table.Given as goal

abbrev pub invariant-loop-i : goal.invariant-loop-i
invariant-loop-i l = record {
  met : met_all 1048576 (seen_of l.self) l.source l.place (pair_targets (filter is_live (drop l.i l.table.pairs)) ++ meta_targets l.table.meta) ≡ met_all 1048576 (seen_of l.initial.self) l.source 0 (table_targets (contents_of l.table));
  bound : l.place ≤ 2 * l.i;
  few : length l.table.pairs ≤ 2 ^ 62;
}
