use Rattle.std.proofs.Common.{◌≡◌, ◌≤◌, ◌+◌, take, length}
use Rattle.graph_copy.specs.Packing.{marked}
use Rattle.graph_copy.proofs.marking.mark_metas.Given as goal

abbrev pub invariant-loop-object : goal.invariant-loop-object
invariant-loop-object l = record {
  marked_so_far : l.marks.registry ≡ marked l.state.heap (take l.object-index l.objects) l.initial.marks.registry;
  room : length l.objects ≤ l.marks.room + l.object-index;
}
