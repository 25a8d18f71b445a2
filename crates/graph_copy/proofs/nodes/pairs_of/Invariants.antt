use Rattle.std.proofs.Common.{◌≡◌, map, filter, take}
use Rattle.object_store.specs.Pairs.{is_live}
use Rattle.graph_copy.specs.Packing.{leaves_of}
use Rattle.graph_copy.proofs.nodes.pairs_of.Given as goal

abbrev pub invariant-loop-i : goal.invariant-loop-i
invariant-loop-i l = l.pairs.items ≡ map (leaves_of l.state.texts l.nodes.keys) (filter is_live (take l.i l.table.pairs))
