use Rattle.std.proofs.Common.{◌≡◌, map, take}
use Rattle.graph_copy.specs.Packing.{cell_number}
use Rattle.graph_copy.proofs.nodes.function_node.Given as goal

abbrev pub invariant-loop-id : goal.invariant-loop-id
invariant-loop-id l = l.cells.items ≡ map (cell_number l.nodes.keys) (take l.id-index l.ids)
