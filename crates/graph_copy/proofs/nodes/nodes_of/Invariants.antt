use Rattle.std.proofs.Common.{◌≡◌, map, take}
use Rattle.graph_copy.specs.Packing.{node_of}
use Rattle.graph_copy.proofs.nodes.nodes_of.Given as goal

abbrev pub invariant-loop-object : goal.invariant-loop-object
invariant-loop-object l = l.made.items ≡ map (node_of l.state.heap l.state.texts l.marks.registry l.nodes.keys) (take l.object-index l.objects)
