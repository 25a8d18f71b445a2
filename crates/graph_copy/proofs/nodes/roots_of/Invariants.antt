use Rattle.std.proofs.Common.{◌≡◌, map, take}
use Rattle.graph_copy.specs.Packing.{leaf_of}
use Rattle.graph_copy.proofs.nodes.roots_of.Given as goal

abbrev pub invariant-loop-root : goal.invariant-loop-root
invariant-loop-root l = l.made.items ≡ map (leaf_of l.state.texts l.nodes.keys) (take l.root-index l.roots)
