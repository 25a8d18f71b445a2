use Rattle.std.proofs.Common.{◌-◌}
use Rattle.graph_copy.specs.Search.{seen_of}
use Rattle.graph_copy.proofs.WalkLemmas.{Past}
use Rattle.graph_copy.proofs.walk.walk_from.Given as goal

abbrev pub invariant-loop-next : goal.invariant-loop-next
invariant-loop-next l = Past 1048576 l.state.heap l.state.texts l.roots (seen_of l.walk) l.next

abbrev pub decreases-loop-next : goal.decreases-loop-next
decreases-loop-next l = 1048577 - l.next
