use Rattle.std.proofs.Common.{◌∙◌, ◌++◌, ◌∷◌, [], sym}
use Rattle.graph_copy.specs.Packing.{cell_number}
use Rattle.graph_copy.proofs.PackingLemmas.{map_next}
use Rattle.graph_copy.proofs.nodes.function_node.Goals as goal

pub loop-id-preserved : goal.loop-id-preserved
loop-id-preserved c = c.in_ok-push.ensures.items ∙ (λ j. c.loop-id.invariant j ++ c.cell_number.ensures j ∷ []) ∙ sym (map_next (cell_number c.args.nodes.now.keys) c.as_slice-ids.result.now c.loop-id.id-index _ c.loop-id-test.true)
