use Rattle.std.proofs.Common.{◌∙◌, sym, arith}
use Rattle.graph_copy.specs.Packing.{with_meta}
use Rattle.graph_copy.proofs.PackingLemmas.{marked_next}
use Rattle.graph_copy.proofs.marking.mark_metas.Goals as goal

pub loop-object-preserved : goal.loop-object-preserved
loop-object-preserved c = record {
  marked_so_far = c.mark_meta.ensures.registry ∙ (λ j. with_meta (c.loop-object.invariant.marked_so_far j) (c.meta_of.ensures.meta j)) ∙ sym (marked_next c.args.state.now.heap c.args.objects.now c.loop-object.object-index _ c.args.marks.now.registry c.loop-object-test.true);
  room = let a = c.mark_meta.ensures.room in let b = c.loop-object.invariant.room in omega (arith, a, b);
}
