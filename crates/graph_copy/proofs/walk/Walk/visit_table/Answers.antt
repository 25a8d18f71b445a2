use Rattle.std.proofs.Common.{◌∙◌, sym, arith}
use Rattle.graph_copy.specs.Search.{seen_of, meta_targets}
use Rattle.graph_copy.proofs.WalkLemmas.{table_step, pair_few}
use Rattle.graph_copy.proofs.walk.Walk.visit_table.Goals as goal

pub loop-i-preserved : goal.loop-i-preserved
loop-i-preserved c = record {
  met = table_step 1048576 (seen_of c.loop-i.self) (seen_of c.visit_pair.new.self) _ c.args.source c.loop-i.place c.in_ok-place.place c.loop-i.i c.args.table.now.pairs c.unwrap-key.result (meta_targets c.args.table.now.meta) (sym c.pair.ensures ∙ c.unwrap-key.ensures) c.in_ok-place.ensures.seen c.in_ok-place.ensures.place c.loop-i.invariant.met;
  bound = let few = pair_few c.unwrap-key.result in let is = c.in_ok-place.ensures.place in let le = c.loop-i.invariant.bound in omega (arith, few, is, le);
  few = c.loop-i.invariant.few;
}
