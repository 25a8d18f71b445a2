use Rattle.std.proofs.Common.{◌∙◌, sym}
use Rattle.graph_copy.proofs.PackingLemmas.{pairs-next}
use Rattle.graph_copy.proofs.nodes.pairs_of.Goals as goal

pub loop-i-preserved : goal.loop-i-preserved
loop-i-preserved c = pairs-next c.args.state.now.texts c.args.nodes.now.keys c.args.table.now.pairs c.loop-i.i c.unwrap.result c.loop-i.pairs.items c.push_pair.new.pairs.items (sym c.pair.ensures ∙ c.unwrap.ensures) c.loop-i.invariant c.in_ok-push_pair.ensures
