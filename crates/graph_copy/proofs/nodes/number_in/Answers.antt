use Rattle.std.proofs.Common.{◌∙◌}
use Rattle.graph_copy.proofs.PackingLemmas.{position-none}
use Rattle.graph_copy.proofs.nodes.number_in.Goals as goal

pub returns-in-None : goal.returns-in-None
returns-in-None c = c.len-len.ensures.len ∙ position-none _ c.args.nodes.now.keys c.in-None.ensures.index
