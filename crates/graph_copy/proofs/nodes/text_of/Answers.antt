use Rattle.std.proofs.Common.{◌∙◌}
use Rattle.graph_copy.proofs.PackingLemmas.{if_ok_same, no_text}
use Rattle.graph_copy.proofs.nodes.text_of.Goals as goal

pub returns-in-None : goal.returns-in-None
returns-in-None c = if_ok_same c.from_vec.result _ _ c.from_vec.ensures (c.new.ensures.items ∙ no_text c.args.state.now.texts c.args.id.number c.in-None.ensures)
