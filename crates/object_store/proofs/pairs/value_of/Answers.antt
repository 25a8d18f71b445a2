use Rattle.std.proofs.Common.{◌∙◌}
use Rattle.object_store.proofs.RunLemmas.{get_pair-run, get_pair-past_run}
use Rattle.object_store.proofs.pairs.value_of.Goals as goal

pub returns-in-Some : goal.returns-in-Some
returns-in-Some c = get_pair-run c.args.run.now c.args.rest.now.entries c.in-Some.i c.args.key c.in-Some.ensures.0 c.in-Some.ensures.1

pub returns-in-None : goal.returns-in-None
returns-in-None c = c.value_in.ensures ∙ get_pair-past_run c.args.run.now c.args.rest.now.entries c.args.key c.in-None.ensures
