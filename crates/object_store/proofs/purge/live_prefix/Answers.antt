use Rattle.std.proofs.Common.{◌∙◌, ap, length}
use Rattle.std.specs.Option.{unwrap_or}
use Rattle.object_store.proofs.RunLemmas.{kept_is}
use Rattle.object_store.proofs.purge.live_prefix.Goals as goal

pub returns : goal.returns
returns c = c.unwrap_or.ensures ∙ ap (λ r. unwrap_or r (length c.args.run.now)) c.first_dead.ensures ∙ kept_is c.args.run.now
