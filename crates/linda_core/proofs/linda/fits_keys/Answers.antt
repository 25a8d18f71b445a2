use Rattle.std.proofs.Common.{◌∙◌, sym, ap, is_some}
use Rattle.std.specs.List.{list_any}
use Rattle.linda_core.specs.SequentialLinda.{has_value, fits_keys}
use Rattle.linda_core.specs.Holding.{seen}
use Rattle.linda_core.proofs.ReadyLemmas.{is_some-find, is_some-option_map}
use Rattle.linda_core.proofs.linda.fits_keys.Goals as goal

pub returns-in-Receive : goal.returns-in-Receive
returns-in-Receive c =
    c.is_some.ensures ∙ sym (is_some-option_map _ c.first_ready.result) ∙ ap is_some c.first_ready.ensures.key
    ∙ is_some-find (has_value (seen c.args.queues.now.entries)) c.as_slice-in-Receive.result.now
    ∙ ap (list_any (has_value (seen c.args.queues.now.entries))) c.as_slice-in-Receive.ensures
    ∙ ap (fits_keys (seen c.args.queues.now.entries)) (sym c.in-Receive.is)
