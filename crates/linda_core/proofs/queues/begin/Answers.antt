use Rattle.std.proofs.Common.{sym, ◌∙◌, ap}
use Rattle.linda_core.specs.Holding.{seen}
use Rattle.linda_core.proofs.ContentLemmas.{seen-insert_entry, on_ok}
use Rattle.linda_core.proofs.queues.begin.Goals as goal

pub returns : goal.returns
returns c =
    ap seen (on_ok _ _ (c.insert.ensures.succeeds c.requires) c.insert.ensures.entries)
    ∙ sym (seen-insert_entry c.args.queues.now.entries c.args.key c.args.queue)
