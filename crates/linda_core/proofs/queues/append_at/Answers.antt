use Rattle.std.proofs.Common.{sym, ◌∙◌, ap}
use Rattle.std.specs.Option.{option_copied_mut}
use Rattle.linda_core.specs.Rooms.{appended}
use Rattle.linda_core.proofs.ContentLemmas.{seen-changed}
use Rattle.linda_core.proofs.queues.append_at.Goals as goal

pub returns : goal.returns
returns c =
    seen-changed c.args.queues.now.entries c.args.place (appended c.args.values.items) c.unwrap.result.now c.append.new.self
    (sym c.get_index_mut.ensures.value ∙ ap option_copied_mut c.unwrap.ensures)
    (λ i. record { queue = c.append.ensures.items i; limit = c.append.ensures.limit i })
