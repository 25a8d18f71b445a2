use Rattle.std.proofs.Common.{sym, ◌∙◌, ap}
use Rattle.std.specs.Option.{option_copied_mut}
use Rattle.linda_core.specs.Rooms.{bounded}
use Rattle.linda_core.proofs.ContentLemmas.{seen-changed}
use Rattle.linda_core.proofs.queues.limit_at.Goals as goal

pub returns : goal.returns
returns c =
    seen-changed c.args.queues.now.entries c.args.place (bounded c.args.limit) c.unwrap.result.now c.set_limit.new.self
    (sym c.get_index_mut.ensures.value ∙ ap option_copied_mut c.unwrap.ensures)
    (λ i. record { queue = c.set_limit.ensures.items i; limit = c.set_limit.ensures.limit i })
