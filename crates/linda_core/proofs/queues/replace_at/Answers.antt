use Rattle.std.proofs.Common.{sym, ◌∙◌, ap}
use Rattle.std.specs.Option.{option_copied_mut}
use Rattle.linda_core.specs.Rooms.{replaced}
use Rattle.linda_core.proofs.ContentLemmas.{seen-changed}
use Rattle.linda_core.proofs.queues.replace_at.Goals as goal

pub returns : goal.returns
returns c =
    seen-changed c.args.queues.now.entries c.args.place (replaced c.args.ring.items) c.unwrap.result.now c.replace.new.self
    (sym c.get_index_mut.ensures.value ∙ ap option_copied_mut c.unwrap.ensures)
    (λ i. record { queue = c.replace.ensures.items i; limit = c.replace.ensures.limit i })
