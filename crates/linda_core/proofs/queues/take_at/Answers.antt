use Rattle.std.proofs.Common.{sym, ◌∙◌, ap, take}
use Rattle.std.specs.Option.{option_copied_mut}
use Rattle.linda_core.specs.Rooms.{shortened}
use Rattle.linda_core.proofs.ContentLemmas.{seen-changed, queue_at-seen}
use Rattle.linda_core.proofs.queues.take_at.Goals as goal

pub returns-clause-taken : goal.returns-clause-taken
returns-clause-taken c =
    c.take.ensures.taken
    ∙ ap (take c.args.count) (sym (queue_at-seen c.args.queues.now.entries c.args.place c.unwrap.result.now
    (sym c.get_index_mut.ensures.value ∙ ap option_copied_mut c.unwrap.ensures)))

pub returns-clause-rest : goal.returns-clause-rest
returns-clause-rest c =
    seen-changed c.args.queues.now.entries c.args.place (shortened c.args.count) c.unwrap.result.now c.take.new.self
    (sym c.get_index_mut.ensures.value ∙ ap option_copied_mut c.unwrap.ensures)
    (λ i. record { queue = c.take.ensures.items i; limit = c.take.ensures.limit i })
