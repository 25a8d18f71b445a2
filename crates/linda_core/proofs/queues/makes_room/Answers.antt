use Rattle.std.proofs.Common.{ap, sym, ◌∙◌, length}
use Rattle.linda_core.specs.SequentialLinda.{has_new_room}
use Rattle.linda_core.proofs.ContentLemmas.{held_by-known, held_by-unknown}
use Rattle.linda_core.proofs.queues.makes_room.Goals as goal

pub returns-in-Some : goal.returns-in-Some
returns-in-Some c =
    c.has_new_room.ensures
    ∙ (λ i. has_new_room (c.limit.ensures i) c.args.limit (c.len.ensures i))
    ∙ ap (λ known. has_new_room known.limit c.args.limit (length known.queue)) (sym (held_by-known _ c.args.key.now _ (sym c.in-Some.ensures.value)))

pub returns-in-None : goal.returns-in-None
returns-in-None c =
    ap (λ known. has_new_room known.limit c.args.limit (length known.queue)) (sym (held_by-unknown _ c.args.key.now (sym c.in-None.ensures.value)))
