use Rattle.std.proofs.Common.{ap, sym, ◌∙◌, ◌-◌, ◌+◌, length, nat_le}
use Rattle.linda_core.specs.SequentialLinda.{is_within}
use Rattle.linda_core.proofs.ContentLemmas.{held_by-known, held_by-unknown}
use Rattle.linda_core.proofs.ReadyLemmas.{within, beyond}
use Rattle.linda_core.proofs.queues.has_room.Goals as goal

pub returns-then-more-limit : goal.returns-then-more-limit
returns-then-more-limit c =
    ap (λ n. nat_le n (c.in-Some-limit.limit - c.args.more)) c.len.ensures
    ∙ within (length c.in-Some.queue.now.items) c.args.more c.in-Some-limit.limit c.if-more-limit.true
    ∙ ap (λ limit. is_within limit (length c.in-Some.queue.now.items + c.args.more)) c.in-Some-limit.ensures
    ∙ ap (λ known. is_within known.limit (length known.queue + c.args.more)) (sym (held_by-known _ c.args.key.now _ (sym c.in-Some.ensures.value)))

pub returns-else-more-limit : goal.returns-else-more-limit
returns-else-more-limit c =
    beyond (length c.in-Some.queue.now.items) c.args.more c.in-Some-limit.limit c.if-more-limit.false
    ∙ ap (λ limit. is_within limit (length c.in-Some.queue.now.items + c.args.more)) c.in-Some-limit.ensures
    ∙ ap (λ known. is_within known.limit (length known.queue + c.args.more)) (sym (held_by-known _ c.args.key.now _ (sym c.in-Some.ensures.value)))

pub returns-in-None-limit : goal.returns-in-None-limit
returns-in-None-limit c =
    ap (λ limit. is_within limit (length c.in-Some.queue.now.items + c.args.more)) c.in-None-limit.ensures
    ∙ ap (λ known. is_within known.limit (length known.queue + c.args.more)) (sym (held_by-known _ c.args.key.now _ (sym c.in-Some.ensures.value)))

pub returns-in-None : goal.returns-in-None
returns-in-None c =
    ap (λ known. is_within known.limit (length known.queue + c.args.more)) (sym (held_by-unknown _ c.args.key.now (sym c.in-None.ensures.value)))
