use Rattle.std.proofs.Common.{ap, sym, ◌∙◌, length, nat_le}
use Rattle.linda_core.proofs.ContentLemmas.{held_by-known, held_by-unknown}
use Rattle.linda_core.proofs.ReadyLemmas.{none_at_least}
use Rattle.linda_core.proofs.queues.has_at_least.Goals as goal

pub returns-in-Some : goal.returns-in-Some
returns-in-Some c =
    ap (nat_le c.args.count) c.len.ensures
    ∙ ap (λ known. nat_le c.args.count (length known.queue)) (sym (held_by-known _ c.args.key.now _ (sym c.in-Some.ensures.value)))

pub returns-in-None : goal.returns-in-None
returns-in-None c =
    none_at_least c.args.count
    ∙ ap (λ known. nat_le c.args.count (length known.queue)) (sym (held_by-unknown _ c.args.key.now (sym c.in-None.ensures.value)))
