use Rattle.std.proofs.Common.{◌≡◌, ℕ, ap, sym, ◌∙◌, length, min, arith}
use Rattle.linda_core.proofs.ContentLemmas.{held_by-known, held_by-unknown}
use Rattle.linda_core.proofs.queues.length_at_most.Goals as goal

none_of : (count : ℕ) → 0 ≡ min count 0
none_of count = omega arith

pub returns-in-Some : goal.returns-in-Some
returns-in-Some c =
    c.at_most.ensures.least
    ∙ ap (λ known. min c.args.count (length known.queue)) (sym (held_by-known _ c.args.key.now _ (sym c.in-Some.ensures.value)))

pub returns-in-None : goal.returns-in-None
returns-in-None c =
    none_of c.args.count
    ∙ ap (λ known. min c.args.count (length known.queue)) (sym (held_by-unknown _ c.args.key.now (sym c.in-None.ensures.value)))
