use Rattle.std.proofs.Common.{◌∙◌, ◌++◌, ◌∷◌, [], arith, sym, ap}
use Rattle.linda_core.proofs.LoopLemmas.{take_next, none_there}
use Rattle.linda_core.proofs.queue.Queue.first.Goals as goal
use Rattle.linda_core.proofs.queue.Queue.first.Goals.{in-Some+in_ok-copy+in_ok-push, in_default}

pub loop-at-preserved : goal.loop-at-preserved
loop-at-preserved c =
    let items = c.self.inside.ring.items in (
      elim c.match-get.branch [
        | in-Some+in_ok-copy+in_ok-push w ↦
            ap (λ v. v.items) w.copies-is ∙ w.in_ok-push.ensures.items
            ∙ (λ i. c.loop-at.invariant.0 i ++ w.in_ok-copy.ensures i ∷ [])
            ∙ sym (take_next items c.loop-at.at w.in-Some.item.now (sym w.in-Some.ensures))
        | in_default w ↦ none_there items c.loop-at.at w.in_default.ensures (omega (arith, c.loop-at.invariant.1, c.loop-at-test.true))
      ],
      c.loop-at.invariant.1,
    )
