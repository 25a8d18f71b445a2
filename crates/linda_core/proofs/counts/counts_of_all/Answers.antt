use Rattle.std.proofs.Common.{◌∙◌, ap, [], ◌++◌, ◌∷◌, sym, arith}
use Rattle.linda_core.proofs.LoopLemmas.{counts_next, none_there}
use Rattle.linda_core.proofs.counts.counts_of_all.Goals as goal
use Rattle.linda_core.proofs.counts.counts_of_all.Goals.{in-Some+in_ok-copy+in_ok-push, in_default}

pub loop-place-preserved : goal.loop-place-preserved
loop-place-preserved c =
    let es = c.args.queues.now.entries in
    elim c.match-get_index.branch [
      | in-Some+in_ok-copy+in_ok-push w ↦
          ap (λ v. v.items) w.counts-is ∙ w.in_ok-push.ensures.items
          ∙ (λ i. c.loop-place.invariant i ++ (w.in_ok-copy.ensures i, w.len-in-Some.ensures i) ∷ [])
          ∙ sym (counts_next es c.loop-place.place (w.in-Some.key.now, w.in-Some.queue.now) (sym w.in-Some.ensures.entry))
      | in_default w ↦ none_there es c.loop-place.place w.in_default.ensures.entry (omega (arith, c.loop-place-test.true, c.len-place-end.ensures.len))
    ]
