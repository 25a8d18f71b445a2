use Rattle.std.proofs.Common.{◌∙◌, ap, ◌+◌, ◌++◌, ◌∷◌, [], sym, drop, length}
use Rattle.std.specs.List.{filter_map}
use Rattle.linda_core.specs.SequentialLinda.{count_of}
use Rattle.linda_core.specs.Holding.{seen}
use Rattle.linda_core.proofs.LoopLemmas.{kept_next, skipped_next, count_of-known, count_of-unknown}
use Rattle.linda_core.proofs.counts.counts_of_known.Goals as goal
use Rattle.linda_core.proofs.counts.counts_of_known.Goals.{in-Some+in_ok-copy+in_ok-push, in_default}

pub loop-key-preserved : goal.loop-key-preserved
loop-key-preserved c =
    let es = c.args.queues.now.entries in
    let f = count_of (seen es) in
    let rest = filter_map f (drop (c.loop-key.key-index + 1) c.args.keys.now) in
    elim c.match-get.branch [
      | in-Some+in_ok-copy+in_ok-push w ↦
          ap (λ v. v.items ++ rest) w.counts-is
          ∙ ap (λ l. l ++ rest) (w.in_ok-push.ensures.items ∙ (λ i. c.loop-key.counts.items ++ (w.in_ok-copy.ensures i, w.len.ensures i) ∷ []))
          ∙ sym (kept_next f c.loop-key.counts.items c.args.keys.now c.loop-key.key-index c.key-item.result c.loop-key-test.true c.key-item.is (c.key-item.result, length w.in-Some.queue.now.items) (count_of-known es c.key-item.result w.in-Some.queue.now (sym w.in-Some.ensures.value)))
          ∙ c.loop-key.invariant
      | in_default w ↦
          ap (λ v. v.items ++ rest) w.counts-is
          ∙ sym (skipped_next f c.loop-key.counts.items c.args.keys.now c.loop-key.key-index c.key-item.result c.loop-key-test.true c.key-item.is (count_of-unknown es c.key-item.result (sym w.in_default.ensures.value)))
          ∙ c.loop-key.invariant
    ]
