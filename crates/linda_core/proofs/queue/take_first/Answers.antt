use Rattle.std.proofs.Common.{◌∙◌, ap, arith}
use Rattle.linda_core.proofs.LoopLemmas.{taken_more, rest_more, none_left}
use Rattle.linda_core.proofs.queue.take_first.Goals as goal
use Rattle.linda_core.proofs.queue.take_first.Goals.{in-Some, in_default}

pub loop-preserved : goal.loop-preserved
loop-preserved c =
    let items = c.args.ring.now.items in
    let n = c.loop.counter in
    let inv = c.loop.invariant in (
      elim c.match-pop_front.branch [
        | in-Some w ↦
            let next = taken_more items c.loop.values.items c.loop.ring.items n w.in-Some.item inv.0 inv.1 w.in-Some.ensures.value in
            cc
        | in_default w ↦ none_left items c.loop.ring.items n inv.1 w.in_default.ensures.value (omega (arith, c.requires.count, c.loop-test.true))
      ],
      ap (λ b. b.items) c.pop_front.ensures.items ∙ rest_more items c.loop.ring.items n inv.1,
      ap (λ b. b.capacity) c.pop_front.ensures.items ∙ inv.2,
      elim c.match-pop_front.branch [
        | in-Some w ↦ let had = inv.3 in cc
        | in_default w ↦ let had = inv.3 in cc
      ],
    )
