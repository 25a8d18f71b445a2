use Rattle.std.proofs.Common.{◌∙◌, ap, sym, arith}
use Rattle.object_store.specs.Pairs.{first_live}
use Rattle.object_store.proofs.PairLemmas.{walk_live, walk_dead}
use Rattle.object_store.proofs.RunLemmas.{drop_past, length-joined}
use Rattle.object_store.proofs.pairs.live_from.Goals as goal

pub returns-then-not-is_nil : goal.returns-then-not-is_nil
returns-then-not-is_nil c = walk_live _ c.loop-i.i _ (sym c.pair_at-key.ensures) (sym c.is_nil.ensures ∙ c.if-not-is_nil.true) ∙ sym c.loop-i.invariant

pub loop-i-preserved : goal.loop-i-preserved
loop-i-preserved c = c.loop-i.invariant ∙ walk_dead _ c.loop-i.i _ (sym c.pair_at-key.ensures) (sym c.is_nil.ensures ∙ c.if-not-is_nil.false)

pub returns : goal.returns
returns c =
    sym (c.loop-i.invariant
    ∙ ap first_live (drop_past _ c.loop-i.i (omega (arith, length-joined c.args.run.now c.args.rest.now.entries, c.loop-i-test.false, c.len.ensures.len))))
