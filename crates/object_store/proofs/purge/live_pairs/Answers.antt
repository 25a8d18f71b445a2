use Rattle.std.proofs.Common.{◌∙◌, ◌++◌, ◌+◌, ap, sym, arith, filter, drop}
use Rattle.object_store.specs.Pairs.{is_live}
use Rattle.object_store.specs.Run.{joined}
use Rattle.object_store.proofs.RunLemmas.{copy_takes, copy_absent, copy_distinct, copy_skips, copy_ends, distinct-live, length-joined}
use Rattle.object_store.proofs.purge.live_pairs.Goals as goal
use Rattle.object_store.proofs.purge.live_pairs.Goals.{then-not-is_nil+in_ok-add, else-not-is_nil}

pub loop-i-preserved : goal.loop-i-preserved
loop-i-preserved c =
    let es = joined c.args.run.now c.args.rest.now.entries in
    elim c.if-not-is_nil.branch [
      | then-not-is_nil+in_ok-add w ↦
          ap (λ m. m.entries ++ filter is_live (drop (c.loop-i.i + 1) es)) w.live-is
          ∙ copy_takes es c.loop-i.i _ c.pair_at-key.ensures _ _ c.loop-i.invariant (distinct-live c.args.from es c.requires.distinct) (sym c.is_nil.ensures ∙ w.if-not-is_nil.true) _ w.in_ok-add.ensures.entries
      | else-not-is_nil w ↦
          ap (λ m. m.entries ++ filter is_live (drop (c.loop-i.i + 1) es)) w.live-is
          ∙ copy_skips es c.loop-i.i _ c.pair_at-key.ensures _ _ c.loop-i.invariant (sym c.is_nil.ensures ∙ w.if-not-is_nil.false)
    ]

pub returns : goal.returns
returns c = copy_ends (joined c.args.run.now c.args.rest.now.entries) c.loop-i.i _ _ c.loop-i.invariant (omega (arith, length-joined c.args.run.now c.args.rest.now.entries, c.loop-i-test.false, c.len.ensures.len))

pub add-requires : goal.add-requires
add-requires c =
    let es = joined c.args.run.now c.args.rest.now.entries in
    record {
      absent = copy_absent es c.loop-i.i _ c.pair_at-key.ensures _ _ c.loop-i.invariant (distinct-live c.args.from es c.requires.distinct) (sym c.is_nil.ensures ∙ c.if-not-is_nil.true);
      distinct = copy_distinct es c.loop-i.i _ c.pair_at-key.ensures _ _ c.loop-i.invariant (distinct-live c.args.from es c.requires.distinct) (sym c.is_nil.ensures ∙ c.if-not-is_nil.true);
    }
