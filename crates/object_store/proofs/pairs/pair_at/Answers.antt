use Rattle.std.proofs.Common.{◌∙◌, ◌+◌, ◌-◌, ◌<◌, ◌^◌, length, ap, sym, arith, rules, w64, Some, slice_index_or}
use Rattle.std.proofs.lemmas.Int.{to_z_pos}
use Rattle.object_store.specs.declared.value.Value.TheVariants.{Nil, Int}
use Rattle.object_store.proofs.RunLemmas.{pair-run, pair-past}
use Rattle.object_store.proofs.pairs.pair_at.Goals as goal

pub returns-then-i-run : goal.returns-then-i-run
returns-then-i-run c =
    let small : c.args.i + 1 < 2 ^ 63 = search rules in
    pair-run c.args.run.now c.args.rest.now.entries 0 c.args.i c.args.i (omega arith) c.if-i-run.true
    ∙ ap (λ z. Some (Int z, slice_index_or c.args.run.now c.args.i Nil)) (sym (to_z_pos w64 (c.args.i + 1) small))

pub returns : goal.returns
returns c =
    pair-past c.args.run.now c.args.rest.now.entries 0 (c.args.i - length c.args.run.now) c.args.i (omega (arith, c.if-i-run.false))
    ∙ sym c.pair.ensures ∙ c.unwrap.ensures
