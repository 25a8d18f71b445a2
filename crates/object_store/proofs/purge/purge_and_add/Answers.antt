use Rattle.std.proofs.Common.{◌≡◌, ◌∙◌, ap, sym, subst, arith, filter, drop}
use Rattle.std.specs.Map.{lookup, keys_of}
use Rattle.std.specs.List.{position_or_len, IsDistinct}
use Rattle.object_store.specs.Run.{joined}
use Rattle.object_store.specs.Pairs.{is_live}
use Rattle.object_store.specs.Value.{value_eq, is_nil}
use Rattle.object_store.proofs.RunLemmas.{purged_last, prefix_le, absent_live, distinct-live}
use Rattle.object_store.proofs.purge.purge_and_add.Goals as goal

pub live_pairs-requires-clause-within : goal.live_pairs-requires-clause-within
live_pairs-requires-clause-within c =
    let most = prefix_le c.deref.result.now c.live_prefix-kept.result c.live_prefix-kept.ensures in
    omega (arith, most, c.deref.ensures.len, c.deref-2.ensures.len)

pub returns-clause-pairs : goal.returns-clause-pairs
returns-clause-pairs c =
    purged_last c.args.run.now.items c.truncate.new.self.items c.args.rest.now.entries _ c.add.new.self.entries c.args.key c.args.value c.live_prefix-kept.result
    (c.live_prefix-kept.ensures ∙ ap (position_or_len is_nil) c.deref.ensures.value) c.truncate.ensures.items
    (c.in_ok-live.ensures ∙ ap (λ l. filter is_live (drop c.live_prefix-kept.result (joined l c.args.rest.now.entries))) c.deref-2.ensures.value)
    c.in_ok-add.ensures.entries

pub add-requires : goal.add-requires
add-requires c =
    let n = c.live_prefix-kept.result in
    let es = c.args.rest.now.entries in
    let copied : c.in_ok-live.live.entries ≡ filter is_live (drop n (joined c.args.run.now.items es)) = c.in_ok-live.ensures ∙ ap (λ l. filter is_live (drop n (joined l es))) c.deref-2.ensures.value in
    record {
      absent = ap (lookup (value_eq c.args.key)) copied ∙ absent_live c.args.run.now.items es c.args.key n c.requires.absent;
      distinct = subst (λ l. IsDistinct value_eq (keys_of l)) (sym copied) (distinct-live n (joined c.args.run.now.items es) c.requires.distinct);
    }
