use Rattle.std.proofs.Common.{◌∙◌, ap, sym, refl, subst, arith, if◌then◌else◌}
use Rattle.object_store.specs.declared.value.Value.TheVariants.{Nil}
use Rattle.object_store.specs.Value.{value_eq}
use Rattle.object_store.specs.Pairs.{get_pair, IsTable, IsBorder}
use Rattle.object_store.specs.Run.{joined}
use Rattle.object_store.proofs.SetLemmas.{IsTable-set_pair, reads-set_pair}
use Rattle.object_store.proofs.BorderLemmas.{border-clear, full-store, ends-store, full-le-length, nil_from_is_nil}
use Rattle.object_store.proofs.RunLemmas.{length-joined}
use Rattle.object_store.proofs.table.Table.set.Goals as goal

pub invariant_of-self : goal.invariant_of-self
invariant_of-self c = record {
  is_table = subst IsTable (sym c.clear-self-inside.ensures.pairs) (IsTable-set_pair _ c.args.key Nil (sym c.is_nil.ensures ∙ c.if-is_nil.false) c.self.invariant.is_table);
  dead_counted = c.clear-self-inside.ensures.dead;
  at_border = border-clear _ _ c.args.key Nil _ (reads-set_pair _ _ c.args.key Nil c.self.invariant.is_table c.clear-self-inside.ensures.pairs) c.self.invariant.at_border refl _ c.lowered-self-inside.ensures;
  few = c.clear-self-inside.ensures.few;
}

pub returns-then-is_nil-2-clause-reads : goal.returns-then-is_nil-2-clause-reads
returns-then-is_nil-2-clause-reads c = λ q.
    reads-set_pair _ _ c.args.key Nil c.self.invariant.is_table c.clear-self-inside.ensures.pairs q
    ∙ ap (λ v. if value_eq c.args.key q then v else get_pair (joined c.self.inside.run.items c.self.inside.rest.entries) q) (sym (nil_from_is_nil c.args.value (sym c.is_nil-2.ensures ∙ c.if-is_nil-2.true)))
    ∙ ap (λ t. if value_eq c.args.key q then c.args.value else get_pair t.pairs q) c.self.view_is

pub raised-self-inside-requires-clause-few : goal.raised-self-inside-requires-clause-few
raised-self-inside-requires-clause-few c =
    omega (arith, length-joined c.store.new.run.items c.store.new.rest.entries, c.in-Ok.ensures.few, c.deref.ensures.len)

pub raised-self-inside-requires-clause-within : goal.raised-self-inside-requires-clause-within
raised-self-inside-requires-clause-within c =
    let same = ap (λ l. joined l c.store.new.rest.entries) c.deref.ensures.value in
    let before = joined c.self.inside.run.items c.self.inside.rest.entries in
    let full = full-store before (joined c.deref.result.now c.store.new.rest.entries) c.args.key c.args.value c.self.inside.border (reads-set_pair before _ c.args.key c.args.value c.self.invariant.is_table (same ∙ c.in-Ok.ensures.pairs)) c.self.invariant.at_border (sym c.is_nil-2.ensures ∙ c.if-is_nil-2.false) in
    omega (arith, full-le-length c.self.inside.border (joined c.deref.result.now c.store.new.rest.entries) full, length-joined c.deref.result.now c.store.new.rest.entries)

pub raised-self-inside-requires-clause-full : goal.raised-self-inside-requires-clause-full
raised-self-inside-requires-clause-full c =
    let same = ap (λ l. joined l c.store.new.rest.entries) c.deref.ensures.value in
    let before = joined c.self.inside.run.items c.self.inside.rest.entries in
    full-store before (joined c.deref.result.now c.store.new.rest.entries) c.args.key c.args.value c.self.inside.border (reads-set_pair before _ c.args.key c.args.value c.self.invariant.is_table (same ∙ c.in-Ok.ensures.pairs)) c.self.invariant.at_border (sym c.is_nil-2.ensures ∙ c.if-is_nil-2.false)

pub raised-self-inside-requires-clause-ends : goal.raised-self-inside-requires-clause-ends
raised-self-inside-requires-clause-ends c =
    let same = ap (λ l. joined l c.store.new.rest.entries) c.deref.ensures.value in
    let before = joined c.self.inside.run.items c.self.inside.rest.entries in
    ends-store before _ c.args.key c.args.value c.self.inside.border (reads-set_pair before _ c.args.key c.args.value c.self.invariant.is_table (same ∙ c.in-Ok.ensures.pairs)) c.self.invariant.at_border

pub invariant_of-self-in-Ok : goal.invariant_of-self-in-Ok
invariant_of-self-in-Ok c =
    let same = ap (λ l. joined l c.store.new.rest.entries) c.deref.ensures.value in
    record {
      is_table = subst IsTable (sym c.in-Ok.ensures.pairs) (IsTable-set_pair _ c.args.key c.args.value (sym c.is_nil.ensures ∙ c.if-is_nil.false) c.self.invariant.is_table);
      dead_counted = c.in-Ok.ensures.dead;
      at_border = subst (λ l. IsBorder l c.raised-self-inside.result) same c.raised-self-inside.ensures;
      few = c.in-Ok.ensures.few;
    }

pub returns-in-Ok-clause-reads : goal.returns-in-Ok-clause-reads
returns-in-Ok-clause-reads c =
    λ q. reads-set_pair _ _ c.args.key c.args.value c.self.invariant.is_table c.in-Ok.ensures.pairs q
    ∙ ap (λ t. if value_eq c.args.key q then c.args.value else get_pair t.pairs q) c.self.view_is
