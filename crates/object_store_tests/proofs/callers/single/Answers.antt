use Rattle.std.proofs.Common.{◌∙◌, pos, sym, subst}
use Rattle.object_store.specs.declared.value.Value.TheVariants.{Int}
use Rattle.object_store.specs.Closed.{IsTableWithin}
use Rattle.object_store.proofs.CallerLemmas.{IsTableWithin-after_set, IsTableWithin-new}
use Rattle.object_store_tests.proofs.callers.single.Goals as goal

pub returns : goal.returns
returns c = λ bounds fits.
    let empty = subst (IsTableWithin bounds) (sym (c.reserve.ensures.contents ∙ (λ j. record { pairs = c.new-table.ensures.pairs j; meta = c.new-table.ensures.meta j }))) (IsTableWithin-new bounds) in
    IsTableWithin-after_set bounds c.reserve.new.self c.set.new.self c.set.result (Int (pos 1)) c.args.value empty tt fits c.set.ensures.pairs c.set.ensures.meta c.set.ensures.err
