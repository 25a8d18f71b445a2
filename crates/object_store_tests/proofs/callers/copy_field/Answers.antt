use Rattle.std.proofs.Common.{sym, subst}
use Rattle.object_store.specs.Closed.{Belongs, bounds_of}
use Rattle.object_store.proofs.CallerLemmas.{get-within}
use Rattle.object_store_tests.proofs.callers.copy_field.Goals as goal

pub set_field-requires-clause-value : goal.set_field-requires-clause-value
set_field-requires-clause-value c =
    subst (Belongs c.args.state.now) (sym c.get-value.ensures.value)
    (get-within (bounds_of c.args.state.now) c.in-Some.table.now.pairs c.args.from (c.in-Some.ensures.belongs c.requires.closed).pairs)
