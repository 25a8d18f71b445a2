use Rattle.std.proofs.Common.{◌∙◌, slice_get, ap, sym}
use Rattle.std.proofs.lemmas.Option.{slice_get-map}
use Rattle.std.specs.Option.{option_map}
use Rattle.object_store.specs.Table.{contents_of}
use Rattle.object_store.proofs.ClosedLemmas.{BelongsTable-found}
use Rattle.object_store.proofs.state.State.table_of.Goals as goal

pub returns-clause-belongs : goal.returns-clause-belongs
returns-clause-belongs c = λ closed. BelongsTable-found c.args.self.now c.args.id.number _ closed
    (ap (option_map contents_of) c.find.ensures ∙ sym (slice_get-map contents_of c.self.inside.tables.items c.args.id.number)
    ∙ ap (λ s. slice_get s.heap.tables c.args.id.number) c.self.view_is)
