use Rattle.std.proofs.Common.{◌∙◌, slice_get, ap, sym}
use Rattle.std.proofs.lemmas.Option.{slice_get-map}
use Rattle.std.specs.Option.{option_map}
use Rattle.object_store.specs.Table.{contents_of}
use Rattle.object_store.proofs.ClosedLemmas.{BelongsTable-at}
use Rattle.object_store.proofs.state.State.table.Goals as goal

pub returns-clause-belongs : goal.returns-clause-belongs
returns-clause-belongs c = λ closed. BelongsTable-at c.args.self.now c.args.id.number _ closed
    (ap (λ s. slice_get s.heap.tables c.args.id.number) (sym c.self.view_is)
    ∙ slice_get-map contents_of c.self.inside.tables.items c.args.id.number ∙ ap (option_map contents_of) c.get.ensures)
