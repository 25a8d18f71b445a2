use Rattle.std.proofs.Common.{◌∙◌, ◌++◌, ◌∷◌, [], List, map, ap}
use Rattle.std.proofs.lemmas.List.{map-append}
use Rattle.object_store.specs.Table.{TableShown, contents_of}
use Rattle.object_store.specs.Heap.{Heap}
use Rattle.object_store.proofs.ClosedLemmas.{IsClosed-add_table}
use Rattle.object_store.proofs.state.State.add_table.Goals as goal

pub returns-clause-closed : goal.returns-clause-closed
returns-clause-closed c =
    let heap_with : List TableShown → Heap = λ l. record {
      number = c.self.inside.number;
      tables = map contents_of l;
      functions = c.self.inside.functions.items;
      cells = c.self.inside.cells.items;
      string_meta = c.self.inside.string_meta;
      lanes_table = c.self.inside.lanes_table;
    } in
    λ closed fits.
    IsClosed-add_table c.args.self.now _ _ (ap (λ s. s.texts) c.self.view_is) closed (contents_of c.args.table)
    (ap heap_with c.push.ensures.items ∙ ap (λ l. record (heap_with c.self.inside.tables.items) { tables = l }) (map-append contents_of c.self.inside.tables.items (c.args.table ∷ [])) ∙ ap (λ s. record (s.heap) { tables = s.heap.tables ++ contents_of c.args.table ∷ [] }) c.self.view_is) fits
