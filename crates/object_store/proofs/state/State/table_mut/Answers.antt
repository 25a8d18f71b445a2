use Rattle.std.proofs.Common.{◌∙◌, slice_get, List, refl, ap, sym}
use Rattle.std.proofs.lemmas.List.{map-set}
use Rattle.std.proofs.lemmas.Option.{slice_get-map}
use Rattle.std.specs.Option.{option_map}
use Rattle.object_store.specs.Table.{Contents, contents_of}
use Rattle.object_store.specs.Heap.{Shown, with_table}
use Rattle.object_store.proofs.state.State.table_mut.Goals as goal

pub returns : goal.returns
returns c =
    let n = c.args.id.number in
    let shown_with : List Contents → Shown = λ l. record {
      heap = record { number = c.self.inside.number; tables = l; functions = c.self.inside.functions.items; cells = c.self.inside.cells.items; string_meta = c.self.inside.string_meta; lanes_table = c.self.inside.lanes_table };
      texts = c.self.inside.names;
      room = record { tables = c.self.inside.tables.spare; functions = c.self.inside.functions.spare; cells = c.self.inside.cells.spare };
    } in (
      (refl, λ w. ap shown_with (map-set contents_of c.self.inside.tables.items n w) ∙ ap (λ s. with_table s n (contents_of w)) c.self.view_is),
      record {
        writes_back = tt;
        table = ap (λ s. slice_get s.heap.tables n) (sym c.self.view_is) ∙ slice_get-map contents_of c.self.inside.tables.items n ∙ ap (option_map contents_of) c.get_mut.ensures.value;
      },
    )
