use Rattle.std.proofs.Common.{◌≡◌, ◌∙◌, ◌++◌, ◌∷◌, ◌+◌, [], length, length-append, All, ap, sym, arith, append_assoc}
use Rattle.std.proofs.lemmas.List.Elements.{All-push}
use Rattle.std.proofs.lemmas.List.{append-nil}
use Rattle.object_store.specs.Closed.{bounds_of, IsTableWithin}
use Rattle.object_store.specs.Heap.{Heap}
use Rattle.object_store.specs.Table.{Contents, contents_of}
use Rattle.object_store.proofs.CallerLemmas.{IsClosed-added}
use Rattle.object_store_tests.proofs.callers.add_circle.Goals as goal

pub returns : goal.returns
returns c =
    let old = c.args.state.now in
    let one : Contents = contents_of c.in_ok-one.one in
    let two : Contents = contents_of c.in_ok-two.two in
    let made : c.add_table-2.new.self.heap ≡ record (old.heap) { tables = old.heap.tables ++ one ∷ two ∷ []; functions = old.heap.functions ++ []; cells = old.heap.cells ++ [] } =
    c.add_table-2.ensures.heap ∙ ap (λ (h : Heap). record h { tables = h.tables ++ two ∷ [] }) c.add_table.ensures.heap
    ∙ ap (λ (h : Heap). record h { tables = (h.tables ++ one ∷ []) ++ two ∷ [] }) c.reserve.ensures.heap
    ∙ (λ j. record (old.heap) { tables = append_assoc old.heap.tables (one ∷ []) (two ∷ []) j; functions = sym (append-nil old.heap.functions) j; cells = sym (append-nil old.heap.cells) j }) in
    let bounds = bounds_of c.add_table-2.new.self in
    let count : bounds.tables ≡ length old.heap.tables + 2 = omega (arith, ap (λ (h : Heap). length h.tables) made, length-append old.heap.tables (one ∷ two ∷ [])) in
    let one_fits : IsTableWithin bounds one = c.in_ok-one.ensures bounds (omega (arith, count, c.table_ahead-second.ensures)) in
    let two_fits : IsTableWithin bounds two = c.in_ok-two.ensures bounds (omega (arith, count, c.table_ahead-first.ensures)) in
    let none : All (IsTableWithin bounds) [] = λ k d lt. absurd (omega (arith, lt)) in
    record {
      belongs = omega (arith, count, c.table_ahead-first.ensures);
      closed = IsClosed-added old c.add_table-2.new.self (one ∷ two ∷ []) [] [] c.requires.closed (c.add_table-2.ensures.texts ∙ c.add_table.ensures.texts ∙ c.reserve.ensures.texts) made
          (All-push (IsTableWithin bounds) (one ∷ []) two (All-push (IsTableWithin bounds) [] one none one_fits) two_fits)
          (λ k d lt. absurd (omega (arith, lt))) (λ k d lt. absurd (omega (arith, lt)));
    }
