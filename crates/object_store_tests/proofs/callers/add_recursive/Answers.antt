use Rattle.std.proofs.Common.{◌≡◌, ◌<◌, ◌∙◌, ◌++◌, ◌∷◌, ◌+◌, [], length, length-append, All, ap, sym, arith}
use Rattle.std.proofs.lemmas.List.Elements.{All-push, All-same}
use Rattle.std.proofs.lemmas.List.{append-nil}
use Rattle.lanes_arena.specs.declared.code.Code.TheVariants.{Script}
use Rattle.object_store.specs.declared.state.Function.{Function}
use Rattle.object_store.specs.declared.state.Cell.{Cell}
use Rattle.object_store.specs.declared.value.Value.TheVariants.{Func}
use Rattle.object_store.specs.Closed.{bounds_of, IsFunctionWithin, IsCellWithin}
use Rattle.object_store.specs.Heap.{Heap}
use Rattle.lanes_arena.specs.declared.id.Id.{Id}
use Rattle.object_store.specs.declared.value.Cells.{Cells}
use Rattle.object_store.proofs.CallerLemmas.{IsClosed-added}
use Rattle.object_store_tests.proofs.callers.add_recursive.Goals as goal

pub returns-clause-closed : goal.returns-clause-closed
returns-clause-closed c =
    let old = c.args.state.now in
    let f : Function = record { code = Script 0; cells = c.push.new.self } in
    let cell : Cell = record { content = Func c.function_ahead-function.result } in
    let made : c.add_function.new.self.heap ≡ record (old.heap) { tables = old.heap.tables ++ []; functions = old.heap.functions ++ f ∷ []; cells = old.heap.cells ++ cell ∷ [] } =
    c.add_function.ensures.heap ∙ ap (λ (h : Heap). record h { functions = h.functions ++ f ∷ [] }) c.add_cell.ensures.heap
    ∙ ap (λ (h : Heap). record h { functions = h.functions ++ f ∷ []; cells = h.cells ++ cell ∷ [] }) c.reserve.ensures.heap
    ∙ (λ j. record (old.heap) { tables = sym (append-nil old.heap.tables) j; functions = old.heap.functions ++ f ∷ []; cells = old.heap.cells ++ cell ∷ [] }) in
    let bounds = bounds_of c.add_function.new.self in
    let functions : bounds.functions ≡ length old.heap.functions + 1 = omega (arith, ap (λ (h : Heap). length h.functions) made, length-append old.heap.functions (f ∷ [])) in
    let cells : bounds.cells ≡ length old.heap.cells + 1 = omega (arith, ap (λ (h : Heap). length h.cells) made, length-append old.heap.cells (cell ∷ [])) in
    let cell_fits : IsCellWithin bounds cell = omega (arith, functions, c.function_ahead-function.ensures) in
    let P : Id Cells → Type 0 = λ id. id.number < bounds.cells in
    let f_fits : IsFunctionWithin bounds f =
    All-same P c.push.new.self (c.cell_ahead.result ∷ []) (c.in_ok-push.ensures.ok ∙ ap (λ l. l ++ c.cell_ahead.result ∷ []) c.new-cells.ensures)
    (All-push P [] c.cell_ahead.result (λ k d lt. absurd (omega (arith, lt))) (omega (arith, cells, c.cell_ahead.ensures))) in
    IsClosed-added old c.add_function.new.self [] (f ∷ []) (cell ∷ []) c.requires.closed (c.add_function.ensures.texts ∙ c.add_cell.ensures.texts ∙ c.reserve.ensures.texts) made
    (λ k d lt. absurd (omega (arith, lt)))
    (All-push (IsFunctionWithin bounds) [] f (λ k d lt. absurd (omega (arith, lt))) f_fits)
    (All-push (IsCellWithin bounds) [] cell (λ k d lt. absurd (omega (arith, lt))) cell_fits)
