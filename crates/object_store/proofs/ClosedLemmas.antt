-- What keeps a state closed.
use Rattle.std.proofs.Common.{◌≡◌, ℕ, ◌<◌, ◌≤◌, List, [], ◌∷◌, ◌++◌, length, All, Option, None, Some, IfSome, slice_get, slice_set, ap, sym, subst, arith, length-append}
use Rattle.std.proofs.lemmas.List.Elements.{All-push, All-set, All-append}
use Rattle.std.proofs.lemmas.List.{length-set}
use Rattle.std.proofs.lemmas.Option.{slice_get_within, get_or_from_slice_get}
use Rattle.std.specs.Option.{option_map}
use Rattle.object_store.specs.declared.value.Value.{Value}
use Rattle.object_store.specs.declared.value.Value.TheVariants.{Nil, False, True, Int, Str, Table, Func, Lib, Linda, Lane, Light}
use Rattle.object_store.specs.declared.state.Function.{Function}
use Rattle.object_store.specs.declared.state.Cell.{Cell}
use Rattle.object_store.specs.Value.{TableId}
use Rattle.object_store.specs.Table.{Contents, TableShown, contents_of}
use Rattle.object_store.specs.Heap.{Heap, Shown, with_table, with_cell}
use Rattle.object_store.specs.Closed.{Bounds, bounds_of, IsWithin, IsPairWithin, IsTableWithin, IsFunctionWithin, IsCellWithin, IsHeapWithin, IsClosed, BelongsTable, BelongsFunction, BelongsCell}

-- there are at least as many of each
pub record IsRaised (a b : Bounds) : Type 0 where
  pub tables : a.tables ≤ b.tables
  pub functions : a.functions ≤ b.functions
  pub cells : a.cells ≤ b.cells
  pub texts : a.texts ≤ b.texts

All_then : {A : Type 0} (P Q : A → Type 0) (xs : List A) → ((x : A) → P x → Q x) → All P xs → All Q xs
All_then P Q xs step h = λ k d lt. step _ (h k d lt)

module _ (a b : Bounds) (more : IsRaised a b) where
  pub IsWithin-raised : (v : Value) → IsWithin a v → IsWithin b v
  IsWithin-raised Nil h = tt
  IsWithin-raised False h = tt
  IsWithin-raised True h = tt
  IsWithin-raised (Int _) h = tt
  IsWithin-raised (Str id) h = omega (arith, more.texts, h)
  IsWithin-raised (Table id) h = omega (arith, more.tables, h)
  IsWithin-raised (Func id) h = omega (arith, more.functions, h)
  IsWithin-raised (Lib _) h = tt
  IsWithin-raised (Linda _) h = tt
  IsWithin-raised (Lane _) h = tt
  IsWithin-raised (Light _) h = tt

  some_raised : (o : Option TableId) → IfSome o (λ id. id.number < a.tables) → IfSome o (λ id. id.number < b.tables)
  some_raised None h = tt
  some_raised (Some id) h = omega (arith, more.tables, h)

  pub IsTableWithin-raised : (t : Contents) → IsTableWithin a t → IsTableWithin b t
  IsTableWithin-raised t h = record {
    pairs = All_then (IsPairWithin a) (IsPairWithin b) t.pairs (λ p q. (IsWithin-raised p.0 q.0, IsWithin-raised p.1 q.1)) h.pairs;
    meta = some_raised t.meta h.meta;
  }

  pub IsFunctionWithin-raised : (f : Function) → IsFunctionWithin a f → IsFunctionWithin b f
  IsFunctionWithin-raised f h = All_then (λ id. id.number < a.cells) (λ id. id.number < b.cells) f.cells (λ id q. omega (arith, more.cells, q)) h

  pub IsHeapWithin-raised : (heap : Heap) → IsHeapWithin a heap → IsHeapWithin b heap
  IsHeapWithin-raised heap h = record {
    tables = All_then (IsTableWithin a) (IsTableWithin b) heap.tables IsTableWithin-raised h.tables;
    functions = All_then (IsFunctionWithin a) (IsFunctionWithin b) heap.functions IsFunctionWithin-raised h.functions;
    cells = All_then (IsCellWithin a) (IsCellWithin b) heap.cells (λ c. IsWithin-raised c.content) h.cells;
    string_meta = some_raised heap.string_meta h.string_meta;
    lanes_table = some_raised heap.lanes_table h.lanes_table;
  }

longer : {A : Type 0} (xs : List A) (x : A) → length xs ≤ length (xs ++ x ∷ [])
longer xs x = omega (arith, length-append xs (x ∷ []))

-- what `IsClosed` says of a state whose heap and texts are these
abbrev pub IsClosedHeap : Heap → List (List ℕ) → Type 0
IsClosedHeap heap texts = IsHeapWithin (record { tables = length heap.tables; functions = length heap.functions; cells = length heap.cells; texts = length texts }) heap

closed_by : (new_heap heap : Heap) (new_texts texts : List (List ℕ)) → new_heap ≡ heap → new_texts ≡ texts → IsClosedHeap heap texts → IsClosedHeap new_heap new_texts
closed_by new_heap heap new_texts texts same_heap same_texts closed = subst (λ h. IsClosedHeap h new_texts) (sym same_heap) (subst (IsClosedHeap heap) (sym same_texts) closed)

-- an object that belongs to a closed state leaves it closed once it is added
module _ (old : Shown) (new_heap : Heap) (new_texts : List (List ℕ)) (texts : new_texts ≡ old.texts) (closed : IsClosed old) where
  pub IsClosed-add_table : (t : Contents) → new_heap ≡ record (old.heap) { tables = old.heap.tables ++ t ∷ [] } → BelongsTable old t → IsClosedHeap new_heap new_texts
  IsClosed-add_table t heap fits =
      let heap_now : Heap = record (old.heap) { tables = old.heap.tables ++ t ∷ [] } in
      let bounds : Bounds = bounds_of (record old { heap = heap_now }) in
      let more : IsRaised (bounds_of old) bounds = record { tables = longer old.heap.tables t; functions = omega arith; cells = omega arith; texts = omega arith } in
      let kept : IsHeapWithin bounds old.heap = IsHeapWithin-raised (bounds_of old) bounds more old.heap closed in
      closed_by new_heap heap_now new_texts old.texts heap texts (record {
        tables = All-push (IsTableWithin bounds) old.heap.tables t kept.tables (IsTableWithin-raised (bounds_of old) bounds more t fits);
        functions = kept.functions;
        cells = kept.cells;
        string_meta = kept.string_meta;
        lanes_table = kept.lanes_table;
      })

  pub IsClosed-add_function : (f : Function) → new_heap ≡ record (old.heap) { functions = old.heap.functions ++ f ∷ [] } → BelongsFunction old f → IsClosedHeap new_heap new_texts
  IsClosed-add_function f heap fits =
      let heap_now : Heap = record (old.heap) { functions = old.heap.functions ++ f ∷ [] } in
      let bounds : Bounds = bounds_of (record old { heap = heap_now }) in
      let more : IsRaised (bounds_of old) bounds = record { tables = omega arith; functions = longer old.heap.functions f; cells = omega arith; texts = omega arith } in
      let kept : IsHeapWithin bounds old.heap = IsHeapWithin-raised (bounds_of old) bounds more old.heap closed in
      closed_by new_heap heap_now new_texts old.texts heap texts (record {
        tables = kept.tables;
        functions = All-push (IsFunctionWithin bounds) old.heap.functions f kept.functions (IsFunctionWithin-raised (bounds_of old) bounds more f fits);
        cells = kept.cells;
        string_meta = kept.string_meta;
        lanes_table = kept.lanes_table;
      })

  pub IsClosed-add_cell : (c : Cell) → new_heap ≡ record (old.heap) { cells = old.heap.cells ++ c ∷ [] } → BelongsCell old c → IsClosedHeap new_heap new_texts
  IsClosed-add_cell c heap fits =
      let heap_now : Heap = record (old.heap) { cells = old.heap.cells ++ c ∷ [] } in
      let bounds : Bounds = bounds_of (record old { heap = heap_now }) in
      let more : IsRaised (bounds_of old) bounds = record { tables = omega arith; functions = omega arith; cells = longer old.heap.cells c; texts = omega arith } in
      let kept : IsHeapWithin bounds old.heap = IsHeapWithin-raised (bounds_of old) bounds more old.heap closed in
      closed_by new_heap heap_now new_texts old.texts heap texts (record {
        tables = kept.tables;
        functions = kept.functions;
        cells = All-push (IsCellWithin bounds) old.heap.cells c kept.cells (IsWithin-raised (bounds_of old) bounds more c.content fits);
        string_meta = kept.string_meta;
        lanes_table = kept.lanes_table;
      })

-- a table or a cell that belongs to a closed state leaves it closed once it is written
pub IsClosed-with_table : (s : Shown) (number : ℕ) (t : Contents) → IsClosed s → BelongsTable s t → IsClosed (with_table s number t)
IsClosed-with_table s number t closed fits =
    let same : length (slice_set s.heap.tables number t) ≡ length s.heap.tables = length-set s.heap.tables number t in
    let bounds : Bounds = bounds_of (with_table s number t) in
    let more : IsRaised (bounds_of s) bounds = record { tables = omega (arith, same); functions = omega arith; cells = omega arith; texts = omega arith } in
    let kept : IsHeapWithin bounds s.heap = IsHeapWithin-raised (bounds_of s) bounds more s.heap closed in
    record {
      tables = All-set (IsTableWithin bounds) s.heap.tables number t (IsTableWithin-raised (bounds_of s) bounds more t fits) kept.tables;
      functions = kept.functions;
      cells = kept.cells;
      string_meta = kept.string_meta;
      lanes_table = kept.lanes_table;
    }

pub IsClosed-with_cell : (s : Shown) (number : ℕ) (c : Cell) → IsClosed s → BelongsCell s c → IsClosed (with_cell s number c)
IsClosed-with_cell s number c closed fits =
    let same : length (slice_set s.heap.cells number c) ≡ length s.heap.cells = length-set s.heap.cells number c in
    let bounds : Bounds = bounds_of (with_cell s number c) in
    let more : IsRaised (bounds_of s) bounds = record { tables = omega arith; functions = omega arith; cells = omega (arith, same); texts = omega arith } in
    let kept : IsHeapWithin bounds s.heap = IsHeapWithin-raised (bounds_of s) bounds more s.heap closed in
    record {
      tables = kept.tables;
      functions = kept.functions;
      cells = All-set (IsCellWithin bounds) s.heap.cells number c (IsWithin-raised (bounds_of s) bounds more c.content fits) kept.cells;
      string_meta = kept.string_meta;
      lanes_table = kept.lanes_table;
    }

-- an object of a closed state belongs to it
pub All-at : {A : Type 0} (P : A → Type 0) (xs : List A) (n : ℕ) (x : A) → All P xs → slice_get xs n ≡ Some x → P x
All-at P xs n x all at = subst P (get_or_from_slice_get xs n x x at) (all n x (slice_get_within xs n x at))

pub BelongsTable-at : (s : Shown) (n : ℕ) (t : Contents) → IsClosed s → slice_get s.heap.tables n ≡ Some t → BelongsTable s t
BelongsTable-at s n t closed = All-at (BelongsTable s) s.heap.tables n t closed.tables

pub BelongsFunction-at : (s : Shown) (n : ℕ) (f : Function) → IsClosed s → slice_get s.heap.functions n ≡ Some f → BelongsFunction s f
BelongsFunction-at s n f closed = All-at (BelongsFunction s) s.heap.functions n f closed.functions

pub BelongsCell-at : (s : Shown) (n : ℕ) (c : Cell) → IsClosed s → slice_get s.heap.cells n ≡ Some c → BelongsCell s c
BelongsCell-at s n c closed = All-at (BelongsCell s) s.heap.cells n c closed.cells

pub BelongsTable-found : (s : Shown) (n : ℕ) (r : Option TableShown) → IsClosed s → option_map contents_of r ≡ slice_get s.heap.tables n → IfSome r (λ t. BelongsTable s (contents_of t))
BelongsTable-found s n None closed at = tt
BelongsTable-found s n (Some t) closed at = BelongsTable-at s n (contents_of t) closed (sym at)

-- objects that name one another may be added one after the other: the state is closed again once the last of them is there
pub IsClosed-added : (old new : Shown) (tables : List Contents) (functions : List Function) (cells : List Cell) → IsClosed old → new.texts ≡ old.texts
    → new.heap ≡ record (old.heap) { tables = old.heap.tables ++ tables; functions = old.heap.functions ++ functions; cells = old.heap.cells ++ cells }
    → All (IsTableWithin (bounds_of new)) tables → All (IsFunctionWithin (bounds_of new)) functions → All (IsCellWithin (bounds_of new)) cells → IsClosed new
IsClosed-added old new tables functions cells closed texts heap tables_fit functions_fit cells_fit =
    let heap_now : Heap = record (old.heap) { tables = old.heap.tables ++ tables; functions = old.heap.functions ++ functions; cells = old.heap.cells ++ cells } in
    let bounds : Bounds = bounds_of new in
    let more : IsRaised (bounds_of old) bounds = record {
      tables = omega (arith, ap (λ h. length h.tables) heap, length-append old.heap.tables tables);
      functions = omega (arith, ap (λ h. length h.functions) heap, length-append old.heap.functions functions);
      cells = omega (arith, ap (λ h. length h.cells) heap, length-append old.heap.cells cells);
      texts = omega (arith, ap (λ (l : List (List ℕ)). length l) texts);
    } in
    let kept : IsHeapWithin bounds old.heap = IsHeapWithin-raised (bounds_of old) bounds more old.heap closed in
    let fits : IsHeapWithin bounds heap_now = record {
      tables = All-append (IsTableWithin bounds) old.heap.tables tables kept.tables tables_fit;
      functions = All-append (IsFunctionWithin bounds) old.heap.functions functions kept.functions functions_fit;
      cells = All-append (IsCellWithin bounds) old.heap.cells cells kept.cells cells_fit;
      string_meta = kept.string_meta;
      lanes_table = kept.lanes_table;
    } in
    subst (IsHeapWithin bounds) (sym heap) fits
