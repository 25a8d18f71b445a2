-- What a state is once one of its tables is written, where that changes nothing.
use Rattle.std.proofs.Common.{◌≡◌, ◌∙◌, ℕ, List, slice_get, Option, Some, None, ap, sym, inl, inr}
use Rattle.std.proofs.Math.ListN.{set}
use Rattle.std.proofs.lemmas.List.{set-get_or, set_past}
use Rattle.std.proofs.lemmas.Option.{get_or_from_slice_get, slice_get_cases}
use Rattle.object_store.specs.declared.value.Value.{Value}
use Rattle.object_store.specs.Value.{TableId}
use Rattle.object_store.specs.Table.{Contents}
use Rattle.object_store.specs.Heap.{Shown, with_table}
use Rattle.base_lib.specs.Base.{with_pair, with_meta}

-- a table in its own place
pub with_table-same : (s : Shown) (n : ℕ) (t : Contents) → Some t ≡ slice_get s.heap.tables n → with_table s n t ≡ s
with_table-same s n t at =
    let e : set s.heap.tables n t ≡ s.heap.tables = ap (set s.heap.tables n) (sym (get_or_from_slice_get s.heap.tables n t t (sym at))) ∙ set-get_or s.heap.tables n t in
    ap (λ l. record s { heap = record (s.heap) { tables = l } }) e

-- a place behind the last table
past : {X : Type 0} (xs : List X) (n : ℕ) (x : X) → None ≡ slice_get xs n → set xs n x ≡ xs
past xs n x none = elim ((slice_get_cases xs n).1) [ inl there ↦ cc | inr beyond ↦ set_past xs n x beyond.0 ]

pub with_pair-absent : (s : Shown) (n : ℕ) (key value : Value) → None ≡ slice_get s.heap.tables n → s ≡ record s { heap = with_pair s.heap n key value }
with_pair-absent s n key value none = ap (λ l. record s { heap = record (s.heap) { tables = l } }) (sym (past s.heap.tables n _ none))

pub with_meta-absent : (s : Shown) (n : ℕ) (meta : Option TableId) → None ≡ slice_get s.heap.tables n → s ≡ record s { heap = with_meta s.heap n meta }
with_meta-absent s n meta none = ap (λ l. record s { heap = record (s.heap) { tables = l } }) (sym (past s.heap.tables n _ none))
