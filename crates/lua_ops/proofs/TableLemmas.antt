-- A table that is written back as it was.
use Rattle.std.proofs.Common.{◌≡◌, ◌∙◌, ap, sym, ℕ, Some, slice_get, slice_set}
use Rattle.std.proofs.lemmas.List.{set-get_or}
use Rattle.std.proofs.lemmas.Option.{get_or_from_slice_get}
use Rattle.object_store.specs.Table.{Contents}
use Rattle.object_store.specs.Heap.{Shown, with_table}

pub kept_table : (shown : Shown) (n : ℕ) (table kept : Contents) → Some table ≡ slice_get shown.heap.tables n → kept ≡ table → with_table shown n kept ≡ shown
kept_table shown n table kept at same =
    let tables = shown.heap.tables in
    let still : slice_set tables n kept ≡ tables = ap (slice_set tables n) (same ∙ sym (get_or_from_slice_get tables n table table (sym at))) ∙ set-get_or tables n table in
    ap (λ l. record shown { heap = record (shown.heap) { tables = l } }) still

pub ruleset table_rules = (kept_table)
