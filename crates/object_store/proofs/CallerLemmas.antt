-- What a caller cites.
pub use Rattle.object_store.proofs.ValueLemmas.{value_eq-Decides, value_eq-laws}
pub use Rattle.object_store.proofs.BorderLemmas.{nil_from_is_nil, live_from_is_nil, other_key, border_is, border_holds, border_at_is}
pub use Rattle.object_store.proofs.SetLemmas.{get_pair-set_pair, IsTable-set_pair, reads-set_pair}
pub use Rattle.object_store.proofs.EventLemmas.{event_text, event_within, BeginsWithEvents-named}
pub use Rattle.object_store.proofs.ClosedLemmas.{IsRaised, IsWithin-raised, IsTableWithin-raised, IsFunctionWithin-raised, IsHeapWithin-raised, IsClosed-added, IsClosed-with_table, IsClosed-with_cell, BelongsTable-at, BelongsFunction-at, BelongsCell-at, BelongsTable-found}
pub use Rattle.object_store.proofs.BelongLemmas.{get-within, next-within, pair-within, set-within, IsTableWithin-set, IsTableWithin-after_set, IsTableWithin-set_meta, IsTableWithin-new}
pub use Rattle.object_store.proofs.PlainLemmas.{plain-named, plain_of-named, plain-injective, eq-plain, get-plain, set-plain, next-plain, border-plain}
