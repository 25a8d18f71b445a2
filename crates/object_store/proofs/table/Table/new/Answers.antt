use Rattle.object_store.proofs.RoomLemmas.{kept_empty}
use Rattle.object_store.proofs.table.Table.new.Goals as goal

pub invariant_of-result : goal.invariant_of-result
invariant_of-result c = kept_empty _ _ c.new.ensures.items c.new-2.ensures
