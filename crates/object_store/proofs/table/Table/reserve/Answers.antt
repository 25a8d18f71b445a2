use Rattle.std.proofs.Common.{◌≡◌, ◌≤◌, ◌-◌, length, ap, sym, subst, arith}
use Rattle.object_store.specs.Pairs.{dead_count, live_count}
use Rattle.object_store.specs.Run.{joined}
use Rattle.object_store.proofs.PairLemmas.{dead-live}
use Rattle.object_store.proofs.RoomLemmas.{on_ok, room_is}
use Rattle.object_store.proofs.RunLemmas.{length-joined, distinct-later}
use Rattle.object_store.proofs.table.Table.reserve.Goals as goal

pub overflow_sub-all : goal.overflow_sub-all
overflow_sub-all c = omega (arith, c.len.ensures, c.len-2.ensures.len, length-joined c.self.inside.run.items c.self.inside.rest.entries, c.self.invariant.few)

pub reserve-requires : goal.reserve-requires
reserve-requires c = record { distinct = distinct-later c.self.inside.run.items c.self.inside.rest.entries c.self.invariant.is_table.keys_once }

pub returns-clause-ok : goal.returns-clause-ok
returns-clause-ok c = on_ok c.reserve.result _ _ (λ room few_dead.
    let before = joined c.self.inside.run.items c.self.inside.rest.entries in
    let after = joined c.self.inside.run.items c.reserve.new.self.entries in
    let same : length after ≡ length before = ap (λ l. length (joined c.self.inside.run.items l)) c.reserve.ensures.entries in
    let counts : dead_count before ≤ live_count before = subst (λ t. dead_count t.pairs ≤ live_count t.pairs) (sym c.self.view_is) few_dead in
    let not_due : c.self.inside.dead ≤ length after - c.self.inside.dead = omega (arith, same, counts, dead-live before, c.self.invariant.dead_counted) in
    rw (room_is c.self.inside.dead (length after) c.reserve.new.self.room not_due)
    (omega (arith, room, same, c.if-n-all.false, c.len.ensures, c.len-2.ensures.len, length-joined c.self.inside.run.items c.self.inside.rest.entries))) c.reserve.ensures.ok
