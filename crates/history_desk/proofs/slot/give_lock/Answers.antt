use Rattle.std.proofs.Common.{arith}
use Rattle.history_desk.proofs.Seats.{frees_at}
use Rattle.history_desk.proofs.slot.give_lock.Goals as goal

pub store-requires : goal.store-requires
store-requires g c =
    let d = c.requires.desk in
    let h = c.requires.holding in
    (d.0, omega (arith, d.1.0), frees_at g.S.Object.means g.S.Object.content _ _ _ h.0 h.1 h.2 (omega (arith, d.1.1)))
