use Rattle.std.proofs.Common.{sym, subst, ap, refl}
use Rattle.history_desk.specs.Rule.{Rests}
use Rattle.history_desk.proofs.Answering.{holds, knows}
use Rattle.history_desk.proofs.slot.put_back.Goals as goal

pub give_lock-requires-clause-holding : goal.give_lock-requires-clause-holding
give_lock-requires-clause-holding g c =
    let is = c.put.ensures.is in (
      c.args.new,
      holds c.put.new.seat.me c.args.seat.now.me.0.known c.args.new is,
      subst (λ h. Rests g.S.Object.means g.S.Object.content h.seen c.args.new) (sym (knows c.put.new.seat.me _ _ is)) c.requires.rests,
    )
