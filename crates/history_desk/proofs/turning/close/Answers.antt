use Rattle.std.proofs.Common.{◌≡◌, arith, sym, ◌∙◌, ap, subst, true, refl}
use Rattle.desk_object.specs.declared.entry.Entry.TheVariants.{Close}
use Rattle.desk_object.proofs.Histories.{closed-close}
use Rattle.history_desk.specs.declared.known.Place.TheVariants.{Here, Out}
use Rattle.history_desk.specs.Passes.{carries, IsWhole}
use Rattle.history_desk.specs.Rule.{Rests}
use Rattle.history_desk.proofs.Appending.{MayAppend}
use Rattle.history_desk.proofs.Seats.{adds_at}
use Rattle.history_desk.proofs.Answering.{holds, knows, idle_knows, may_close, added}
use Rattle.history_desk.proofs.Knowledge.{found, whole_looked, closes_of, sound_closed}
use Rattle.history_desk.proofs.turning.close.Goals as goal

pub fetch_add-requires : goal.fetch_add-requires
fetch_add-requires g c =
    let d = c.requires.desk in
    let taken = c.take_lock-count.ensures.taken in
    let h = c.take_lock-count.new.seat.me.0.known in
    let is = c.put.ensures.is in
    let rests = found g.S.Object.means g.S.Object.content c.args.seat.now.me.0.known c.take_lock-count.new.seat.me c.put.result _ taken c.put.ensures.was c.in-Here.is in
    let whole = whole_looked c.args.seat.now.me.0.known h taken.looked c.requires.whole.0 c.requires.whole.1 in
    let may = may_close g.S.Object.means h (g.S.Object.content c.in-Here.object) taken.sound.own rests.0 rests.1 whole.0 whole.1 in (
      c.put.ensures.desk ∙ (c.take_lock-count.ensures.desk ∙ d.0),
      omega (arith, d.1.0),
      adds_at g.S.Object.means g.S.Object.content g.S.Object.call_data g.S.Object.reply_data _ _ c.put.new.seat.me Out (holds c.put.new.seat.me h Out is)
          (subst (λ k. MayAppend g.S.Object.means k (Close k.number)) (sym (knows c.put.new.seat.me h _ is)) may),
    )

pub give_lock-requires-clause-holding : goal.give_lock-requires-clause-holding
give_lock-requires-clause-holding g c =
    let h = c.take_lock-count.new.seat.me.0.known in
    let is = added g.S.Object.call_data g.S.Object.reply_data c.put.new.seat.me c.fetch_add.new.seat.me h Out c.put.ensures.is c.fetch_add.ensures.2 in (
      Out,
      holds c.fetch_add.new.seat.me _ Out is,
      subst (λ k. Rests {T = g.row.S.Denot} {Q = g.row.S-Call.Denot} {W = g.row.S-Reply.Denot} g.S.Object.means g.S.Object.content k.seen Out) (sym (knows c.fetch_add.new.seat.me _ _ is)) (closed-close h.seen (Close h.number) refl),
    )

pub returns-in-Here-clause-closes : goal.returns-in-Here-clause-closes
returns-in-Here-clause-closes g c =
    let taken = c.take_lock-count.ensures.taken in
    let h = c.take_lock-count.new.seat.me.0.known in
    let is = added g.S.Object.call_data g.S.Object.reply_data c.put.new.seat.me c.fetch_add.new.seat.me h Out c.put.ensures.is c.fetch_add.ensures.2 in
    let rests = found g.S.Object.means g.S.Object.content c.args.seat.now.me.0.known c.take_lock-count.new.seat.me c.put.result _ taken c.put.ensures.was c.in-Here.is in
    let known = idle_knows c.give_lock.new.seat.me _ _ c.give_lock.ensures.idle ∙ knows c.fetch_add.new.seat.me _ _ is in
    closes_of g.S.Object.means g.S.Object.content c.args.seat.now.me.0.known h c.give_lock.new.seat.me.0.known c.in-Here.object taken.looked rests known

pub returns-in-Here-clause-sound : goal.returns-in-Here-clause-sound
returns-in-Here-clause-sound g c =
    let taken = c.take_lock-count.ensures.taken in
    let h = c.take_lock-count.new.seat.me.0.known in
    let is = added g.S.Object.call_data g.S.Object.reply_data c.put.new.seat.me c.fetch_add.new.seat.me h Out c.put.ensures.is c.fetch_add.ensures.2 in
    let rests = found g.S.Object.means g.S.Object.content c.args.seat.now.me.0.known c.take_lock-count.new.seat.me c.put.result _ taken c.put.ensures.was c.in-Here.is in
    let known = idle_knows c.give_lock.new.seat.me _ _ c.give_lock.ensures.idle ∙ knows c.fetch_add.new.seat.me _ _ is in
    sound_closed g.S.Object.means g.S.Object.content h c.give_lock.new.seat.me.0.known c.in-Here.object taken.sound rests known
