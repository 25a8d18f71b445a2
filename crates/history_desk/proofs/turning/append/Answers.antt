use Rattle.std.proofs.Common.{◌≡◌, arith, sym, ◌∙◌, ap, subst}
use Rattle.desk_object.specs.declared.entry.Entry.TheVariants.{Made}
use Rattle.history_desk.specs.declared.known.Place.TheVariants.{Here, Out, Turned}
use Rattle.desk_object.specs.History.{IsLegal}
use Rattle.history_desk.specs.Rule.{Rests}
use Rattle.history_desk.specs.Steps.{with_entry}
use Rattle.history_desk.proofs.Appending.{MayAppend}
use Rattle.history_desk.proofs.Seats.{adds_at, same_slot}
use Rattle.history_desk.proofs.Answering.{holds, knows, idle_knows, may_make, added, rests_made, same_turned}
use Rattle.history_desk.proofs.turning.append.Goals as goal

pub fetch_add-requires : goal.fetch_add-requires
fetch_add-requires g c =
    let d = c.requires.desk in
    let h = c.args.seat.now.me.0.known in
    let is = c.put.ensures.is in
    let t = c.requires.turned in
    let slot = Turned c.args.object c.args.call c.args.ending c.args.reply in
    let may = may_make g.S.Object.means h t.0 (g.S.Object.call_data c.args.call) c.args.ending (g.S.Object.reply_data c.args.reply) (g.S.Object.content c.args.object) c.requires.own c.requires.unclosed c.requires.room t.1 t.2 in (
      c.put.ensures.desk ∙ d.0,
      omega (arith, d.1.0),
      adds_at g.S.Object.means g.S.Object.content g.S.Object.call_data g.S.Object.reply_data _ _ c.put.new.seat.me slot (holds c.put.new.seat.me h slot is)
          (subst (λ k. MayAppend g.S.Object.means k (Made k.number (g.S.Object.call_data c.args.call) c.args.ending (g.S.Object.reply_data c.args.reply))) (sym (knows c.put.new.seat.me h _ is)) may),
    )

pub put-requires-2-clause-holding : goal.put-requires-2-clause-holding
put-requires-2-clause-holding g c =
    let h = c.args.seat.now.me.0.known in
    let slot = Turned c.args.object c.args.call c.args.ending c.args.reply in
    let is = added g.S.Object.call_data g.S.Object.reply_data c.put.new.seat.me c.fetch_add.new.seat.me h slot c.put.ensures.is c.fetch_add.ensures.2 in
    (slot, holds c.fetch_add.new.seat.me _ slot is)

pub put_back-requires-clause-rests : goal.put_back-requires-clause-rests
put_back-requires-clause-rests g c =
    let h = c.args.seat.now.me.0.known in
    let t = c.requires.turned in
    let slot = Turned c.args.object c.args.call c.args.ending c.args.reply in
    let is = added g.S.Object.call_data g.S.Object.reply_data c.put.new.seat.me c.fetch_add.new.seat.me h slot c.put.ensures.is c.fetch_add.ensures.2 in
    let same = same_turned (sym c.in-Turned.is ∙ same_slot c.fetch_add.new.seat.me c.put-2.result slot c.put-2.ensures.was (holds c.fetch_add.new.seat.me _ slot is)) in
    let known = knows c.put-2.new.seat.me _ _ c.put-2.ensures.is ∙ knows c.fetch_add.new.seat.me _ _ is in
    subst (λ k. Rests {T = g.row.S.Denot} {Q = g.row.S-Call.Denot} {W = g.row.S-Reply.Denot} g.S.Object.means g.S.Object.content k.seen (Here c.in-Turned.object)) (sym known)
    (rests_made g.row.S.Denot g.row.S-Call.Denot g.row.S-Reply.Denot g.S.Object.means g.S.Object.content h t.0 (g.S.Object.call_data c.args.call) c.args.ending (g.S.Object.reply_data c.args.reply) c.args.object c.in-Turned.object c.requires.unclosed t.1 t.2 same.0)

pub returns-clause-legal : goal.returns-clause-legal
returns-clause-legal g c =
    let h = c.args.seat.now.me.0.known in
    let t = c.requires.turned in
    let slot = Turned c.args.object c.args.call c.args.ending c.args.reply in
    let is = added g.S.Object.call_data g.S.Object.reply_data c.put.new.seat.me c.fetch_add.new.seat.me h slot c.put.ensures.is c.fetch_add.ensures.2 in
    let known = idle_knows c.put_back.new.seat.me _ _ c.put_back.ensures.idle ∙ (knows c.put-2.new.seat.me _ _ c.put-2.ensures.is ∙ knows c.fetch_add.new.seat.me _ _ is) in
    let may = may_make g.S.Object.means h t.0 (g.S.Object.call_data c.args.call) c.args.ending (g.S.Object.reply_data c.args.reply) (g.S.Object.content c.args.object) c.requires.own c.requires.unclosed c.requires.room t.1 t.2 in
    subst (λ k. IsLegal g.S.Object.means k.seen) (sym known) may.legal
