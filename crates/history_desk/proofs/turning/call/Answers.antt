use Rattle.std.proofs.Common.{◌≡◌, sym, ◌∙◌, ap, subst}
use Rattle.history_desk.specs.Outcomes.{EndsAs}
use Rattle.history_desk.proofs.Answering.{knows}
use Rattle.history_desk.proofs.Knowledge.{found, answers_of, sound_after}
use Rattle.history_desk.proofs.turning.call.Goals as goal

pub returns-in-Here-clause-answer : goal.returns-in-Here-clause-answer
returns-in-Here-clause-answer g c =
    let taken = c.take_lock-count.ensures.taken in
    let held = knows c.put.new.seat.me _ _ c.put.ensures.is in
    let rests = found g.S.Object.means g.S.Object.content c.args.seat.now.me.0.known c.take_lock-count.new.seat.me c.put.result _ taken c.put.ensures.was c.in-Here.is in
    let ends = subst (λ h. EndsAs g.S.Object.means g.S.Object.call_data g.S.Object.reply_data h c.args.call c.args.mode c.turn.result.0 c.turn.new.seat.me.0.known) held c.turn.ensures.ends in
    answers_of g.S.Object.means g.S.Object.call_data g.S.Object.reply_data c.args.seat.now.me.0.known c.take_lock-count.new.seat.me.0.known c.turn.new.seat.me.0.known c.args.call c.args.mode c.turn.result.0 taken.looked rests.0 ends

pub returns-in-Here-clause-sound : goal.returns-in-Here-clause-sound
returns-in-Here-clause-sound g c =
    let taken = c.take_lock-count.ensures.taken in
    let held = knows c.put.new.seat.me _ _ c.put.ensures.is in
    let ends = subst (λ h. EndsAs g.S.Object.means g.S.Object.call_data g.S.Object.reply_data h c.args.call c.args.mode c.turn.result.0 c.turn.new.seat.me.0.known) held c.turn.ensures.ends in
    sound_after g.S.Object.means g.S.Object.call_data g.S.Object.reply_data c.take_lock-count.new.seat.me.0.known c.turn.new.seat.me.0.known c.args.call c.args.mode c.turn.result.0 taken.sound ends
