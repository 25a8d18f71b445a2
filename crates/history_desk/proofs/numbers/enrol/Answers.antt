use Rattle.std.proofs.Common.{◌≡◌, arith, sym, ◌∙◌, ap, subst}
use Rattle.history_desk.specs.Steps.{enroller}
use Rattle.history_desk.specs.Passes.{newcomer}
use Rattle.history_desk.proofs.Answering.{knows, idle_knows}
use Rattle.history_desk.proofs.Knowledge.{idles, found, enrolled_of, sound_newcomer, sound_enroller}
use Rattle.history_desk.proofs.numbers.enrol.Goals as goal

pub returns-in-Ok-clause-new : goal.returns-in-Ok-clause-new
returns-in-Ok-clause-new g c =
    let taken = c.take_lock-count.ensures.taken in
    let held = knows c.put.new.seat.me _ _ c.put.ensures.is in
    let n = c.in-Ok.ensures.new in
    let known = idle_knows c.in-Ok.new.1.me _ _ n.2 in (
      n.0 ∙ (c.put.ensures.desk ∙ c.take_lock-count.ensures.desk),
      idles c.in-Ok.new.1.me _ n.2,
      n.1 ∙ sym (ap (λ u. u.number) known),
      sound_newcomer g.S.Object.means c.take_lock-count.new.seat.me.0.known _ taken.sound (known ∙ ap (λ h. newcomer h.given h.seen) held),
    )

pub returns-in-Ok-clause-enrolled : goal.returns-in-Ok-clause-enrolled
returns-in-Ok-clause-enrolled g c =
    let taken = c.take_lock-count.ensures.taken in
    let held = knows c.put.new.seat.me _ _ c.put.ensures.is in
    let n = c.in-Ok.ensures.new in
    let known = idle_knows c.in-Ok.new.1.me _ _ n.2 in
    let rests = found g.S.Object.means g.S.Object.content c.args.seat.now.me.0.known c.take_lock-count.new.seat.me c.put.result _ taken c.put.ensures.was c.in-Here.is in
    let left = idle_knows c.put_back.new.seat.me _ _ c.put_back.ensures.idle ∙ (knows c.number-drawn.new.seat.me _ _ c.in-Ok.ensures.given ∙ ap enroller held) in
    enrolled_of g.S.Object.means c.args.seat.now.me.0.known c.take_lock-count.new.seat.me.0.known _ _ taken.sound taken.looked rests.0 (known ∙ ap (λ h. newcomer h.given h.seen) held) left

pub returns-in-Ok-clause-sound : goal.returns-in-Ok-clause-sound
returns-in-Ok-clause-sound g c =
    let taken = c.take_lock-count.ensures.taken in
    let held = knows c.put.new.seat.me _ _ c.put.ensures.is in
    let left = idle_knows c.put_back.new.seat.me _ _ c.put_back.ensures.idle ∙ (knows c.number-drawn.new.seat.me _ _ c.in-Ok.ensures.given ∙ ap enroller held) in
    sound_enroller g.S.Object.means c.take_lock-count.new.seat.me.0.known _ taken.sound left
