use Rattle.std.proofs.Common.{refl}
use Rattle.history_desk.proofs.Callers.{grown_met, grown_trans, keeps_grown}
use Rattle.history_desk_tests.proofs.calls.by_two.Goals as goal

pub returns-clause-grown : goal.returns-clause-grown
returns-clause-grown g c =
    let h = c.enrol.new.pass.known in
    let same = keeps_grown h h (record { number = refl; carried = refl; enrolled = refl }) in
    let theirs = keeps_grown c.in-Ok.second.known c.receives-received.new.second.known c.receives-received.ensures.keeps in
    grown_trans c.args.first.now.known c.replies-sent.new.pass.known c.meet.new.pass.known
    (keeps_grown c.args.first.now.known c.replies-sent.new.pass.known c.replies-sent.ensures.keeps)
    (grown_met c.replies-sent.new.pass.known c.in-Ok.second.known h h c.receives-received.new.second.known c.meet.new.pass.known c.in-Ok.ensures.enrolled same theirs c.meet.ensures.met)
