use Rattle.std.proofs.Common.{◌≡◌, ap, subst, sym}
use Rattle.history_desk.proofs.Callers.{grown_met, IsGrown}
use Rattle.history_desk_tests.proofs.threads.+fn-fork-join+arg2+fn-fork-join+arg3+fork.Goals as goal

pub returns-clause-grown : goal.returns-clause-grown
returns-clause-grown g n c =
    let mine = rw c.in_ok-pass.was at c.join-mine.ensures.first in
    let theirs = rw c.in_ok-other.was at c.join-mine.ensures.second in
    subst (λ w. IsGrown c.args.pass.known w) (ap (λ p. p.known) (sym c.pass-2.view_is))
    (grown_met c.args.pass.known c.in-Ok.other.known c.enrol.new.pass.known c.in_ok-pass.pass.known c.in_ok-other.other.known c.meet.new.pass.known c.in-Ok.ensures.enrolled mine.1 theirs.1 c.meet.ensures.met)
