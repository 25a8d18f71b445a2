use Rattle.std.proofs.Common.{◌≡◌}
use Rattle.history_desk.proofs.Callers.{Keeps}
use Rattle.history_desk_tests.proofs.threads.work.Given as goal

abbrev pub invariant-loop-call : goal.invariant-loop-call
invariant-loop-call g l = (l.pass.desk ≡ l.desk) × Keeps l.fn.pass.known l.pass.known
