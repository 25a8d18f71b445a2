use Rattle.std.proofs.Common.{◌≡◌}
use Rattle.history_desk_tests.proofs.threads.sends.Given as goal

abbrev pub invariant-loop-number : goal.invariant-loop-number
invariant-loop-number g l = l.pass.desk ≡ l.desk
