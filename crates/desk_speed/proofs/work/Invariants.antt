use Rattle.std.proofs.Common.{◌≡◌, ◌≤◌}
use Rattle.desk_speed.proofs.work.Given as goal

abbrev pub invariant-loop-call : goal.invariant-loop-call
invariant-loop-call g l = (l.pass.desk ≡ l.desk) × (l.made ≤ l.call)
