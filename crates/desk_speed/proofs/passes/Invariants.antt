use Rattle.std.proofs.Common.{◌≡◌}
use Rattle.std.specs.Prelude.{All}
use Rattle.desk_speed.proofs.passes.Given as goal

abbrev pub invariant-loop : goal.invariant-loop
invariant-loop g l = (l.pass.desk ≡ l.desk) × All (λ pass. pass.desk ≡ l.desk) l.all.items
