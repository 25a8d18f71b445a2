use Rattle.std.proofs.Common.{◌≡◌, drop, find}
use Rattle.linda_core.specs.SequentialLinda.{has_value}
use Rattle.linda_core.specs.Holding.{seen}
use Rattle.linda_core.proofs.queues.first_ready.Given as goal

abbrev pub invariant-loop-key : goal.invariant-loop-key
invariant-loop-key l = find (has_value (seen l.queues.entries)) l.listed ≡ find (has_value (seen l.queues.entries)) (drop l.key-index l.listed)
