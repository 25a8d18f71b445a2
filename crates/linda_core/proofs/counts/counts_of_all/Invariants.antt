use Rattle.std.proofs.Common.{◌≡◌, take, []}
use Rattle.linda_core.specs.SequentialLinda.{counts_of}
use Rattle.linda_core.specs.Holding.{seen}
use Rattle.linda_core.proofs.counts.counts_of_all.Given as goal

abbrev pub invariant-loop-place : goal.invariant-loop-place
invariant-loop-place l = l.counts.items ≡ counts_of (seen (take l.place l.queues.entries)) []
