use Rattle.std.proofs.Common.{◌-◌}
use Rattle.object_store.specs.Pairs.{IsFullTo}
use Rattle.object_store.specs.Run.{joined}
use Rattle.object_store.proofs.border.raised.Given as goal

abbrev pub invariant-loop-n : goal.invariant-loop-n
invariant-loop-n l = IsFullTo (joined l.run l.rest.entries) l.n

abbrev pub decreases-loop-n : goal.decreases-loop-n
decreases-loop-n l = l.most - l.n
