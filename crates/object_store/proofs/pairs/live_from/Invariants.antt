use Rattle.std.proofs.Common.{◌≡◌, drop}
use Rattle.object_store.specs.Pairs.{first_live}
use Rattle.object_store.specs.Run.{joined}
use Rattle.object_store.proofs.pairs.live_from.Given as goal

abbrev pub invariant-loop-i : goal.invariant-loop-i
invariant-loop-i l = first_live (drop l.start (joined l.run l.rest.entries)) ≡ first_live (drop l.i (joined l.run l.rest.entries))
