use Rattle.std.proofs.Common.{◌≡◌, ◌++◌, drop, filter}
use Rattle.object_store.specs.Pairs.{is_live}
use Rattle.object_store.specs.Run.{joined}
use Rattle.object_store.proofs.purge.live_pairs.Given as goal

abbrev pub invariant-loop-i : goal.invariant-loop-i
invariant-loop-i l = l.live.entries ++ filter is_live (drop l.i (joined l.run l.rest.entries)) ≡ filter is_live (drop l.from (joined l.run l.rest.entries))
