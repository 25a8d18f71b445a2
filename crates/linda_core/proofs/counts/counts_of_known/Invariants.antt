use Rattle.std.proofs.Common.{◌≡◌, ◌++◌, drop}
use Rattle.std.specs.List.{filter_map}
use Rattle.linda_core.specs.SequentialLinda.{count_of}
use Rattle.linda_core.specs.Holding.{seen}
use Rattle.linda_core.proofs.counts.counts_of_known.Given as goal

abbrev pub invariant-loop-key : goal.invariant-loop-key
invariant-loop-key l =
    l.counts.items ++ filter_map (count_of (seen l.queues.entries)) (drop l.key-index l.keys)
    ≡ filter_map (count_of (seen l.queues.entries)) l.keys
