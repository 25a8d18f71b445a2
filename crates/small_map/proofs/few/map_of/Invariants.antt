use Rattle.std.proofs.Common.{◌≡◌, ◌+◌, ◌-◌, ◌≤◌, ◌++◌, length, drop}
use Rattle.indexmap.specs.IndexMap.{spare}
use Rattle.small_map.proofs.few.map_of.Given as goal

abbrev pub invariant-loop-i : goal.invariant-loop-i
invariant-loop-i g l = record { copied : l.map.entries ++ drop l.i l.few ≡ l.few; room : l.more + (length l.few - l.i) ≤ spare l.map }
