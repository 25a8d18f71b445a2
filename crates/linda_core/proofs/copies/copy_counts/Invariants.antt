use Rattle.std.proofs.Common.{◌≡◌, take}
use Rattle.linda_core.proofs.copies.copy_counts.Given as goal

abbrev pub invariant-loop-key : goal.invariant-loop-key
invariant-loop-key l = l.copies.items ≡ take l.key-index l.counts
