use Rattle.std.proofs.Common.{◌≡◌, ◌+◌, ◌≤◌, ◌<◌, drop, option_map}
use Rattle.lua_pattern.specs.Matches.{closing}
use Rattle.lua_pattern.proofs.steps.closing.Given as goal

abbrev pub invariant-loop-i : goal.invariant-loop-i
invariant-loop-i l = record { some : 0 < l.depth; few : l.depth ≤ l.i + 1; value : option_map (λ n. l.i + n) (closing l.opener l.closer l.depth (drop l.i l.bytes)) ≡ closing l.opener l.closer 1 l.bytes }
