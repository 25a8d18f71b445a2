use Rattle.std.proofs.Common.{◌≡◌, ◌+◌, drop}
use Rattle.lua_pattern.specs.Singles.{run_length, admits}
use Rattle.lua_pattern.proofs.single.set_run.Given as goal

abbrev pub invariant-loop-i : goal.invariant-loop-i
invariant-loop-i l = l.i + run_length (admits l.set) (drop l.i l.bytes) ≡ run_length (admits l.set) l.bytes
