use Rattle.std.proofs.Common.{◌≡◌, ◌+◌, drop}
use Rattle.lua_pattern.specs.Singles.{run_length, has}
use Rattle.lua_pattern.proofs.single.part_run.Given as goal

abbrev pub invariant-loop-i : goal.invariant-loop-i
invariant-loop-i l = l.i + run_length (has l.part) (drop l.i l.bytes) ≡ run_length (has l.part) l.bytes
