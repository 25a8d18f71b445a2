use Rattle.std.proofs.Common.{◌≡◌, ◌-◌, length}
use Rattle.lua_pattern.specs.Reading as spec
use Rattle.lua_pattern.proofs.ReadingLemmas.{behind_parts}
use Rattle.lua_pattern.proofs.sets.set_parts.Given as goal

abbrev pub invariant-loop-turn : goal.invariant-loop-turn
invariant-loop-turn l = behind_parts l.parts.items (spec.set_parts (length l.bytes - l._turn) l.left) ≡ spec.set_parts (length l.fn.bytes) l.fn.bytes
