use Rattle.std.proofs.Common.{◌≡◌, ◌-◌, length}
use Rattle.lua_pattern.specs.Reading as spec
use Rattle.lua_pattern.specs.View.{begun_of}
use Rattle.lua_pattern.proofs.ReadingLemmas.{behind_items}
use Rattle.lua_pattern.proofs.reading.pattern.Given as goal

abbrev pub invariant-loop-turn : goal.invariant-loop-turn
invariant-loop-turn l = behind_items l.items.items (spec.items_from (length l.bytes - l._turn) (length l.items.items) (begun_of l.brackets) l.left) ≡ spec.items_of l.fn.bytes
