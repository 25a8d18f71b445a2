use Rattle.std.proofs.Common.{◌≡◌, ◌≤◌, ◌-◌, length}
use Rattle.lua_pattern.specs.Found as spec
use Rattle.lua_pattern.proofs.places.find.Given as goal

abbrev pub invariant-places : goal.invariant-places
invariant-places l = record { same : spec.found l.pattern l.subject l.start ≡ spec.found l.pattern l.subject l.fn.from; kept : l.captures.items ≡ spec.blank l.pattern.captures; onward : l.fn.from ≤ l.start; within : l.start ≤ length l.subject; items_are : l.items ≡ l.pattern.items }

abbrev pub decreases-places : goal.decreases-places
decreases-places l = length l.subject - l.start
