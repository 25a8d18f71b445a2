use Rattle.std.proofs.Common.{◌≡◌, ◌≤◌, ◌+◌, ◌*◌, ◌-◌, length, map}
use Rattle.lua_pattern.specs.Matches as spec
use Rattle.lua_pattern.specs.declared.item.Item.TheVariants as item
use Rattle.lua_pattern.specs.declared.item.Repeat.TheVariants as repeat
use Rattle.lua_pattern.proofs.matching.+matching.Given as goal

-- each call for the items behind one has fewer items left
abbrev pub decreases-best : goal.decreases-best
decreases-best l = 4 * length l.items.now

abbrev pub decreases-longest : goal.decreases-longest
decreases-longest l = 4 * length l.rest.now + 1

abbrev pub decreases-marked : goal.decreases-marked
decreases-marked l = 4 * length l.rest.now + 1

abbrev pub decreases-repeated : goal.decreases-repeated
decreases-repeated l = 4 * length l.rest.now + 2

abbrev pub decreases-shortest : goal.decreases-shortest
decreases-shortest l = 4 * length l.rest.now + 1

abbrev pub invariant-best-loop-item : goal.invariant-best-loop-item
invariant-best-loop-item l = record { same : spec.best l.left l.subject l.place l.captures ≡ spec.best l.fn.items l.subject l.fn.at l.fn.captures; kept : l.captures ≡ l.fn.captures; fewer : length l.left ≤ length l.fn.items; onward : l.fn.at ≤ l.place; within : l.place ≤ length l.subject }

abbrev pub decreases-best-loop-item : goal.decreases-best-loop-item
decreases-best-loop-item l = length l.left

abbrev pub invariant-longest-loop-untried : goal.invariant-longest-loop-untried
invariant-longest-loop-untried l = record { same : spec.best_of l.rest l.subject (map (spec.ending l.captures) (spec.descending l.least l.untried)) ≡ spec.best_of l.rest l.subject (map (spec.ending l.fn.captures) (spec.descending l.least l.count)); kept : l.captures ≡ l.fn.captures; fewer : l.untried ≤ l.count }

abbrev pub decreases-longest-loop-untried : goal.decreases-longest-loop-untried
decreases-longest-loop-untried l = l.untried

abbrev pub invariant-shortest-places : goal.invariant-shortest-places
invariant-shortest-places l = record { same : spec.best_of l.rest l.subject (spec.ways (item.Repeated l.single repeat.Shortest) l.subject l.place l.captures) ≡ spec.best_of l.rest l.subject (spec.ways (item.Repeated l.single repeat.Shortest) l.subject l.fn.at l.fn.captures); kept : l.captures ≡ l.fn.captures; onward : l.fn.at ≤ l.place; within : l.place ≤ length l.subject }

abbrev pub decreases-shortest-places : goal.decreases-shortest-places
decreases-shortest-places l = length l.subject - l.place
