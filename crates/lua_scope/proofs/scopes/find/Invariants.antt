use Rattle.std.proofs.Common.{◌≡◌, ◌≤◌, length, take}
use Rattle.lua_scope.specs.Visible.{last_named}
use Rattle.lua_scope.proofs.scopes.find.Given as goal

abbrev pub invariant-loop-at : goal.invariant-loop-at
invariant-loop-at l = (l.at ≤ length l.locals) × (last_named l.name (take l.at l.locals) ≡ last_named l.name l.locals)

abbrev pub decreases-loop-at : goal.decreases-loop-at
decreases-loop-at l = l.at
