use Rattle.std.proofs.Common.{◌≡◌, ◌+◌, drop}
use Rattle.lua_scope.specs.Build.{place_in}
use Rattle.lua_scope.proofs.build.place_in.Given as goal

abbrev pub invariant-loop-other : goal.invariant-loop-other
invariant-loop-other l = (l.place ≡ l.other-index) × (l.place + place_in l.at (drop l.other-index l.captures) ≡ place_in l.at l.captures)
