use Rattle.std.proofs.Common.{◌≡◌, map, take}
use Rattle.lua_scope.specs.Build.{up_from}
use Rattle.lua_scope.proofs.build.ups.Given as goal

abbrev pub invariant-loop-at : goal.invariant-loop-at
invariant-loop-at l = l.ups ≡ map (up_from l.found l.frame) (take l.at-index l.captures)
