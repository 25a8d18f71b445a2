use Rattle.std.proofs.Common.{◌≡◌, drop}
use Rattle.lua_scope.specs.Survey.{passed}
use Rattle.lua_scope.proofs.survey.pass_on.Given as goal

abbrev pub invariant-loop-at : goal.invariant-loop-at
invariant-loop-at l = passed l.start (drop l.at-index l.inner) l.outer ≡ passed l.start l.inner l.initial.outer
