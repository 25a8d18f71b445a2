use Rattle.std.proofs.Common.{◌≡◌, drop}
use Rattle.std.specs.List.{list_any}
use Rattle.std.specs.Str.{bytes_eq}
use Rattle.lua_scope.proofs.survey.has_label.Given as goal

abbrev pub invariant-loop-label : goal.invariant-loop-label
invariant-loop-label l = list_any (bytes_eq l.name) (drop l.label-index l.labels) ≡ list_any (bytes_eq l.name) l.labels
