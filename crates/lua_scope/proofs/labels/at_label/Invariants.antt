use Rattle.std.proofs.Common.{◌≡◌, drop}
use Rattle.lua_scope.specs.Labels.{label_named}
use Rattle.lua_scope.proofs.labels.at_label.Given as goal

abbrev pub invariant-loop-label : goal.invariant-loop-label
invariant-loop-label l = label_named l.name (drop l.label-index l.labels) ≡ label_named l.name l.labels
