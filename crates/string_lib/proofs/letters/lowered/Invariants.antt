use Rattle.std.proofs.Common.{◌≡◌, map, take}
use Rattle.string_lib.specs.Texts as spec
use Rattle.string_lib.proofs.letters.lowered.Given as goal

abbrev pub invariant-loop-b : goal.invariant-loop-b
invariant-loop-b l = l.made.items ≡ map spec.lower (take l.b-index l.text)
