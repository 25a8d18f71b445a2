use Rattle.std.proofs.Common.{◌≡◌, map, take}
use Rattle.string_lib.specs.Texts as spec
use Rattle.string_lib.proofs.letters.raised.Given as goal

abbrev pub invariant-loop-b : goal.invariant-loop-b
invariant-loop-b l = l.made.items ≡ map spec.upper (take l.b-index l.text)
