use Rattle.std.proofs.Common.{◌≡◌}
use Rattle.string_lib.specs.Texts as spec
use Rattle.string_lib.proofs.copies.repeated.Given as goal

abbrev pub invariant-loop-copy : goal.invariant-loop-copy
invariant-loop-copy l = l.made.items ≡ spec.copies l.text l.copy l.separator
