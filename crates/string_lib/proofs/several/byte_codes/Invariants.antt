use Rattle.std.proofs.Common.{◌≡◌, take}
use Rattle.string_lib.specs.Several as spec
use Rattle.string_lib.proofs.several.byte_codes.Given as goal

abbrev pub invariant-loop-b : goal.invariant-loop-b
invariant-loop-b l = l.made.items ≡ spec.byte_codes (take l.b-index l.bytes)
