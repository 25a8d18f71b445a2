use Rattle.std.proofs.Common.{◌≡◌, ◌+◌, [], drop}
use Rattle.string_lib.specs.String.{bytes_from}
use Rattle.string_lib.proofs.one.char.Given as goal

abbrev pub invariant-loop-i : goal.invariant-loop-i
invariant-loop-i l = bytes_from l.state.texts (l.i + 1) l.made.items (drop l.i l.args) ≡ bytes_from l.state.texts 1 [] l.args
