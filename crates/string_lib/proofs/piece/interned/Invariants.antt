use Rattle.std.proofs.Common.{◌≡◌, ◌++◌, drop}
use Rattle.string_lib.specs.Several as spec
use Rattle.string_lib.proofs.piece.interned.Given as goal

abbrev pub invariant-loop-piece : goal.invariant-loop-piece
invariant-loop-piece l = record { values : l.values.items ++ spec.values_of l.state.texts (drop l.piece-index l.pieces) ≡ spec.values_of l.fn.state.texts l.pieces; texts : spec.texts_after l.state.texts (drop l.piece-index l.pieces) ≡ spec.texts_after l.fn.state.texts l.pieces; heap : l.state.heap ≡ l.fn.state.heap; room : l.state.room ≡ l.fn.state.room }
