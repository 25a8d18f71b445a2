use Rattle.std.proofs.Common.{◌≡◌, drop}
use Rattle.lanes_lib.specs.Face.{keys_of}
use Rattle.lanes_asks.proofs.ArgumentLemmas.{onto}
use Rattle.lanes_asks.proofs.arguments.keys_of.Given as goal

-- what was read, and the rest, is what all give
abbrev pub invariant-loop-value : goal.invariant-loop-value
invariant-loop-value l =
    onto l.keys (keys_of l.state.texts (drop l.value-index l.values)) ≡ keys_of l.state.texts l.values
