use Rattle.std.proofs.Common.{◌≡◌, drop}
use Rattle.lanes_lib.specs.Face.{items_of}
use Rattle.lanes_asks.proofs.ArgumentLemmas.{onto}
use Rattle.lanes_asks.proofs.arguments.items_of.Given as goal

-- what was read, and the rest, is what all give
abbrev pub invariant-loop-value : goal.invariant-loop-value
invariant-loop-value l =
    onto l.items (items_of l.state.texts (drop l.value-index l.values)) ≡ items_of l.state.texts l.values
