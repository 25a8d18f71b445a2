use Rattle.std.proofs.Common.{◌≡◌, ◌++◌, take}
use Rattle.lua_machine.specs.Piled.{with_values}
use Rattle.evaluator.proofs.whole.fill.Given as goal

abbrev pub invariant-loop-value : goal.invariant-loop-value
invariant-loop-value l = l.stack ≡ with_values l.fn.stack (l.fn.stack.values ++ take l.value-index l.values)
