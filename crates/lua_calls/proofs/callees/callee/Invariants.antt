use Rattle.std.proofs.Common.{◌≡◌, ◌-◌, drop}
use Rattle.lua_ops.specs.Metamethods.{chain_limit}
use Rattle.lua_meaning.specs.Calls.{callee_of}
use Rattle.lua_machine.specs.Does.{Above}
use Rattle.lua_calls.proofs.callees.callee.Given as goal

abbrev pub invariant-loop-turn : goal.invariant-loop-turn
invariant-loop-turn g l = record {
  follows : callee_of l.fn.m.state.heap chain_limit l.fn.m.value (drop l.at l.fn.m.stack.values) ≡ callee_of l.fn.m.state.heap (chain_limit - l.turn) l.m.value (drop l.at l.m.stack.values);
  above : Above l.at l.fn.m.stack l.m.stack;
  same : l.m ≡ record l.fn.m { value = l.m.value; stack = l.m.stack };
}
