use Rattle.std.proofs.Common.{◌≡◌, ◌-◌}
use Rattle.lua_ops.specs.Metamethods.{chain, chain_limit, index_link}
use Rattle.lua_ops.proofs.indexing.index.Given as goal

abbrev pub invariant-loop : goal.invariant-loop
invariant-loop l =
    chain (index_link l.state.heap l.key) (chain_limit - l.counter) l.asked
    ≡ chain (index_link l.fn.state.heap l.fn.key) chain_limit l.fn.object
