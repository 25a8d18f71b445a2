use Rattle.std.proofs.Common.{◌∙◌, sym, ap, ◌<◌, ◌≤◌, Ok, arith}
use Rattle.std.proofs.lemmas.Grind.{common_steps}
use Rattle.lua_ops.specs.Metamethods.{chain_limit, index_link, index_step}
use Rattle.lua_ops.specs.Turns.{link_of}
use Rattle.lua_ops.proofs.ChainLemmas.{chain_ends, chain_goes, chain_over, limit_is}
use Rattle.lua_ops.proofs.indexing.index.Goals as goal

pub returns-in_err-step : goal.returns-in_err-step
unfolding index_step
returns-in_err-step c =
    let below : c.loop.counter < chain_limit = omega (arith, limit_is) in
    let asked = index_link c.args.state.now.heap c.args.key in
    let said = chain_ends asked chain_limit c.loop.counter c.loop.asked _ below c.in_err-step.ensures in
    let answer = sym said ∙ c.loop.invariant in
    grind (arith, common_steps, answer)

pub returns-in-Ends : goal.returns-in-Ends
unfolding index_step
returns-in-Ends c =
    let below : c.loop.counter < chain_limit = omega (arith, limit_is) in
    let asked = index_link c.args.state.now.heap c.args.key in
    let said = ap (λ t. link_of (Ok t)) (sym c.in-Ends.is) ∙ c.in_ok-step.ensures in
    sym (chain_ends asked chain_limit c.loop.counter c.loop.asked (Ok c.in-Ends.step) below said) ∙ c.loop.invariant

pub loop-preserved : goal.loop-preserved
loop-preserved c =
    let below : c.loop.counter < chain_limit = omega (arith, limit_is) in
    let asked = index_link c.args.state.now.heap c.args.key in
    let said = ap (λ t. link_of (Ok t)) (sym c.in-Goes.is) ∙ c.in_ok-step.ensures in
    chain_goes asked chain_limit c.loop.counter c.loop.asked c.in-Goes.next below said ∙ c.loop.invariant

pub returns : goal.returns
unfolding index_step
returns c =
    let over : chain_limit ≤ c.loop.counter = omega (arith, limit_is) in
    let asked = index_link c.args.state.now.heap c.args.key in
    sym (chain_over asked chain_limit c.loop.counter c.loop.asked over) ∙ c.loop.invariant
