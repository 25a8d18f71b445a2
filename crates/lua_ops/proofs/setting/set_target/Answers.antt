use Rattle.std.proofs.Common.{◌∙◌, sym, ap, ◌<◌, ◌≤◌, Ok, arith}
use Rattle.std.proofs.lemmas.Grind.{common_steps}
use Rattle.lua_ops.specs.Metamethods.{chain_limit, set_link, set_target}
use Rattle.lua_ops.specs.Turns.{link_of}
use Rattle.lua_ops.proofs.ChainLemmas.{chain_ends, chain_goes, chain_over, limit_is}
use Rattle.lua_ops.proofs.setting.set_target.Goals as goal

pub returns-in_err-target : goal.returns-in_err-target
unfolding set_target
returns-in_err-target c =
    let below : c.loop.counter < chain_limit = omega (arith, limit_is) in
    let asked = set_link c.args.state.now.heap c.args.key in
    let said = chain_ends asked chain_limit c.loop.counter c.loop.asked _ below c.in_err-target.ensures in
    let answer = sym said ∙ c.loop.invariant in
    grind (arith, common_steps, answer)

pub returns-in-Ends : goal.returns-in-Ends
unfolding set_target
returns-in-Ends c =
    let below : c.loop.counter < chain_limit = omega (arith, limit_is) in
    let asked = set_link c.args.state.now.heap c.args.key in
    let said = ap (λ t. link_of (Ok t)) (sym c.in-Ends.is) ∙ c.in_ok-target.ensures in
    sym (chain_ends asked chain_limit c.loop.counter c.loop.asked (Ok c.in-Ends.target) below said) ∙ c.loop.invariant

pub loop-preserved : goal.loop-preserved
loop-preserved c =
    let below : c.loop.counter < chain_limit = omega (arith, limit_is) in
    let asked = set_link c.args.state.now.heap c.args.key in
    let said = ap (λ t. link_of (Ok t)) (sym c.in-Goes.is) ∙ c.in_ok-target.ensures in
    chain_goes asked chain_limit c.loop.counter c.loop.asked c.in-Goes.next below said ∙ c.loop.invariant

pub returns : goal.returns
unfolding set_target
returns c =
    let over : chain_limit ≤ c.loop.counter = omega (arith, limit_is) in
    let asked = set_link c.args.state.now.heap c.args.key in
    sym (chain_over asked chain_limit c.loop.counter c.loop.asked over) ∙ c.loop.invariant
