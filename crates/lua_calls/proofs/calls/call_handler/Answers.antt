use Rattle.std.proofs.Common.{◌∙◌, drop}
use Rattle.lua_ops.specs.Metamethods.{chain_limit}
use Rattle.lua_meaning.specs.Run.{and_then}
use Rattle.lua_meaning.specs.Levels.{level}
use Rattle.lua_meaning.specs.Calls.{callee_of, function_call}
use Rattle.lua_machine.specs.Does.{world}
use Rattle.lua_machine.proofs.Leads.{leads_on, from}
use Rattle.lua_calls.proofs.BodyEnds.{got_below}
use Rattle.lua_calls.proofs.CallTurns.{called_with, handled_by}
use Rattle.lua_calls.proofs.calls.call_handler.Goals as goal

pub returns-in-Failed : goal.returns-in-Failed
returns-in-Failed g c =
    let a = c.args in
    let m = a.m.now in
    let l = level a.p.now a.b.now.level in
    record {
      leads = λ k. from (handled_by a.p.now l a.site (world m) k (callee_of m.state.heap chain_limit m.value (drop a.at m.stack.values))) (c.in-Failed.ensures.leads (and_then k (called_with a.p.now l a.site (world m) k)));
      stack = tt;
    }

pub limited-requires : goal.limited-requires
limited-requires g c = record { within = c.in-Well.ensures.stack.within }

pub call_function-requires-clause-within : goal.call_function-requires-clause-within
call_function-requires-clause-within g c = c.in-Well-limited.ensures.stack.within

pub returns-in-Well-limited : goal.returns-in-Well-limited
returns-in-Well-limited g c =
    let a = c.args in
    let m = a.m.now in
    let m1 = c.callee.new.m in
    let m2 = c.limited.new.m in
    let m3 = c.call_function.new.m in
    let s = m.stack in
    let l = level a.p.now a.b.now.level in
    let found = c.in-Well.ensures.stack in
    let few = c.in-Well-limited.ensures.stack in
    record {
      leads = λ k. from (handled_by a.p.now l a.site (world m) k (callee_of m.state.heap chain_limit m.value (drop a.at s.values)))
          (leads_on (c.in-Well.ensures.leads (and_then k (called_with a.p.now l a.site (world m) k)))
          (leads_on (c.in-Well-limited.ensures.leads (and_then k (λ args w. function_call a.p.now l a.site m1.value args w k))) (c.call_function.ensures.leads k)));
      stack = got_below c.call_function.result a.at s m2.stack m3.stack (few.values ∙ found.values) (few.cells ∙ found.cells) c.call_function.ensures.stack;
    }

pub returns-in-Failed-limited : goal.returns-in-Failed-limited
returns-in-Failed-limited g c =
    let a = c.args in
    let m = a.m.now in
    let m1 = c.callee.new.m in
    let l = level a.p.now a.b.now.level in
    record {
      leads = λ k. from (handled_by a.p.now l a.site (world m) k (callee_of m.state.heap chain_limit m.value (drop a.at m.stack.values)))
          (leads_on (c.in-Well.ensures.leads (and_then k (called_with a.p.now l a.site (world m) k)))
          (c.in-Failed-limited.ensures.leads (and_then k (λ args w. function_call a.p.now l a.site m1.value args w k))));
      stack = tt;
    }
