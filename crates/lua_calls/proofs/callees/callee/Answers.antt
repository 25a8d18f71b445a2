use Rattle.std.proofs.Common.{refl, sym, ap, ◌∙◌, arith, Ok, ◌∷◌, take, drop, length, ◌+◌, ◌-◌}
use Rattle.object_store.specs.declared.fault.LuaFault.TheVariants as lua
use Rattle.lua_ops.specs.Metamethods.{chain_limit, callee_step}
use Rattle.lua_meaning.specs.declared.fault.Fault.TheVariants as F
use Rattle.lua_meaning.specs.Faults.{fault_at}
use Rattle.lua_meaning.specs.Calls.{callee_of}
use Rattle.lua_machine.specs.declared.machine.Machine.{Machine}
use Rattle.lua_machine.specs.Does.{world, point}
use Rattle.lua_machine.proofs.Leads.{leads_on, from, same_run, no_memory}
use Rattle.lua_machine.proofs.Failures.{fault_leads}
use Rattle.lua_machine.proofs.Windows.{from_seam, to_seam, seam_length}
use Rattle.lua_calls.specs.Callees.{callee_or_fault}
use Rattle.lua_calls.proofs.CalleeTurns.{callee_found, callee_next, callee_fault, callee_long}
use Rattle.lua_calls.proofs.callees.callee.Goals as goal

pub loop-turn-init : goal.loop-turn-init
unfolding chain_limit
loop-turn-init g c = record { follows = refl; above = record { within = c.requires; values = refl; cells = refl }; same = refl }

pub insert-requires : goal.insert-requires
insert-requires g c = c.loop-turn.invariant.above.within

pub returns-in-None : goal.returns-in-None
unfolding chain_limit
returns-in-None g c =
    let m = c.args.m.now in
    let m1 = c.loop-turn.m in
    let inv = c.loop-turn.invariant in
    let args = drop c.args.at m1.stack.values in
    let step = sym (ap Ok c.in-None.is) ∙ sym c.in-Ok.is ∙ c.callee.ensures ∙ ap (λ (x : Machine g.row.H.Denot). callee_step x.state.heap m1.value) inv.same in
    let all = inv.follows ∙ callee_found m.state.heap chain_limit c.loop-turn.turn m1.value args c.loop-turn-test.true step in
    record {
      leads = λ k. from (ap (λ r. callee_or_fault c.args.p.now c.args.site.line r (world m) k) all)
          (same_run (ap point inv.same) (ap (λ (x : Machine g.row.H.Denot). k (Ok (m1.value, args)) (world x)) (sym inv.same)));
      stack = inv.above;
    }

pub returns-in-Failed : goal.returns-in-Failed
returns-in-Failed g c =
    let m = c.args.m.now in
    let m1 = c.loop-turn.m in
    let lost = c.in-Failed.ensures ∙ ap (λ (x : Machine g.row.H.Denot). record x { fault = F.Memory }) c.loop-turn.invariant.same in
    record { leads = λ k. no_memory (record m { value = m1.value; stack = m1.stack }) c.insert.new.m lost _ k; stack = tt }

pub loop-turn-preserved : goal.loop-turn-preserved
unfolding chain_limit
loop-turn-preserved g c =
    let m = c.args.m.now in
    let m1 = c.loop-turn.m in
    let m2 = c.insert.new.m in
    let at = c.args.at in
    let inv = c.loop-turn.invariant in
    let vs = m1.stack.values in
    let args = drop at vs in
    let turn = c.loop-turn.turn in
    let handler = c.in-Some.handler in
    let put = c.in-Well.ensures in
    let step = sym (ap Ok c.in-Some.is) ∙ sym c.in-Ok.is ∙ c.callee.ensures ∙ ap (λ (x : Machine g.row.H.Denot). callee_step x.state.heap m1.value) inv.same in
    let more = ap (λ (x : Machine g.row.H.Denot). drop at x.stack.values) put ∙ from_seam at vs (m1.value ∷ args) inv.above.within in
    record {
      follows = inv.follows ∙ callee_next m.state.heap chain_limit turn m1.value args handler c.loop-turn-test.true step ∙ ap (callee_of m.state.heap (chain_limit - (turn + 1)) handler) (sym more);
      above = record {
        within = omega (arith, ap (λ (x : Machine g.row.H.Denot). length x.stack.values) put, seam_length at vs (m1.value ∷ args) inv.above.within);
        values = ap (λ (x : Machine g.row.H.Denot). take at x.stack.values) put ∙ to_seam at vs (m1.value ∷ args) inv.above.within ∙ inv.above.values;
        cells = ap (λ (x : Machine g.row.H.Denot). x.stack.cells) put ∙ inv.above.cells;
      };
      same = ap (λ (x : Machine g.row.H.Denot). record x { value = handler; stack = m2.stack }) put ∙ ap (λ (x : Machine g.row.H.Denot). record x { value = handler; stack = m2.stack }) inv.same;
    }

pub returns-in-Err : goal.returns-in-Err
unfolding chain_limit
returns-in-Err g c =
    let m = c.args.m.now in
    let m1 = c.loop-turn.m in
    let p = c.args.p.now in
    let line = c.args.site.line in
    let fault = c.in-Err.fault in
    let inv = c.loop-turn.invariant in
    let step = sym c.in-Err.is ∙ c.callee.ensures ∙ ap (λ (x : Machine g.row.H.Denot). callee_step x.state.heap m1.value) inv.same in
    let all = inv.follows ∙ callee_fault m.state.heap chain_limit c.loop-turn.turn m1.value (drop c.args.at m1.stack.values) fault c.loop-turn-test.true step in
    record {
      leads = λ k. from (ap (λ r. callee_or_fault p line r (world m) k) all)
          (leads_on (same_run (ap point inv.same) (ap (λ (x : Machine g.row.H.Denot). fault_at p line fault (world x) k) (sym inv.same)))
          (fault_leads m1 c.fault_at.new.self k p line fault c.fault_at.ensures));
      stack = tt;
    }

pub returns : goal.returns
unfolding chain_limit
returns g c =
    let m = c.args.m.now in
    let m1 = c.loop-turn.m in
    let p = c.args.p.now in
    let line = c.args.site.line in
    let inv = c.loop-turn.invariant in
    let all = inv.follows ∙ callee_long m.state.heap chain_limit c.loop-turn.turn m1.value (drop c.args.at m1.stack.values) c.loop-turn-test.false in
    record {
      leads = λ k. from (ap (λ r. callee_or_fault p line r (world m) k) all)
          (leads_on (same_run (ap point inv.same) (ap (λ (x : Machine g.row.H.Denot). fault_at p line lua.LongChain (world x) k) (sym inv.same)))
          (fault_leads m1 c.fault_at-2.new.self k p line lua.LongChain c.fault_at-2.ensures));
      stack = tt;
    }
