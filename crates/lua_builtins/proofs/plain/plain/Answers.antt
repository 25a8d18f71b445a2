use Rattle.std.proofs.Common.{drop}
use Rattle.base_lib.specs.Base.{base_step}
use Rattle.lua_machine.proofs.Leads.{leads_on}
use Rattle.lua_builtins.proofs.Plains.{plain_done, plain_failed}
use Rattle.lua_builtins.proofs.plain.plain.Goals as goal

pub returns-in-Ok : goal.returns-in-Ok
returns-in-Ok g c = λ l.
    let m = c.args.m.now in
    let args = drop c.args.at m.stack.values in
    record {
      leads = λ k. leads_on (plain_done c.args.p.now l c.args.site m c.call.new.state args k (base_step m.state.texts m.state.heap c.args.function args) c.in-Ok.given c.in-Ok.ensures) (c.give.ensures.leads k);
      stack = c.give.ensures.stack;
    }

pub returns-in-Err : goal.returns-in-Err
returns-in-Err g c = λ l.
    let m = c.args.m.now in
    let args = drop c.args.at m.stack.values in
    record {
      leads = λ k. plain_failed c.args.p.now l c.args.site m c.fault_at.new.self c.call.new.state args k c.in-Err.fault c.fault_at.ensures (base_step m.state.texts m.state.heap c.args.function args) c.in-Err.ensures;
      stack = tt;
    }
