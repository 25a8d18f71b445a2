use Rattle.std.proofs.Common.{sym, ap, ◌∙◌, Err}
use Rattle.object_store.specs.declared.fault.LuaFault.TheVariants as lua
use Rattle.lua_meaning.specs.Run.{lost}
use Rattle.lua_machine.specs.Does.{world}
use Rattle.lua_machine.proofs.Leads.{from}
use Rattle.lua_machine.proofs.Failures.{fault_leads}
use Rattle.lua_machine.proofs.Places.{no_err}
use Rattle.lua_builtins.proofs.Tables.{no_some, room_for_one, room_for_none, table_known, table_new, table_full}
use Rattle.lua_builtins.proofs.lanes_table.lanes_table.Goals as goal

pub returns-in-Some : goal.returns-in-Some
returns-in-Some g c = λ l.
    let m = c.args.m.now in
    record {
      leads = λ k. from (table_known c.args.p.now l c.args.site m.state.heap.lanes_table c.in-Some.id (world m) k (sym c.lanes_table.ensures ∙ c.in-Some.is)) (c.give_one.ensures.leads k);
      stack = c.give_one.ensures.stack;
    }

pub returns-in-Ok : goal.returns-in-Ok
returns-in-Ok g c = λ l.
    let m = c.args.m.now in
    let e = c.in-Ok.ensures in
    let rest = rw (e.heap, e.texts) at (c.make_table.ensures c.args.p.now l c.args.site) in
    let room = room_for_one m.state.heap (λ h. no_err _ _ (e.full.1 h)) in
    record {
      leads = λ k. from (table_new c.args.p.now l c.args.site m.state.heap.lanes_table (world m) k (sym c.lanes_table.ensures ∙ no_some c.lanes_table.result c.in_default.not-Some) room) (rest.leads k);
      stack = rest.stack;
    }

pub returns-in-Err-Full : goal.returns-in-Err-Full
returns-in-Err-Full g c = λ l.
    let m = c.args.m.now in
    let e = c.in-Err-Full.ensures in
    let m1 = record m { state = c.reserve.new.self } in
    let none = room_for_none m.state.heap (e.full.0 (ap Err c.in-Err-Full.field-0-is)) in
    record {
      leads = λ k. from (table_full c.args.p.now l c.args.site m.state.heap.lanes_table (world m) k (sym c.lanes_table.ensures ∙ no_some c.lanes_table.result c.in_default.not-Some) none)
          (let x = fault_leads {asked = g.H.Host.asked} m1 c.fault_at.new.self k c.args.p.now c.args.site.line lua.Full c.fault_at.ensures in rw (e.heap, e.texts) at x);
      stack = tt;
    }

pub returns-in-Err-Memory : goal.returns-in-Err-Memory
returns-in-Err-Memory g c = λ l.
    let e = c.in-Err-Memory.ensures in
    record { leads = λ k. rw (c.lose.ensures, e.heap, e.texts) lost; stack = tt }
