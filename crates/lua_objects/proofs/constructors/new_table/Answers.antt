use Rattle.std.proofs.Common.{refl, ap, length, Err}
use Rattle.object_store.specs.declared.fault.LuaFault.TheVariants as lua
use Rattle.lua_meaning.specs.Run.{here, lost, wrote}
use Rattle.lua_machine.specs.Does.{world}
use Rattle.lua_machine.proofs.Leads.{from}
use Rattle.lua_machine.proofs.Failures.{fault_leads}
use Rattle.lua_machine.proofs.Places.{no_err}
use Rattle.lua_objects.proofs.Rooms.{has_room, has_none}
use Rattle.lua_objects.proofs.NewObjects.{table_is, table_goes, table_full}
use Rattle.lua_objects.proofs.constructors.new_table.Goals as goal

pub returns-in-Ok : goal.returns-in-Ok
returns-in-Ok g c = λ l f.
    let m = c.args.m.now in
    let e = c.in-Ok.ensures in
    let a = rw (e.heap, c.new-table.ensures.pairs, c.new-table.ensures.meta) at c.add_table.ensures.heap in
    let n = rw e.heap at c.add_table.ensures.number in
    let t = c.add_table.ensures.texts in
    let room = has_room m.state.heap 1 0 0 (λ h. no_err _ _ (e.full.1 h)) in
    let id = table_is c.add_table.result (length m.state.heap.tables) n in
    record {
      leads = λ k. from (table_goes c.args.p.now l f c.args.line (world m) k room) (rw (a, t, e.texts, id) (wrote here));
      stack = refl;
    }

pub returns-in-Err-Full : goal.returns-in-Err-Full
returns-in-Err-Full g c = λ l f.
    let m = c.args.m.now in
    let e = c.in-Err-Full.ensures in
    let m1 = record m { state = c.reserve.new.self } in
    let none = has_none m.state.heap 1 0 0 (e.full.0 (ap Err c.in-Err-Full.field-0-is)) in
    record {
      leads = λ k. from (table_full c.args.p.now l f c.args.line (world m) k none)
          (let l = fault_leads {asked = g.H.Host.asked} m1 c.fault_at.new.self k c.args.p.now c.args.line lua.Full c.fault_at.ensures in rw (e.heap, e.texts) at l);
      stack = tt;
    }

pub returns-in-Err-Memory : goal.returns-in-Err-Memory
returns-in-Err-Memory g c = λ l f.
    let e = c.in-Err-Memory.ensures in
    record { leads = λ k. rw (c.lose.ensures, e.heap, e.texts) lost; stack = tt }
