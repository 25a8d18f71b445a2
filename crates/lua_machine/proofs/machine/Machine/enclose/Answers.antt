use Rattle.std.proofs.Common.{refl, ◌++◌, ap, sym, length, Some, Ok, Err, if◌then◌else◌, ◌^◌, ◌-◌, ◌≤◌}
use Rattle.object_store.specs.declared.fault.LuaFault.TheVariants as lua
use Rattle.lua_meaning.specs.Run.{here, lost, wrote, written, with_heap}
use Rattle.lua_meaning.specs.Level.{cell_id}
use Rattle.lua_meaning.specs.Names.{with_cell, enclosed}
use Rattle.lua_meaning.specs.Faults.{fault_at}
use Rattle.lua_machine.specs.Does.{world, store_of}
use Rattle.lua_machine.proofs.Leads.{from, upto}
use Rattle.lua_machine.proofs.Failures.{fault_leads, lost_leads, failing_stack}
use Rattle.lua_machine.proofs.Places.{has_room, has_none, cell_is, enclosed_goes, enclosed_full, no_err}
use Rattle.lua_machine.proofs.machine.Machine.enclose.Goals as goal

pub returns-in-Ok : goal.returns-in-Ok
returns-in-Ok g c =
    let m = c.args.self.now in
    let e = c.in-Ok.ensures in
    let a = rw e.heap at c.add_cell.ensures.heap in
    let n = rw e.heap at c.add_cell.ensures.number in
    let t = c.add_cell.ensures.texts in
    let room = has_room m.state.heap (λ h. no_err _ _ (e.full.1 h)) in
    let id = cell_is c.add_cell.result (length m.state.heap.cells) n in
    record {
      leads = λ k. from (enclosed_goes (fault_at c.args.p.now c.args.line lua.Full) m.value (world m) k room) (rw (a, t, e.texts, id) (wrote here));
      stack = refl;
    }

pub returns-in-Err-Full : goal.returns-in-Err-Full
returns-in-Err-Full g c =
    let m = c.args.self.now in
    let e = c.in-Err-Full.ensures in
    let m1 = record m { state = c.reserve.new.self } in
    let none = has_none m.state.heap (e.full.0 (ap Err c.in-Err-Full.field-0-is)) in
    record {
      leads = λ k. from (enclosed_full (fault_at c.args.p.now c.args.line lua.Full) m.value (world m) k none)
          (let l = fault_leads {asked = g.H.Host.asked} m1 c.fault_at.new.self k c.args.p.now c.args.line lua.Full c.fault_at.ensures in rw (e.heap, e.texts) at l);
      stack = failing_stack m1 c.fault_at.new.self _ c.fault_at.ensures;
    }

pub returns-in-Err-Memory : goal.returns-in-Err-Memory
returns-in-Err-Memory g c =
    let e = c.in-Err-Memory.ensures in
    record { leads = λ k. rw (c.lose.ensures, e.heap, e.texts) lost; stack = rw c.lose.ensures refl }
