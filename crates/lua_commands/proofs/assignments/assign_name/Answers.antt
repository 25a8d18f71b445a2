use Rattle.lua_commands.proofs.assignments.assign_name.Goals as goal

pub returns-in-Slot : goal.returns-in-Slot
returns-in-Slot g c = rw c.in-Slot.is (rw c.in-Slot.is at c.assign_local.ensures)

pub returns-in-CellSlot : goal.returns-in-CellSlot
returns-in-CellSlot g c = rw c.in-CellSlot.is (rw c.in-CellSlot.is at c.assign_local-in-CellSlot.ensures)

pub returns-in-Up : goal.returns-in-Up
returns-in-Up g c = rw c.in-Up.is (rw c.in-Up.is at c.assign_local-in-Up.ensures)

pub returns-in-Global : goal.returns-in-Global
returns-in-Global g c = rw c.in-Global.is (rw c.get.ensures at c.assign_global.ensures)
