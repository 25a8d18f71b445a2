use Rattle.lua_commands.proofs.targets.push_name.Goals as goal

pub returns-in-Slot : goal.returns-in-Slot
returns-in-Slot g c = rw c.in-Slot.is (λ line. c.push_two.ensures _)

pub returns-in-CellSlot : goal.returns-in-CellSlot
returns-in-CellSlot g c = rw c.in-CellSlot.is (λ line. c.push_two-in-CellSlot.ensures _)

pub returns-in-Up : goal.returns-in-Up
returns-in-Up g c = rw c.in-Up.is (λ line. c.push_two-in-Up.ensures _)

pub returns-in-Global : goal.returns-in-Global
returns-in-Global g c = rw c.in-Global.is (rw c.get.ensures at c.push_global.ensures)
