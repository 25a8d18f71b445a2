use Rattle.std.proofs.Common.{ap}
use Rattle.lua_meaning.specs.Run.{here}
use Rattle.lua_meaning.specs.Statements.{assign}
use Rattle.lua_machine.specs.Does.{world, frame}
use Rattle.lua_machine.proofs.Leads.{from}
use Rattle.lua_commands.proofs.Follow.{past_same}
use Rattle.lua_commands.proofs.stores.assign.Goals as goal

pub returns-in-CellSlot-clause-past : goal.returns-in-CellSlot-clause-past
returns-in-CellSlot-clause-past g c = past_same c.args.f.now c.args.m.now.stack c.set_cell.new.self.stack c.set_cell.result c.set_cell.ensures.stack

pub returns-in-Up-clause-past : goal.returns-in-Up-clause-past
returns-in-Up-clause-past g c = past_same c.args.f.now c.args.m.now.stack c.set_cell-in-Up.new.self.stack c.set_cell-in-Up.result c.set_cell-in-Up.ensures.stack

pub returns-in-Global-clause-locals : goal.returns-in-Global-clause-locals
returns-in-Global-clause-locals g c =
    let m = c.args.m.now in
    record { leads = λ k. from (ap (λ r. assign (frame c.args.f.now m.stack) r m.value (world m) k) c.in-Global.is) (rw c.broken.ensures here); stack = tt }
