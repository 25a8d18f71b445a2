use Rattle.lua_commands.proofs.Follow.{locals_stay, past_same}
use Rattle.lua_commands.proofs.stores.set_field.Goals as goal

pub returns-clause-locals : goal.returns-clause-locals
returns-clause-locals g c = locals_stay c.args.f.now c.args.m.now c.set.new.m c.requires.fits _ c.set.result c.set.ensures

pub returns-clause-past : goal.returns-clause-past
returns-clause-past g c = past_same c.args.f.now c.args.m.now.stack c.set.new.m.stack c.set.result c.set.ensures.stack
