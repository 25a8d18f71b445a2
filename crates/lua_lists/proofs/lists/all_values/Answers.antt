use Rattle.lua_lists.proofs.Stacked.{one_pushed}
use Rattle.lua_lists.proofs.lists.all_values.Goals as goal

pub returns-in-One : goal.returns-in-One
returns-in-One g c = one_pushed _ c.args.m.now c.many.new.m c.push.new.self c.in-One.ensures c.push.result c.push.ensures
