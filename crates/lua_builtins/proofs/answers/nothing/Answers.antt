use Rattle.std.proofs.Common.{refl}
use Rattle.object_store.specs.declared.value.Value.TheVariants as V
use Rattle.lua_machine.proofs.Leads.{one_value}
use Rattle.lua_builtins.proofs.answers.nothing.Goals as goal

pub returns : goal.returns
returns g c = one_value g.H.Host.asked c.args.m.now _ V.Nil refl
