use Rattle.std.proofs.Common.{refl}
use Rattle.lua_machine.proofs.Leads.{one_value}
use Rattle.lua_expressions.proofs.forms.gives.Goals as goal

pub returns : goal.returns
returns g c = one_value g.H.Host.asked c.args.m.now _ c.args.value refl
