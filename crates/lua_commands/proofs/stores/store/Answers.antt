use Rattle.std.proofs.Common.{ap, ◌∙◌}
use Rattle.lua_program.specs.declared.expr.RExprKind.{out-RExprKind}
use Rattle.lua_program.specs.declared.expr.RExprKind.TheVariants as K
use Rattle.lua_commands.proofs.Pairs.{no_name_at}
use Rattle.lua_commands.proofs.stores.store.Goals as goal

pub returns-in-Name : goal.returns-in-Name
returns-in-Name g c = rw (ap out-RExprKind c.in-Name.is ∙ K.outs-Name _ _) c.store_name.ensures

pub returns-in_default : goal.returns-in_default
returns-in_default g c = rw (no_name_at _ _ c.args.object c.args.key c.in_default.not-Name) c.set_field.ensures
