use Rattle.std.proofs.Common.{refl, sym, ap, Ok, Some}
use Rattle.lua_meaning.specs.Run.{here}
use Rattle.lua_machine.specs.Does.{world}
use Rattle.lua_operands.proofs.fields.index_step.Goals as goal

pub returns-in-Raw : goal.returns-in-Raw
returns-in-Raw g c = rw c.in-Raw.is record { leads = λ k. here; stack = refl }

pub returns-in-Handle : goal.returns-in-Handle
returns-in-Handle g c = rw (c.in-Handle.is, c.member-m.ensures) record { leads = λ k. here; stack = refl }
