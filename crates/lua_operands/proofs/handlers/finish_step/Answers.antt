use Rattle.std.proofs.Common.{refl}
use Rattle.lua_meaning.specs.Run.{here}
use Rattle.lua_operands.proofs.handlers.finish_step.Goals as goal

pub returns-in-Raw : goal.returns-in-Raw
returns-in-Raw g c = rw c.in-Raw.is record { leads = λ k. here; stack = refl }

pub returns-in-Handle : goal.returns-in-Handle
returns-in-Handle g c = rw c.in-Handle.is record { leads = λ k. rw c.broken.ensures here; stack = tt }
