use Rattle.std.proofs.Common.{refl, ap}
use Rattle.lua_meaning.specs.Run.{here}
use Rattle.lua_operands.proofs.signs.unary.Goals as goal

pub returns-in-Not : goal.returns-in-Not
returns-in-Not g c = rw c.in-Not.is record { leads = λ k. rw c.negate.ensures here; stack = ap (λ x. x.stack) c.negate.ensures }
