use Rattle.std.proofs.Common.{refl}
use Rattle.lua_meaning.specs.Run.{here}
use Rattle.lua_builtins.proofs.given.give_one.Goals as goal

pub returns : goal.returns
returns g c = rw c.cut.ensures record { leads = λ k. here; stack = refl }
