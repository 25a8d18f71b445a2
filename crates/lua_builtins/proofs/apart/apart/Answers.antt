use Rattle.std.proofs.Common.{refl}
use Rattle.lua_meaning.specs.Run.{lost}
use Rattle.lua_builtins.proofs.apart.apart.Goals as goal

pub returns-in_default : goal.returns-in_default
returns-in_default g c = rw (c.lose.ensures, c.cut.ensures) record { leads = λ k. lost; stack = refl }
