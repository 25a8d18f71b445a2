use Rattle.std.proofs.Common.{refl, rules}
use Rattle.std.specs.Prelude.{FitsSigned}
use Rattle.std.proofs.lemmas.Int.{to_z-of_z}
use mir.Syntax.{w64}
use Rattle.lua_meaning.specs.Run.{here}
use Rattle.lua_builtins.proofs.answers.place_root.Goals as goal

pub returns-in-Int : goal.returns-in-Int
returns-in-Int g c = λ l.
    let fits : FitsSigned w64 c.in-Int.number = search rules in
    rw (c.in-Int.is, to_z-of_z w64 c.in-Int.number fits) record { leads = λ k. here; stack = refl }
