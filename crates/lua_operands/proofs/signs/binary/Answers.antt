use Rattle.std.proofs.Common.{refl, sym, ◌∙◌, rules}
use Rattle.std.proofs.lemmas.Int.{to_z-of_z}
use Rattle.std.specs.Prelude.{FitsSigned}
use mir.Syntax.{w64}
use Rattle.lua_meaning.specs.Run.{here}
use Rattle.lua_meaning.specs.Levels.{level}
use Rattle.lua_meaning.specs.Operate.{binary}
use Rattle.lua_machine.specs.Does.{world}
use Rattle.lua_machine.proofs.Leads.{from}
use Rattle.lua_operands.specs.Plain.{plain}
use Rattle.lua_operands.proofs.Plains.{plain_two}
use Rattle.lua_operands.proofs.signs.binary.Goals as goal

pub returns : goal.returns
returns g c =
    let a = c.args in
    let l = level a.p.now a.b.now.level in
    let w = world a.m.now in
    let first : FitsSigned w64 c.in-Int.first = search rules in
    let second : FitsSigned w64 c.in-Int-value.second = search rules in
    let value = rw (to_z-of_z w64 c.in-Int.first first, to_z-of_z w64 c.in-Int-value.second second) at (sym c.plain.ensures ∙ c.in-Some.is) in
    record {
      leads = λ k. from (plain_two a.p.now l a.line a.from w k c.in-Some.value a.op a.x a.m.now.value c.in-Int.first c.in-Int-value.second c.in-Int.is c.in-Int-value.is value) here;
      stack = refl;
    }
