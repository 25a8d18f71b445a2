use Rattle.std.proofs.Common.{ap, refl, sym, ◌∙◌}
use Rattle.lua_meaning.specs.Run.{here}
use Rattle.lua_meaning.specs.Level.{or_broken}
use Rattle.lua_machine.specs.Does.{world}
use Rattle.lua_machine.proofs.Leads.{from}
use Rattle.lua_expressions.proofs.names.text.Goals as goal

pub returns-in-Some : goal.returns-in-Some
returns-in-Some g c = record { leads = λ k. from (ap (λ o. k (or_broken o) (world c.args.m.now)) (sym c.key.ensures ∙ c.in-Some.is)) here; stack = refl }

pub returns-in-None : goal.returns-in-None
returns-in-None g c = record { leads = λ k. from (ap (λ o. k (or_broken o) (world c.args.m.now)) (sym c.key.ensures ∙ c.in-None.is)) (rw c.broken.ensures here); stack = tt }
