use Rattle.std.proofs.Common.{Ok, ◌∷◌, []}
use Rattle.lua_meaning.specs.Run.{and_then}
use Rattle.lua_expressions.proofs.CallTurns.{one_cut}
use Rattle.lua_expressions.proofs.forms.single.Goals as goal

pub returns-in-Well : goal.returns-in-Well
returns-in-Well g c = record { leads = λ k. c.in-Well.ensures.leads (and_then k (λ v w. k (Ok (v ∷ [])) w)); stack = one_cut c.args.m.now.stack c.value_of.new.m.stack c.in-Well.ensures.stack }

pub returns-in-Failed : goal.returns-in-Failed
returns-in-Failed g c = record { leads = λ k. c.in-Failed.ensures.leads (and_then k (λ v w. k (Ok (v ∷ [])) w)); stack = tt }
