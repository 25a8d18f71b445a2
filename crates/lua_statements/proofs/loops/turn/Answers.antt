use Rattle.lua_machine.proofs.Leads.{leads_on}
use Rattle.lua_meaning.specs.Statements.{turn}
use Rattle.lua_statements.proofs.loops.turn.Goals as goal

pub returns-in-Well : goal.returns-in-Well
unfolding turn
returns-in-Well g c =
    let body = rw c.in-Well.ensures.stack at c.block.ensures.leads in
    record { leads = λ k. leads_on (c.in-Well.ensures.meaning _) (body k); stack = rw c.in-Well.ensures.stack at c.block.ensures.stack }

pub returns-in-Failed : goal.returns-in-Failed
unfolding turn
returns-in-Failed g c = record { leads = λ k. c.in-Failed.ensures.meaning _; stack = tt }
