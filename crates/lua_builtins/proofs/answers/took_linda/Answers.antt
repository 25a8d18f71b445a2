use Rattle.std.proofs.Common.{ap}
use Rattle.lanes_lib.specs.declared.ask.AskFault.TheVariants as refused
use Rattle.lanes_lib.specs.Face.{taken_linda}
use Rattle.lua_meaning.specs.Run.{here, lost}
use Rattle.lua_meaning.specs.Library.{took}
use Rattle.lua_machine.specs.Does.{world}
use Rattle.lua_machine.proofs.Leads.{from}
use Rattle.lua_builtins.proofs.Askings.{linda_wrong, refuse_leads}
use Rattle.lua_builtins.proofs.answers.took_linda.Goals as goal

pub returns-in-Reply : goal.returns-in-Reply
returns-in-Reply g c = λ l.
    let m = c.args.m.now in
    let rest = c.took_reply.ensures l in
    record { leads = λ k. from (ap (λ a. took c.args.p.now l c.args.site (taken_linda a) (world m) k) c.in-Reply.is) (rest.leads k); stack = rest.stack }

pub returns-in-NotBuilt : goal.returns-in-NotBuilt
returns-in-NotBuilt g c = λ l.
    let m = c.args.m.now in
    record { leads = λ k. from (ap (λ a. took c.args.p.now l c.args.site (taken_linda a) (world m) k) c.in-NotBuilt.is) (refuse_leads m c.refuse.new.m k c.args.p.now l c.args.site refused.NotBuilt c.refuse.ensures); stack = tt }

pub returns-in-Memory : goal.returns-in-Memory
returns-in-Memory g c = λ l. record { leads = λ k. rw c.lose.ensures lost; stack = tt }

pub returns-in_default : goal.returns-in_default
returns-in_default g c = λ l.
    let m = c.args.m.now in
    let wrong = linda_wrong c.args.answer.now c.in_default.not-Reply c.in_default.not-NotBuilt c.in_default.not-Memory in
    record { leads = λ k. from (ap (λ t. took c.args.p.now l c.args.site t (world m) k) wrong) (rw c.broken.ensures here); stack = tt }
