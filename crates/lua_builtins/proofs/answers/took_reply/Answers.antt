use Rattle.std.proofs.Common.{ap}
use Rattle.lanes_lib.specs.Face.{taken_reply}
use Rattle.lua_meaning.specs.Run.{here}
use Rattle.lua_meaning.specs.Library.{took}
use Rattle.lua_machine.specs.Does.{world}
use Rattle.lua_machine.proofs.Leads.{from}
use Rattle.lua_builtins.proofs.Askings.{reply_wrong}
use Rattle.lua_builtins.proofs.answers.took_reply.Goals as goal

pub returns-in-Got : goal.returns-in-Got
returns-in-Got g c = λ l.
    let m = c.args.m.now in
    let rest = rw c.as_slice.ensures at (c.give_received.ensures l) in
    record { leads = λ k. from (ap (λ a. took c.args.p.now l c.args.site (taken_reply a) (world m) k) c.in-Got.is) (rest.leads k); stack = rest.stack }

pub returns-in_default : goal.returns-in_default
returns-in_default g c = λ l.
    let m = c.args.m.now in
    let wrong = reply_wrong c.args.reply.now c.in_default.not-Sent c.in_default.not-Got in
    record { leads = λ k. from (ap (λ t. took c.args.p.now l c.args.site t (world m) k) wrong) (rw c.broken.ensures here); stack = tt }
