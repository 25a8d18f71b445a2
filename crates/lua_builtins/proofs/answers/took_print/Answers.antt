use Rattle.std.proofs.Common.{ap}
use Rattle.lanes_lib.specs.Face.{taken_print}
use Rattle.lua_meaning.specs.Run.{here, lost}
use Rattle.lua_meaning.specs.Library.{took}
use Rattle.lua_machine.specs.Does.{world}
use Rattle.lua_machine.proofs.Leads.{from}
use Rattle.lua_builtins.proofs.Askings.{print_wrong}
use Rattle.lua_builtins.proofs.answers.took_print.Goals as goal

pub returns-in-WriteFault : goal.returns-in-WriteFault
returns-in-WriteFault g c = λ l. record { leads = λ k. from (ap (λ a. took c.args.p.now l c.args.site (taken_print a) (world c.args.m.now) k) c.in-WriteFault.is) here; stack = tt }

pub returns-in-Memory : goal.returns-in-Memory
returns-in-Memory g c = λ l. record { leads = λ k. rw c.lose.ensures lost; stack = tt }

pub returns-in_default : goal.returns-in_default
returns-in_default g c = λ l.
    let m = c.args.m.now in
    let wrong = print_wrong c.args.answer.now c.in_default.not-Printed c.in_default.not-WriteFault c.in_default.not-Memory in
    record { leads = λ k. from (ap (λ t. took c.args.p.now l c.args.site t (world m) k) wrong) (rw c.broken.ensures here); stack = tt }
