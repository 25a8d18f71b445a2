use Rattle.std.proofs.Common.{ap, refl, sym, ◌∙◌, ◌∷◌, [], ◌≡◌, length}
use Rattle.lua_meaning.specs.Run.{lost}
use Rattle.lua_machine.proofs.Leads.{leads_on, from, upto}
use Rattle.lua_machine.proofs.Pushes.{two_args, two_below, cut_two}
use Rattle.lua_operands.proofs.handlers.handled.Goals as goal

pub returns-in-Failed : goal.returns-in-Failed
returns-in-Failed g c = record { leads = λ k. rw c.in-Failed.ensures lost; stack = tt }

pub returns-in-Failed-push : goal.returns-in-Failed-push
returns-in-Failed-push g c = record { leads = λ k. rw (c.in-Failed-push.ensures, c.in-Well.ensures) lost; stack = tt }

pub returns-in-Failed-invoke : goal.returns-in-Failed-invoke
returns-in-Failed-invoke g c =
    let s = c.args.m.now.stack in
    let leads = rw (c.len-at.ensures, c.in-Well-push.ensures, c.in-Well.ensures, two_args s.values c.args.first c.args.second) at c.in-Failed-invoke.ensures.leads in
    record { leads = λ k. leads _; stack = tt }
