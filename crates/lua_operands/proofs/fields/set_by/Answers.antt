use Rattle.std.proofs.Common.{ap, refl, sym, ◌∙◌, Ok}
use Rattle.lua_meaning.specs.Run.{lost, and_then}
use Rattle.lua_machine.proofs.Pushes.{three_args, three_below, cut_three}
use Rattle.lua_operands.proofs.fields.set_by.Goals as goal

pub returns-in-Failed : goal.returns-in-Failed
returns-in-Failed g c = record { leads = λ k. rw c.in-Failed.ensures lost; stack = tt }

pub returns-in-Failed-push : goal.returns-in-Failed-push
returns-in-Failed-push g c = record { leads = λ k. rw (c.in-Failed-push.ensures, c.in-Well.ensures) lost; stack = tt }

pub returns-in-Failed-push-2 : goal.returns-in-Failed-push-2
returns-in-Failed-push-2 g c = record { leads = λ k. rw (c.in-Failed-push-2.ensures, c.in-Well-push.ensures, c.in-Well.ensures) lost; stack = tt }

pub returns-in-Failed-invoke : goal.returns-in-Failed-invoke
returns-in-Failed-invoke g c =
    let s = c.args.m.now.stack in
    let leads = rw (c.len-at.ensures, c.in-Well-push-2.ensures, c.in-Well-push.ensures, c.in-Well.ensures, three_args s.values c.args.object c.args.key c.args.m.now.value) at c.in-Failed-invoke.ensures.leads in
    record { leads = λ k. leads (and_then k (λ vs w. k (Ok tt) w)); stack = tt }
