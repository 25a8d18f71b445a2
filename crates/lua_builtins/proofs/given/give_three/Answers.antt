use Rattle.std.proofs.Common.{take, ◌∷◌, []}
use Rattle.lua_meaning.specs.Run.{lost}
use Rattle.lua_builtins.proofs.Stacks.{many_given, three_more}
use Rattle.lua_builtins.proofs.given.give_three.Goals as goal

pub returns-in-Failed : goal.returns-in-Failed
returns-in-Failed g c = record { leads = λ k. rw c.in-Failed.ensures lost; stack = tt }

pub returns-in-Failed-push : goal.returns-in-Failed-push
returns-in-Failed-push g c = record { leads = λ k. rw (c.in-Failed-push.ensures, c.in-Well.ensures) lost; stack = tt }

pub returns-in-Failed-push-2 : goal.returns-in-Failed-push-2
returns-in-Failed-push-2 g c = record { leads = λ k. rw (c.in-Failed-push-2.ensures, c.in-Well-push.ensures, c.in-Well.ensures) lost; stack = tt }

pub returns : goal.returns
returns g c =
    let m = c.args.m.now in
    let a = c.args in
    let e = rw (c.in-Well-push.ensures, c.in-Well.ensures, c.cut.ensures) at c.in-Well-push-2.ensures in
    many_given g.H.Host.asked m a.at c.requires _ a.third _ (a.first ∷ a.second ∷ a.third ∷ []) e (three_more (take a.at m.stack.values) a.first a.second a.third)
