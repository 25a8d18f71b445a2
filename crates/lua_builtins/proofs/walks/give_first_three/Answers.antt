use Rattle.std.proofs.Common.{ap, refl, take, drop, ◌++◌}
use Rattle.lua_meaning.specs.Run.{lost}
use Rattle.lua_meaning.specs.Names.{filled}
use Rattle.lua_builtins.proofs.Stacks.{many_given, filled_three}
use Rattle.lua_builtins.proofs.walks.give_first_three.Goals as goal

pub returns-in-Ok : goal.returns-in-Ok
returns-in-Ok g c =
    let m = c.args.m.now in
    let at = c.args.at in
    rw c.in-Ok.ensures.ok (many_given g.H.Host.asked m at c.requires _ m.value _ (filled 3 (drop at m.stack.values)) refl (ap (λ vs. take at m.stack.values ++ vs) (filled_three (drop at m.stack.values))))

pub returns-in-Err : goal.returns-in-Err
returns-in-Err g c = record { leads = λ k. rw c.lose.ensures lost; stack = tt }
