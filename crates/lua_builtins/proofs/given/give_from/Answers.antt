use Rattle.std.proofs.Common.{◌≡◌, arith, refl, ap, sym, take, drop, ◌++◌, [], length-drop}
use Rattle.std.proofs.lemmas.List.{drop-drop}
use Rattle.std.proofs.Math.ListN.{drop_of_length-le}
use Rattle.lua_meaning.specs.Run.{here}
use Rattle.lua_machine.proofs.Windows.{nothing_left, cut_length, take_take}
use Rattle.lua_builtins.proofs.Stacks.{many_given}
use Rattle.lua_builtins.proofs.given.give_from.Goals as goal

pub returns-then-place-len : goal.returns-then-place-len
returns-then-place-len g c =
    let s = c.args.m.now.stack in
    let at = c.args.at in
    let none : drop c.args.place (drop at s.values) ≡ [] = drop_of_length-le (drop at s.values) (omega (arith, length-drop at s.values)) in
    rw (none, c.cut.ensures) record {
      leads = λ k. rw (nothing_left at s.values c.requires) here;
      stack = record { within = omega (arith, cut_length at s.values c.requires); values = take_take at at s.values (omega arith); cells = refl };
    }

pub returns : goal.returns
returns g c =
    let m = c.args.m.now in
    let at = c.args.at in
    many_given g.H.Host.asked m at c.requires _ m.value _ (drop c.args.place (drop at m.stack.values)) (ap (λ s. record m { stack = s }) c.lower.ensures)
    (ap (λ vs. take at m.stack.values ++ vs) (sym (drop-drop c.args.place at m.stack.values)))
