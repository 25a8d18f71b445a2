use Rattle.std.proofs.Common.{arith, refl}
use Rattle.lua_meaning.specs.Run.{here}
use Rattle.lua_machine.proofs.Windows.{nothing_left, cut_length, take_take}
use Rattle.lua_builtins.proofs.given.give_none.Goals as goal

pub returns : goal.returns
returns g c =
    let s = c.args.m.now.stack in
    let at = c.args.at in
    rw c.cut.ensures record {
      leads = λ k. rw (nothing_left at s.values c.requires) here;
      stack = record { within = omega (arith, cut_length at s.values c.requires); values = take_take at at s.values (omega arith); cells = refl };
    }
