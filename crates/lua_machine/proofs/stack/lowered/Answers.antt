use Rattle.lua_machine.proofs.Windows.{lower_front, lower_back}
use Rattle.std.proofs.Common.{arith}
use Rattle.std.proofs.lemmas.Grind.{common_steps}
use Rattle.lua_machine.proofs.stack.lowered.Goals as goal

pub loop-i-preserved : goal.loop-i-preserved
loop-i-preserved c =
    let i = c.loop-i.invariant in
    record {
      front = lower_front _ _ _ _ _ _ c.requires.0 (omega arith) i.len i.front i.back c.index-value.ensures;
      back = lower_back _ _ _ _ _ _ c.requires.0 (omega arith) i.len i.back;
      len = grind (arith, common_steps);
    }
