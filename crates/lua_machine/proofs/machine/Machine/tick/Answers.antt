use Rattle.std.proofs.Common.{refl, arith}
use Rattle.lua_machine.proofs.Leads.{same_run, tick_spent, tick_goes}
use Rattle.lua_machine.specs.Does.{world}
use Rattle.lua_machine.proofs.machine.Machine.tick.Goals as goal

pub returns-then-self-lt2-clause-meaning : goal.returns-then-self-lt2-clause-meaning
returns-then-self-lt2-clause-meaning g c = λ k. rw c.spend.ensures (same_run refl (tick_spent (world c.args.self.now) k c.if-self-lt2.true))

pub returns-clause-meaning : goal.returns-clause-meaning
returns-clause-meaning g c = λ k. same_run refl (tick_goes (world c.args.self.now) k (omega arith))
