use Rattle.lua_machine.specs.Does.{frame, world}
use Rattle.lua_machine.proofs.Leads.{from}
use Rattle.lua_machine.proofs.Levels.{single_level}
use Rattle.lua_machine.proofs.below.Below.many.Goals as goal

pub returns-in_default : goal.returns-in_default
returns-in_default g c =
    let a = c.args in
    record {
      leads = λ k. from (single_level a.p.now a.self.now.level (frame a.f.now a.m.now.stack) (world a.m.now) k a.e.now c.in_default.not-Dots c.in_default.not-Call c.in_default.not-Method) (c.alone.ensures.leads k);
      stack = c.alone.ensures.stack;
    }
