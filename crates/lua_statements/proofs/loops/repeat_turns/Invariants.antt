use Rattle.std.proofs.Common.{◌-◌, Some}
use Rattle.lua_meaning.specs.Run.{Leads, Next}
use Rattle.lua_meaning.specs.Level.{Flow}
use Rattle.lua_meaning.specs.Levels.{level}
use Rattle.lua_meaning.specs.Statements.{repeat_turns}
use Rattle.lua_machine.specs.Does.{Around, frame, world, point}
use Rattle.lua_statements.proofs.loops.repeat_turns.Given as goal

abbrev pub invariant-loop-turned : goal.invariant-loop-turned
invariant-loop-turned g l = record {
  goes : (k : Next Flow) → Leads g.H.Host.asked (point l.fn.m) (repeat_turns (level l.p l.b.level) l.fn.m.left l.e l.body (frame l.f l.fn.m.stack) (world l.fn.m) k) (point l.m) (Some (repeat_turns (level l.p l.b.level) (l.fn.m.left - l.turned) l.e l.body (frame l.f l.m.stack) (world l.m) k));
  around : Around l.f l.fn.m.stack l.m.stack;
}
