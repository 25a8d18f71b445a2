use Rattle.std.proofs.Common.{◌-◌, Some}
use Rattle.lua_meaning.specs.Run.{Leads, Next}
use Rattle.lua_meaning.specs.Level.{Flow}
use Rattle.lua_meaning.specs.Levels.{level}
use Rattle.lua_meaning.specs.Statements.{in_turns}
use Rattle.lua_machine.specs.Does.{Around, frame, world, point}
use Rattle.lua_statements.proofs.generic.in_turns.Given as goal

abbrev pub invariant-loop-turned : goal.invariant-loop-turned
invariant-loop-turned g l = record {
  goes : (k : Next Flow) → Leads g.H.Host.asked (point l.fn.m) (in_turns l.p (level l.p l.b.level) l.fn.m.left l.go l.state l.fn.control l.rs l.body (frame l.f l.fn.m.stack) (world l.fn.m) k) (point l.m) (Some (in_turns l.p (level l.p l.b.level) (l.fn.m.left - l.turned) l.go l.state l.before l.rs l.body (frame l.f l.m.stack) (world l.m) k));
  around : Around l.f l.fn.m.stack l.m.stack;
}
