use Rattle.std.proofs.Common.{◌≡◌, Some, drop}
use Rattle.lua_meaning.specs.Run.{Leads, Next}
use Rattle.lua_meaning.specs.Level.{Locals}
use Rattle.lua_meaning.specs.Levels.{level}
use Rattle.lua_meaning.specs.Statements.{stores}
use Rattle.lua_machine.specs.Does.{Around, frame, world, point}
use Rattle.lua_commands.specs.Targets.{targets_of}
use Rattle.lua_commands.proofs.assignments.store_all.Given as goal

abbrev pub invariant-loop-i : goal.invariant-loop-i
invariant-loop-i g l = record {
  goes : (k : Next Locals) → Leads g.H.Host.asked (point l.fn.m) (stores l.p (level l.p l.b.level) (targets_of l.ts (drop l.at l.fn.m.stack.values)) (drop l.from l.fn.m.stack.values) (frame l.f l.fn.m.stack) (world l.fn.m) k) (point l.m) (Some (stores l.p (level l.p l.b.level) (drop l.i (targets_of l.ts (drop l.at l.fn.m.stack.values))) (drop l.i (drop l.from l.fn.m.stack.values)) (frame l.f l.m.stack) (world l.m) k));
  around : Around l.f l.fn.m.stack l.m.stack;
  values : drop l.at l.m.stack.values ≡ drop l.at l.fn.m.stack.values;
}
