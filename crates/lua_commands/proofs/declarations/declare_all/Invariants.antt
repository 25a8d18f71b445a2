use Rattle.std.proofs.Common.{◌≡◌, Some, drop}
use Rattle.lua_meaning.specs.Run.{Leads, Next}
use Rattle.lua_meaning.specs.Level.{Locals}
use Rattle.lua_meaning.specs.Statements.{declare_all, refs_of}
use Rattle.lua_machine.specs.Does.{Around, frame, world, point}
use Rattle.lua_commands.proofs.declarations.declare_all.Given as goal

abbrev pub invariant-loop-i : goal.invariant-loop-i
invariant-loop-i g l = record {
  goes : (k : Next Locals) → Leads g.H.Host.asked (point l.fn.m) (declare_all l.p (refs_of l.ls) (drop l.at l.fn.m.stack.values) (frame l.f l.fn.m.stack) (world l.fn.m) k) (point l.m) (Some (declare_all l.p (drop l.i (refs_of l.ls)) (drop l.i (drop l.at l.fn.m.stack.values)) (frame l.f l.m.stack) (world l.m) k));
  around : Around l.f l.fn.m.stack l.m.stack;
  values : drop l.at l.m.stack.values ≡ drop l.at l.fn.m.stack.values;
}
