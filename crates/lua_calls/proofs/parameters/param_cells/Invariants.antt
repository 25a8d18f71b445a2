use Rattle.std.proofs.Common.{Some, drop}
use Rattle.lua_meaning.specs.Run.{Leads, Next}
use Rattle.lua_meaning.specs.Level.{Locals}
use Rattle.lua_meaning.specs.Calls.{param_cells}
use Rattle.lua_machine.specs.Does.{Around, frame, world, point}
use Rattle.lua_calls.proofs.parameters.param_cells.Given as goal

abbrev pub invariant-loop-i : goal.invariant-loop-i
invariant-loop-i g l = record {
  goes : (k : Next Locals) → Leads g.H.Host.asked (point l.fn.m) (param_cells l.p l.line 0 l.cells (frame l.f l.fn.m.stack) (world l.fn.m) k) (point l.m) (Some (param_cells l.p l.line l.i (drop l.i l.cells) (frame l.f l.m.stack) (world l.m) k));
  around : Around l.f l.fn.m.stack l.m.stack;
}
