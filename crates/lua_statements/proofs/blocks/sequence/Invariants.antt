use Rattle.std.proofs.Common.{ℕ, Some, drop}
use Rattle.lua_meaning.specs.Run.{Run, World, Leads, Next}
use Rattle.lua_meaning.specs.Level.{Flow, Locals}
use Rattle.lua_meaning.specs.Levels.{level}
use Rattle.lua_meaning.specs.Statements.{sequence}
use Rattle.lua_machine.specs.Does.{Around, frame, world, point}
use Rattle.lua_statements.proofs.blocks.sequence.Given as goal

abbrev pub invariant-loop-s : goal.invariant-loop-s
invariant-loop-s g l = record {
  goes : (jump : ℕ → Locals → World → Run) (k : Next Flow) → Leads g.H.Host.asked (point l.fn.m) (sequence (level l.p l.b.level) jump l.ss (frame l.f l.fn.m.stack) (world l.fn.m) k) (point l.m) (Some (sequence (level l.p l.b.level) jump (drop l.s-index l.ss) (frame l.f l.m.stack) (world l.m) k));
  around : Around l.f l.fn.m.stack l.m.stack;
}
