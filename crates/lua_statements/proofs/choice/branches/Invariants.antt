use Rattle.std.proofs.Common.{◌≡◌, Some, drop}
use Rattle.lua_meaning.specs.Run.{Leads, Next}
use Rattle.lua_meaning.specs.Level.{Flow}
use Rattle.lua_meaning.specs.Levels.{level}
use Rattle.lua_meaning.specs.Statements.{branches}
use Rattle.lua_machine.specs.Does.{frame, world, point}
use Rattle.lua_statements.proofs.choice.branches.Given as goal

abbrev pub invariant-loop-branch : goal.invariant-loop-branch
invariant-loop-branch g l = record {
  goes : (k : Next Flow) → Leads g.H.Host.asked (point l.fn.m) (branches l.p (level l.p l.b.level) l.bs l.last (frame l.f l.fn.m.stack) (world l.fn.m) k) (point l.m) (Some (branches l.p (level l.p l.b.level) (drop l.branch-index l.bs) l.last (frame l.f l.fn.m.stack) (world l.m) k));
  stack : l.m.stack ≡ l.fn.m.stack;
}
