use Rattle.std.proofs.Common.{◌≡◌, ◌+◌, ◌*◌, Some, [], take, drop, length, List}
use Rattle.lua_meaning.specs.Run.{Leads, Next}
use Rattle.lua_meaning.specs.Levels.{level}
use Rattle.lua_meaning.specs.Statements.{Target, targets}
use Rattle.lua_machine.specs.Does.{Above, frame, world, point}
use Rattle.lua_commands.specs.Targets.{targets_of}
use Rattle.lua_commands.proofs.targets.push_targets.Given as goal

abbrev pub invariant-loop-e : goal.invariant-loop-e
invariant-loop-e g l = record {
  goes : (k : Next (List Target)) → Leads g.H.Host.asked (point l.fn.m) (targets l.p (level l.p l.b.level) [] l.es (frame l.f l.fn.m.stack) (world l.fn.m) k) (point l.m) (Some (targets l.p (level l.p l.b.level) (targets_of (take l.e-index l.es) (drop (length l.fn.m.stack.values) l.m.stack.values)) (drop l.e-index l.es) (frame l.f l.fn.m.stack) (world l.m) k));
  above : Above (length l.fn.m.stack.values) l.fn.m.stack l.m.stack;
  count : length l.m.stack.values ≡ length l.fn.m.stack.values + 2 * l.e-index;
}
