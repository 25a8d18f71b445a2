use Rattle.std.proofs.Common.{Some, List, drop, length}
use Rattle.object_store.specs.declared.value.Value.{Value}
use Rattle.lua_meaning.specs.Run.{Leads, Next}
use Rattle.lua_meaning.specs.Levels.{level}
use Rattle.lua_machine.specs.Does.{Above, frame, world, point}
use Rattle.lua_lists.specs.Ones.{ones}
use Rattle.lua_lists.proofs.lists.ones.Given as goal

abbrev pub invariant-loop-e : goal.invariant-loop-e
invariant-loop-e g l = record {
  goes : (k : Next (List Value)) → Leads g.H.Host.asked (point l.fn.m) (ones (level l.p l.b.level) (drop l.at l.fn.m.stack.values) l.es (frame l.f l.fn.m.stack) (world l.fn.m) k) (point l.m) (Some (ones (level l.p l.b.level) (drop l.at l.m.stack.values) (drop l.e-index l.es) (frame l.f l.fn.m.stack) (world l.m) k));
  above : Above (length l.fn.m.stack.values) l.fn.m.stack l.m.stack;
}
