use Rattle.std.proofs.Common.{◌≡◌, pos, Some, drop}
use Rattle.lua_meaning.specs.Run.{Leads, Next}
use Rattle.lua_meaning.specs.Levels.{level}
use Rattle.lua_meaning.specs.Expressions.{fields}
use Rattle.lua_machine.specs.Does.{frame, world, point}
use Rattle.lua_objects.proofs.constructors.set_fields.Given as goal

abbrev pub invariant-loop-i : goal.invariant-loop-i
invariant-loop-i g l = record {
  goes : (k : Next (Unit {0})) → Leads g.H.Host.asked (point l.fn.m) (fields l.p (level l.p l.b.level) (frame l.f l.fn.m.stack) l.line l.id (pos 1) l.fields (world l.fn.m) k) (point l.m) (Some (fields l.p (level l.p l.b.level) (frame l.f l.fn.m.stack) l.line l.id l.key (drop l.i l.fields) (world l.m) k));
  stack : l.m.stack ≡ l.fn.m.stack;
}
