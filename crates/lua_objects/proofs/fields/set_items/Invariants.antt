use Rattle.std.proofs.Common.{◌≡◌, ℕ, Some, drop}
use Rattle.lua_meaning.specs.Run.{Leads, Next}
use Rattle.lua_meaning.specs.Level.{Loaded, Level, Frame}
use Rattle.lua_meaning.specs.Expressions.{items}
use Rattle.lua_machine.specs.Does.{world, point}
use Rattle.lua_objects.proofs.fields.set_items.Given as goal

abbrev pub invariant-loop-place : goal.invariant-loop-place
invariant-loop-place g l = record {
  goes : (p : Loaded) (lv : Level) (f : Frame) (line : ℕ) (k : Next (Unit {0})) → Leads g.H.Host.asked (point l.fn.m) (items p lv f line l.id l.first (drop l.at l.fn.m.stack.values) (world l.fn.m) k) (point l.m) (Some (items p lv f line l.id l.key (drop l.place l.fn.m.stack.values) (world l.m) k));
  stack : l.m.stack ≡ l.fn.m.stack;
}
