use Rattle.std.proofs.Common.{◌≡◌, List, Some, drop}
use Rattle.object_store.specs.declared.value.Value.{Value}
use Rattle.lua_meaning.specs.Run.{Leads, Next}
use Rattle.lua_meaning.specs.Levels.{level}
use Rattle.lua_meaning.specs.Library.{print_rest}
use Rattle.lua_machine.specs.Does.{world, point}
use Rattle.lua_builtins.proofs.printing.add_rest.Given as goal

abbrev pub invariant-loop-place : goal.invariant-loop-place
invariant-loop-place g l = record {
  goes : (k : Next (List Value)) → Leads g.H.Host.asked (point l.fn.m) (print_rest l.p (level l.p l.b.level) l.site l.fn.line.items (drop l.from l.fn.m.stack.values) (world l.fn.m) k) (point l.m) (Some (print_rest l.p (level l.p l.b.level) l.site l.line.items (drop l.place l.fn.m.stack.values) (world l.m) k));
  stack : l.m.stack ≡ l.fn.m.stack;
}
