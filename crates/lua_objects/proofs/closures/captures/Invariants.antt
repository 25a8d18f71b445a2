use Rattle.std.proofs.Common.{◌≡◌, drop}
use Rattle.lua_meaning.specs.Names.{captures}
use Rattle.lua_machine.specs.Does.{frame}
use Rattle.lua_objects.proofs.Captures.{with_front}
use Rattle.lua_objects.proofs.closures.captures.Given as goal

abbrev pub invariant-loop-up : goal.invariant-loop-up
invariant-loop-up g l = record {
  same : l.m ≡ l.fn.m;
  front : captures l.fn.m.state.heap (frame l.f l.fn.m.stack) l.ups ≡ with_front l.cells.items (captures l.fn.m.state.heap (frame l.f l.fn.m.stack) (drop l.up-index l.ups));
}
