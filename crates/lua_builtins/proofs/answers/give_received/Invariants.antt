use Rattle.std.proofs.Common.{◌∷◌, Some, drop}
use Rattle.lanes_lib.specs.Face.{Gives, key_piece, item_pieces}
use Rattle.lua_meaning.specs.Run.{Leads, Next}
use Rattle.lua_meaning.specs.Level.{Level}
use Rattle.lua_meaning.specs.Library.{took, placed}
use Rattle.object_store.specs.declared.value.Value.{Value}
use Rattle.std.specs.Prelude.{List}
use Rattle.lua_machine.specs.Does.{Above, world, point}
use Rattle.lua_builtins.proofs.answers.give_received.Given as goal

abbrev pub invariant-loop-item : goal.invariant-loop-item
invariant-loop-item g l = record {
  goes : (v : Level) (k : Next (List Value)) → Leads g.H.Host.asked (point l.fn.m) (took l.p v l.site (Gives (key_piece l.key ∷ item_pieces l.items)) (world l.fn.m) k) (point l.m) (Some (placed l.p v l.site (drop l.at l.m.stack.values) (item_pieces (drop l.item-index l.items)) (world l.m) k));
  above : Above l.at l.fn.m.stack l.m.stack;
}
