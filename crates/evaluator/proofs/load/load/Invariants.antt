use Rattle.std.proofs.Common.{◌≡◌, Some, drop, take, map}
use Rattle.lua_meaning.specs.Run.{Run, Leads}
use Rattle.lua_meaning.specs.Whole.{interning, with_texts, key_of}
use Rattle.lua_machine.specs.Does.{point, store_of}
use Rattle.evaluator.proofs.Texts.{Held}
use Rattle.evaluator.proofs.load.load.Given as goal

abbrev pub invariant-loop-text : goal.invariant-loop-text
invariant-loop-text g l = record {
  leads : (next : Run) → Leads g.H.Host.asked (point l.fn.m) (interning l.texts (store_of l.fn.m.state) next) (point l.m) (Some (interning (drop l.text-index l.texts) (store_of l.m.state) next));
  store : with_texts (store_of l.m.state) (drop l.text-index l.texts) ≡ with_texts (store_of l.fn.m.state) l.texts;
  keys : l.keys.items ≡ map (key_of l.m.state.texts) (take l.text-index l.texts);
  held : Held l.m.state.texts (take l.text-index l.texts);
  rest : l.m ≡ record l.fn.m { state = l.m.state };
}
