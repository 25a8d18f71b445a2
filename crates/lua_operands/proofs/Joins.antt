-- What a concatenation does by what `lua_ops` answers.
use Rattle.std.proofs.Common.{◌≡◌, ◌⊎◌, inl, inr, ℕ, List, Result, Ok, Err, Option, Some, sym, ap, ◌∙◌}
use Rattle.std.specs.Result.{OnOk, OnErr}
use Rattle.object_store.specs.declared.value.Value.{Value}
use Rattle.object_store.specs.declared.fault.LuaFault.{LuaFault}
use Rattle.object_store.specs.Heap.{Shown}
use Rattle.lua_ops.specs.declared.step.Step.{Step}
use Rattle.lua_ops.specs.Metamethods.{Join, Text, Call}
use Rattle.lua_ops.specs.Joining.{answer_by, texts_by}
use Rattle.lanes_lib.specs.declared.ask.Ask.{Ask}
use Rattle.lanes_lib.specs.declared.ask.Answer.{Answer}
use Rattle.lua_meaning.specs.declared.fault.Site.{Site}
use Rattle.lua_meaning.specs.Run.{Run, World, Next, Point, Leads, wrote}
use Rattle.lua_meaning.specs.Level.{Loaded, Level}
use Rattle.lua_meaning.specs.Operate.{on_join, on_step}
use Rattle.lua_machine.specs.Does.{store_of}

module _ {H : Type 0} {asked : H → Ask → Answer → H → Type 0} (p : Loaded) (l : Level) (line : ℕ) (from : Site) (h : H) (left : ℕ) (s s1 : Shown) (step : Result Step LuaFault) (k : Next Value) (h2 : Point H) (r : Option Run) where
  pub joined : (j : Result Join LuaFault) → step ≡ answer_by s.texts j → OnOk step (s1.texts ≡ texts_by s.texts j) → s1.heap ≡ s.heap → OnErr step (s1 ≡ s) →
      Leads asked (h, store_of s1) (on_step p l line from step (record { store = store_of s1; left = left }) k) h2 r →
      Leads asked (h, store_of s) (on_join p l line from j (record { store = store_of s; left = left }) k) h2 r
  joined (Ok (Text t)) e tx hp er fin =
      let texts = rw e at tx in
      wrote (rw (e, texts, hp) at fin)
  joined (Ok (Call c)) e tx hp er fin =
      let texts = rw e at tx in
      rw (e, texts, hp) at fin
  joined (Err f) e tx hp er fin =
      let same = rw e at er in
      rw (e, same) at fin

-- one of two, where it isn't the other
pub the_first : {A B : Type 0} → A ⊎ B → (B → ⊥) → A
the_first (inl a) h = a
the_first (inr b) h = absurd (h b)
