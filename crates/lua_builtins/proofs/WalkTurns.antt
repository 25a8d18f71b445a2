-- What `pairs`, `ipairs_step` and `require` do, by their arguments.
use Rattle.std.proofs.Common.{◌≡◌, ◌∷◌, [], List, Some, None, Ok, refl, sym, ap, ◌∙◌, true, false, if◌then◌else◌, codes}
use Rattle.std.specs.Prelude.{slice_get, ℤ, pos, ◌+ℤ◌}
use Rattle.int_ops.specs.Wrapping.{wrapped}
use Rattle.object_store.specs.declared.event.Event.TheVariants as event
use Rattle.object_store.specs.declared.value.Value.{Value}
use Rattle.object_store.specs.declared.value.Value.TheVariants as V
use Rattle.object_store.specs.declared.fault.LuaFault.TheVariants as lua
use Rattle.object_store.specs.Value.{is_nil}
use Rattle.lua_ops.specs.Metamethods.{handler, operand}
use Rattle.base_lib.specs.Base.{argument}
use Rattle.lua_meaning.specs.declared.fault.Site.{Site}
use Rattle.lua_meaning.specs.Run.{World, Run, Next, and_then}
use Rattle.lua_meaning.specs.Level.{Loaded, Level}
use Rattle.lua_meaning.specs.Faults.{fault_at}
use Rattle.lua_meaning.specs.Operate.{index}
use Rattle.lua_meaning.specs.Library.{reading, inner, ipairs_step, item_values, pairs, pairs_by, pairs_of}
use Rattle.lua_builtins.specs.Parts.{called_three}
use Rattle.lua_builtins.proofs.Readings.{is_there, is_bad}

module _ (p : Loaded) (l : Level) (site : Site) where
  -- the values of a step of `ipairs`
  pub item_none : (i : ℤ) (v : Value) → is_nil v ≡ true → item_values p l site i v ≡ V.Nil ∷ []
  item_none i v e = ap (λ b. if b then V.Nil ∷ [] else V.Int i ∷ v ∷ []) e

  pub item_there : (i : ℤ) (v : Value) → is_nil v ≡ false → item_values p l site i v ≡ V.Int i ∷ v ∷ []
  item_there i v e = ap (λ b. if b then V.Nil ∷ [] else V.Int i ∷ v ∷ []) e

module _ (p : Loaded) (l : Level) (site : Site) (w : World) (k : Next (List Value)) where
  -- ---- ipairs

  abbrev pub item_next : ℤ → Value → World → Run
  item_next i v w = k (Ok (item_values p l site i v)) w

  module _ (args : List Value) where
    index_next : Value → ℤ → Run
    index_next t n = index p l site.line (inner p l site) t (V.Int (wrapped (n +ℤ pos 1))) w (and_then k (item_next (wrapped (n +ℤ pos 1))))

    step_next : Value → Run
    step_next t = reading p l site (Rattle.base_lib.specs.Base.or_bad (codes "ipairs_step") 2 (operand w.store.texts false (argument 2 args))) w k (index_next t)

    pub step_bad : slice_get args 0 ≡ None → ipairs_step p l site args w k ≡ fault_at p site.line (lua.BadArgument 1 (codes "ipairs_step")) w k
    unfolding step_next index_next
    step_bad e = is_bad p l site (codes "ipairs_step") 1 w k step_next (slice_get args 0) e

    pub step_bad_number : (t : Value) → slice_get args 0 ≡ Some t → operand w.store.texts false (argument 2 args) ≡ None → ipairs_step p l site args w k ≡ fault_at p site.line (lua.BadArgument 2 (codes "ipairs_step")) w k
    unfolding step_next index_next
    step_bad_number t e f = is_there p l site (codes "ipairs_step") 1 w k step_next (slice_get args 0) t e ∙ is_bad p l site (codes "ipairs_step") 2 w k (index_next t) (operand w.store.texts false (argument 2 args)) f

    pub step_goes : (t : Value) (n : ℤ) → slice_get args 0 ≡ Some t → operand w.store.texts false (argument 2 args) ≡ Some n → ipairs_step p l site args w k ≡ index p l site.line (inner p l site) t (V.Int (wrapped (n +ℤ pos 1))) w (and_then k (item_next (wrapped (n +ℤ pos 1))))
    unfolding step_next index_next
    step_goes t n e f = is_there p l site (codes "ipairs_step") 1 w k step_next (slice_get args 0) t e ∙ is_there p l site (codes "ipairs_step") 2 w k (index_next t) (operand w.store.texts false (argument 2 args)) n f

  -- ---- pairs

  pub pairs_other : (v : Value) → ((id : _) → v ≡ V.Table id → ⊥) → pairs_of p l site v w k ≡ fault_at p site.line (lua.BadArgument 1 (codes "pairs")) w k
  pairs_other V.Nil h = refl
  pairs_other V.False h = refl
  pairs_other V.True h = refl
  pairs_other (V.Int n) h = refl
  pairs_other (V.Str n) h = refl
  pairs_other (V.Table n) h = absurd (h n refl)
  pairs_other (V.Func n) h = refl
  pairs_other (V.Lib n) h = refl
  pairs_other (V.Linda n) h = refl
  pairs_other (V.Lane n) h = refl
  pairs_other (V.Light n) h = refl

  module _ (args : List Value) where
    pairs_next : Value → Run
    pairs_next v = pairs_by p l site (handler w.store.heap event.Pairs v) v w k

    pub pairs_bad : slice_get args 0 ≡ None → pairs p l site args w k ≡ fault_at p site.line (lua.BadArgument 1 (codes "pairs")) w k
    unfolding pairs_next
    pairs_bad e = is_bad p l site (codes "pairs") 1 w k pairs_next (slice_get args 0) e

    pub pairs_plain : (v h : Value) → slice_get args 0 ≡ Some v → h ≡ handler w.store.heap event.Pairs v → is_nil h ≡ true → pairs p l site args w k ≡ pairs_of p l site v w k
    unfolding pairs_next
    pairs_plain v h e is n = is_there p l site (codes "pairs") 1 w k pairs_next (slice_get args 0) v e ∙ ap (λ x. pairs_by p l site x v w k) (sym is) ∙ ap (λ b. if b then pairs_of p l site v w k else called_three p l site h v w k) n

    pub pairs_called : (v h : Value) → slice_get args 0 ≡ Some v → h ≡ handler w.store.heap event.Pairs v → is_nil h ≡ false → pairs p l site args w k ≡ called_three p l site h v w k
    unfolding pairs_next
    pairs_called v h e is n = is_there p l site (codes "pairs") 1 w k pairs_next (slice_get args 0) v e ∙ ap (λ x. pairs_by p l site x v w k) (sym is) ∙ ap (λ b. if b then pairs_of p l site v w k else called_three p l site h v w k) n
