-- What `assert` and `error` do, by their arguments.
use Rattle.std.proofs.Common.{◌≡◌, ℕ, zero, suc, List, Option, Some, None, Ok, Err, refl, ap, ◌∙◌, true, false, if◌then◌else◌, codes}
use Rattle.std.specs.Prelude.{slice_get, ℤ}
use Rattle.object_store.specs.declared.value.Value.{Value}
use Rattle.object_store.specs.declared.value.Value.TheVariants as V
use Rattle.object_store.specs.declared.fault.LuaFault.TheVariants as lua
use Rattle.lua_ops.specs.Metamethods.{text_at}
use Rattle.base_lib.specs.Base.{argument, or_bad}
use Rattle.lua_meaning.specs.declared.fault.Fault.TheVariants as F
use Rattle.lua_meaning.specs.declared.fault.Site.{Site}
use Rattle.lua_meaning.specs.Run.{World, Run, Next}
use Rattle.lua_meaning.specs.Level.{Loaded, Level}
use Rattle.lua_meaning.specs.Names.{is_true}
use Rattle.lua_meaning.specs.Faults.{fault_at, raise_at}
use Rattle.lua_meaning.specs.Library.{reading, failed, assert, level_of, line_of, positioned, error}
use Rattle.lua_builtins.proofs.Readings.{is_there, is_bad}

module _ (p : Loaded) (l : Level) (site : Site) (w : World) (k : Next (List Value)) where
  -- ---- assert

  pub failed_other : (v : Value) → (v ≡ V.Nil → ⊥) → failed p l site v w k ≡ k (Err (F.Raised v)) w
  failed_other V.Nil h = absurd (h refl)
  failed_other V.False h = refl
  failed_other V.True h = refl
  failed_other (V.Int n) h = refl
  failed_other (V.Str n) h = refl
  failed_other (V.Table n) h = refl
  failed_other (V.Func n) h = refl
  failed_other (V.Lib n) h = refl
  failed_other (V.Linda n) h = refl
  failed_other (V.Lane n) h = refl
  failed_other (V.Light n) h = refl

  module _ (args : List Value) where
    assert_next : Value → Run
    assert_next v = if is_true v then k (Ok args) w else failed p l site (argument 2 args) w k

    pub assert_bad : slice_get args 0 ≡ None → assert p l site args w k ≡ fault_at p site.line (lua.BadArgument 1 (codes "assert")) w k
    unfolding assert_next
    assert_bad e = is_bad p l site (codes "assert") 1 w k assert_next (slice_get args 0) e

    pub assert_true : (v : Value) → slice_get args 0 ≡ Some v → is_true v ≡ true → assert p l site args w k ≡ k (Ok args) w
    unfolding assert_next
    assert_true v e t = is_there p l site (codes "assert") 1 w k assert_next (slice_get args 0) v e ∙ ap (λ b. if b then k (Ok args) w else failed p l site (argument 2 args) w k) t

    pub assert_false : (v : Value) → slice_get args 0 ≡ Some v → is_true v ≡ false → assert p l site args w k ≡ failed p l site (argument 2 args) w k
    unfolding assert_next
    assert_false v e t = is_there p l site (codes "assert") 1 w k assert_next (slice_get args 0) v e ∙ ap (λ b. if b then k (Ok args) w else failed p l site (argument 2 args) w k) t

  -- ---- error

  pub positioned_none : (n : ℕ) (v : Value) → n ≡ 0 → positioned p l site n v w k ≡ k (Err (F.Raised v)) w
  positioned_none n v e = ap (λ n. positioned p l site n v w k) e

  pub positioned_string : (n : ℕ) (id : _) → (n ≡ 0 → ⊥) → positioned p l site n (V.Str id) w k ≡ raise_at p n (text_at w.store.texts id.number) w k
  positioned_string zero id h = absurd (h refl)
  positioned_string (suc n) id h = refl

  pub positioned_other : (n : ℕ) (v : Value) → ((id : _) → v ≡ V.Str id → ⊥) → positioned p l site n v w k ≡ k (Err (F.Raised v)) w
  positioned_other zero v h = refl
  positioned_other (suc m) V.Nil h = refl
  positioned_other (suc m) V.False h = refl
  positioned_other (suc m) V.True h = refl
  positioned_other (suc m) (V.Int n) h = refl
  positioned_other (suc m) (V.Str n) h = absurd (h n refl)
  positioned_other (suc m) (V.Table n) h = refl
  positioned_other (suc m) (V.Func n) h = refl
  positioned_other (suc m) (V.Lib n) h = refl
  positioned_other (suc m) (V.Linda n) h = refl
  positioned_other (suc m) (V.Lane n) h = refl
  positioned_other (suc m) (V.Light n) h = refl

  module _ (args : List Value) where
    error_at : Value → ℤ → Run
    error_at v n = positioned p l site (line_of p l site n) v w k

    error_next : Value → Run
    error_next v = reading p l site (level_of p l site w args) w k (error_at v)

    pub error_bad : slice_get args 0 ≡ None → error p l site args w k ≡ fault_at p site.line (lua.BadArgument 1 (codes "error")) w k
    unfolding error_next error_at
    error_bad e = is_bad p l site (codes "error") 1 w k error_next (slice_get args 0) e

    pub error_bad_level : (v : Value) (o : Option ℤ) → slice_get args 0 ≡ Some v → level_of p l site w args ≡ or_bad (codes "error") 2 o → o ≡ None → error p l site args w k ≡ fault_at p site.line (lua.BadArgument 2 (codes "error")) w k
    unfolding error_next error_at
    error_bad_level v o e f g = is_there p l site (codes "error") 1 w k error_next (slice_get args 0) v e ∙ ap (λ x. reading p l site x w k (error_at v)) f ∙ is_bad p l site (codes "error") 2 w k (error_at v) o g

    pub error_goes : (v : Value) (o : Option ℤ) (n : ℤ) → slice_get args 0 ≡ Some v → level_of p l site w args ≡ or_bad (codes "error") 2 o → o ≡ Some n → error p l site args w k ≡ positioned p l site (line_of p l site n) v w k
    unfolding error_next error_at
    error_goes v o n e f g = is_there p l site (codes "error") 1 w k error_next (slice_get args 0) v e ∙ ap (λ x. reading p l site x w k (error_at v)) f ∙ is_there p l site (codes "error") 2 w k (error_at v) o n g
