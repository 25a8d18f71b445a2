-- Operators of two integers.
use Rattle.std.proofs.Common.{◌≡◌, ℕ, ℤ, Bool, true, false, not, Result, Ok, Err, Option, Some, None, refl, ap, ◌∙◌}
use Rattle.std.specs.Option.{unwrap_or}
use Rattle.std.proofs.lemmas.Option.{none-some}
use Rattle.lua_tree.specs.declared.operator.Binary.{Binary}
use Rattle.lua_tree.specs.declared.operator.Binary.TheVariants as B
use Rattle.object_store.specs.declared.value.Value.{Value}
use Rattle.object_store.specs.declared.value.Value.TheVariants as V
use Rattle.object_store.specs.declared.fault.LuaFault.{LuaFault}
use Rattle.object_store.specs.Value.{value_eq, value_of_bool}
use Rattle.lua_ops.specs.declared.step.Step.TheVariants as step
use Rattle.lua_ops.specs.declared.step.ArithOp.TheVariants as op
use Rattle.lua_ops.specs.declared.step.CompareOp.TheVariants as cmp
use Rattle.lua_ops.specs.Metamethods.{arith_step, compare_step, computed, integer_step, opposite}
use Rattle.lua_meaning.specs.declared.fault.Site.{Site}
use Rattle.lua_meaning.specs.Run.{Run, World, Next}
use Rattle.lua_meaning.specs.Level.{Loaded, Level}
use Rattle.lua_meaning.specs.Operate.{binary, on_compare, on_step}
use Rattle.lua_operands.specs.Plain.{integer_or_none, plain}

some_same : {A : Type 0} (a b : A) → Some a ≡ Some b → a ≡ b
some_same a b e = ap (λ o. unwrap_or o a) e

module _ (p : Loaded) (l : Level) (line : ℕ) (from : Site) (w : World) (k : Next Value) (v : Value) where
  gives : (u : Value) → Some u ≡ Some v → k (Ok u) w ≡ k (Ok v) w
  gives u e = ap (λ x. k (Ok x) w) (some_same u v e)

  number : (r : Result ℤ LuaFault) → integer_or_none r ≡ Some v → on_step p l line from (integer_step r) w k ≡ k (Ok v) w
  number (Ok n) e = gives (V.Int n) e
  number (Err fault) e = absurd (none-some _ e)

  differ : (b : Bool) → Some (value_of_bool (not b)) ≡ Some v → on_compare p l line from cmp.Ne (Ok (opposite (step.Raw (value_of_bool b)))) w k ≡ k (Ok v) w
  differ true e = gives V.False e
  differ false e = gives V.True e

  -- a plain operator gives its value, whatever the program, the level and the state
  pub plain_is : (o : Binary) (a b : ℤ) → plain o a b ≡ Some v → binary p l line from o (V.Int a) (V.Int b) w k ≡ k (Ok v) w
  unfolding arith_step compare_step
  plain_is B.Lt a b e = gives _ e
  plain_is B.Gt a b e = gives _ e
  plain_is B.Le a b e = gives _ e
  plain_is B.Ge a b e = gives _ e
  plain_is B.Ne a b e = differ (value_eq (V.Int a) (V.Int b)) e
  plain_is B.Eq a b e = gives _ e
  plain_is B.BitOr a b e = number (computed op.BitOr a b) e
  plain_is B.BitXor a b e = number (computed op.BitXor a b) e
  plain_is B.BitAnd a b e = number (computed op.BitAnd a b) e
  plain_is B.ShiftLeft a b e = number (computed op.ShiftLeft a b) e
  plain_is B.ShiftRight a b e = number (computed op.ShiftRight a b) e
  plain_is B.Concat a b e = absurd (none-some _ e)
  plain_is B.Add a b e = number (computed op.Add a b) e
  plain_is B.Sub a b e = number (computed op.Sub a b) e
  plain_is B.Mul a b e = number (computed op.Mul a b) e
  plain_is B.FloorDiv a b e = number (computed op.FloorDiv a b) e
  plain_is B.Mod a b e = number (computed op.Mod a b) e

  pub plain_two : (o : Binary) (x y : Value) (a b : ℤ) → x ≡ V.Int a → y ≡ V.Int b → plain o a b ≡ Some v → binary p l line from o x y w k ≡ k (Ok v) w
  plain_two o x y a b first second e =
      ap (λ x. binary p l line from o x y w k) first ∙ ap (λ y. binary p l line from o (V.Int a) y w k) second ∙ plain_is o a b e
