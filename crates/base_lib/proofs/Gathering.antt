-- What `max` and `min` gather, one argument at a time.
use Rattle.std.proofs.Common.{◌≡◌, ◌∙◌, ℕ, ℤ, suc, ◌+◌, ◌<◌, false, Some, None, List, ◌∷◌, length, drop, get_or, add-one, ap, sym, arith, refl}
use Rattle.std.proofs.Math.Seq.{drop-cons}
use Rattle.object_store.specs.declared.value.Value.{Value}
use Rattle.lua_ops.specs.Metamethods.{Texts, operand}
use Rattle.base_lib.specs.Base.{gathered, bad}

module _ (texts : Texts) (name : List ℕ) (better : ℤ → ℤ → ℤ) (best : ℤ) (i : ℕ) (values : List Value) (value : Value) (within : i < length values) (at : value ≡ get_or values i value) where
  at_item : drop i values ≡ value ∷ drop (i + 1) values
  at_item = rw add-one (drop-cons values i value within) ∙ ap (λ v. v ∷ drop (i + 1) values) (sym at)

  pub gathered-more : (n : ℤ) → operand texts false value ≡ Some n → gathered texts name better (i + 2) best (drop i values) ≡ gathered texts name better (i + 1 + 2) (better best n) (drop (i + 1) values)
  gathered-more n reads =
      let next : suc (i + 2) ≡ i + 1 + 2 = omega arith in
      ap (gathered texts name better (i + 2) best) at_item
      ∙ rw reads (ap (λ k. gathered texts name better k (better best n) (drop (i + 1) values)) next)

  pub gathered-bad : operand texts false value ≡ None → gathered texts name better (i + 2) best (drop i values) ≡ bad name (i + 2)
  gathered-bad reads = ap (gathered texts name better (i + 2) best) at_item ∙ rw reads refl
