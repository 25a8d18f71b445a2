-- Whether there may be more objects.
use Rattle.std.proofs.Common.{◌≡◌, ◌⊎◌, inl, inr, ◌&&◌, nat_le, ℕ, ◌+◌, ◌-◌, ◌^◌, ◌<◌, Bool, true, false, length, refl, arith}
use Rattle.std.proofs.lemmas.Bool.Decides.{nat_tests}
use Rattle.object_store.specs.Heap.{Heap}
use Rattle.lua_meaning.specs.Names.{has_numbers}

at_most : (n m : ℕ) → (m < n → ⊥) → nat_le n m ≡ true
at_most n m h = grind (arith, nat_tests)

above : (n m : ℕ) → m < n → nat_le n m ≡ false
above n m h = grind (arith, nat_tests)

none : (t c : Bool) → ((t && false) && c) ≡ false
none true c = refl
none false c = refl

neither : (t f : Bool) → ((t && f) && false) ≡ false
neither true true = refl
neither true false = refl
neither false f = refl

module _ (heap : Heap) (t f c : ℕ) where
  -- one of the kinds has too many
  abbrev pub IsFull : Type 0
  IsFull = (2 ^ 32 - 1 < length heap.tables + t) ⊎ (2 ^ 32 - 1 < length heap.functions + f) ⊎ (2 ^ 32 - 1 < length heap.cells + c)

  pub has_room : (IsFull → ⊥) → has_numbers heap t f c ≡ true
  has_room h =
      let et : nat_le (length heap.tables + t) (2 ^ 32 - 1) ≡ true = at_most _ _ (λ x. h (inl x)) in
      let ef : nat_le (length heap.functions + f) (2 ^ 32 - 1) ≡ true = at_most _ _ (λ x. h (inr (inl x))) in
      let ec : nat_le (length heap.cells + c) (2 ^ 32 - 1) ≡ true = at_most _ _ (λ x. h (inr (inr x))) in
      rw (et, ef, ec) refl

  pub has_none : IsFull → has_numbers heap t f c ≡ false
  has_none (inl x) = rw (above _ _ x) refl
  has_none (inr (inl x)) = rw (above _ _ x) (none (nat_le (length heap.tables + t) (2 ^ 32 - 1)) (nat_le (length heap.cells + c) (2 ^ 32 - 1)))
  has_none (inr (inr x)) = rw (above _ _ x) (neither (nat_le (length heap.tables + t) (2 ^ 32 - 1)) (nat_le (length heap.functions + f) (2 ^ 32 - 1)))
