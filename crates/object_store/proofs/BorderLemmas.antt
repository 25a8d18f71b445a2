-- The border_of of a list of pairs.
use Rattle.std.proofs.Common.{◌≡◌, ◌≢◌, ◌∙◌, ℕ, ℤ, zero, suc, ◌+◌, ◌<◌, ◌≤◌, ◌⊎◌, inl, inr, pos, Bool, true, false, cond, if◌then◌else◌, List, [], ◌∷◌, length, Option, None, Some, is_some, refl, ap, sym, subst, arith, true≢false, below_more}
use Rattle.std.proofs.Math.Nat.{eq-or-lt_of_le}
use Rattle.std.specs.Map.{lookup, remove_entry}
use Rattle.std.specs.Option.{unwrap_or}
use Rattle.object_store.specs.declared.value.Value.{Value}
use Rattle.object_store.specs.declared.value.Value.TheVariants.{Nil, False, True, Int, Str, Table, Lib, Linda, Light, Func, Lane}
use Rattle.object_store.specs.Value.{value_eq, is_nil}
use Rattle.object_store.specs.Pairs.{get_pair, IsFullTo, IsBorder, IsBorderAt, border_from, border_of}
use Rattle.object_store.proofs.ValueLemmas.{value_eq-Decides}

-- the k-th integer key, from 0
abbrev nth : ℕ → Value
nth k = Int (pos (k + 1))

not_true : (b : Bool) → (b ≡ true → ⊥) → b ≡ false
not_true true h = absurd (h refl)
not_true false h = refl

pub nil_from_is_nil : (v : Value) → is_nil v ≡ true → v ≡ Nil
nil_from_is_nil Nil h = refl
nil_from_is_nil False h = absurd (true≢false (sym h))
nil_from_is_nil True h = absurd (true≢false (sym h))
nil_from_is_nil (Int _) h = absurd (true≢false (sym h))
nil_from_is_nil (Str _) h = absurd (true≢false (sym h))
nil_from_is_nil (Table _) h = absurd (true≢false (sym h))
nil_from_is_nil (Lib _) h = absurd (true≢false (sym h))
nil_from_is_nil (Func _) h = absurd (true≢false (sym h))
nil_from_is_nil (Lane _) h = absurd (true≢false (sym h))
nil_from_is_nil (Linda _) h = absurd (true≢false (sym h))
nil_from_is_nil (Light _) h = absurd (true≢false (sym h))

pub live_from_is_nil : (v : Value) → is_nil v ≡ false → v ≢ Nil
live_from_is_nil v h e = true≢false (sym (ap is_nil e) ∙ h)

integer : Value → ℕ
integer (Int (pos n)) = n
integer _ = 0

pub nth-injective : (j k : ℕ) → nth j ≡ nth k → j ≡ k
unfolding integer
nth-injective j k e = let h : j + 1 ≡ k + 1 = ap integer e in omega (arith, h)

pub other_key : (a b : Value) → a ≢ b → value_eq a b ≡ false
other_key a b ne = not_true _ (λ h. ne ((value_eq-Decides a b).0 h))

-- a pair taken out leaves what other keys have
lookup-remove_other : (k q : Value) (es : List (Value × Value)) → k ≢ q → lookup (value_eq q) (remove_entry (value_eq k) es) ≡ lookup (value_eq q) es
lookup-remove_other k q [] ne = refl
lookup-remove_other k q (e ∷ es) ne = by (value_eq k e.0) refl (lookup-remove_other k q es ne)
  where
    by : (b : Bool) → value_eq k e.0 ≡ b → lookup (value_eq q) (remove_entry (value_eq k) es) ≡ lookup (value_eq q) es
        → lookup (value_eq q) (cond b es (e ∷ remove_entry (value_eq k) es)) ≡ cond (value_eq q e.0) (Some e.1) (lookup (value_eq q) es)
    by true h rest =
        let same : k ≡ e.0 = (value_eq-Decides k e.0).0 h in
        sym (ap (λ b. cond b (Some e.1) (lookup (value_eq q) es)) (other_key q e.0 (λ j. ne (same ∙ sym j))))
    by false h rest = ap (λ r. cond (value_eq q e.0) (Some e.1) r) rest

length-remove_there : (k : Value) (es : List (Value × Value)) → is_some (lookup (value_eq k) es) ≡ true → length (remove_entry (value_eq k) es) + 1 ≡ length es
length-remove_there k [] h = absurd (true≢false (sym h))
length-remove_there k (e ∷ es) h = by (value_eq k e.0) h (length-remove_there k es)
  where
    by : (b : Bool) → is_some (cond b (Some e.1) (lookup (value_eq k) es)) ≡ true → (is_some (lookup (value_eq k) es) ≡ true → length (remove_entry (value_eq k) es) + 1 ≡ length es)
        → length (cond b es (e ∷ remove_entry (value_eq k) es)) + 1 ≡ length (e ∷ es)
    by true h rest = omega arith
    by false h rest = let r = rest h in omega (arith, r)

there_from_live : (k : Value) (es : List (Value × Value)) → get_pair es k ≢ Nil → is_some (lookup (value_eq k) es) ≡ true
there_from_live k es live = by (lookup (value_eq k) es) live
  where
    by : (r : Option Value) → unwrap_or r Nil ≢ Nil → is_some r ≡ true
    by None h = absurd (h refl)
    by (Some v) h = refl

-- a table has_pair at least as many pairs as integers from 1 on without a gap
pub full-le-length : (n : ℕ) (es : List (Value × Value)) → IsFullTo es n → n ≤ length es
full-le-length zero es full = omega arith
full-le-length (suc n) es full =
    let rest = remove_entry (value_eq (nth n)) es in
    let shorter = length-remove_there (nth n) es (there_from_live (nth n) es (full n (omega arith))) in
    let below : IsFullTo rest n = λ k h e. full k (omega (arith, h)) (sym (ap (λ r. unwrap_or r Nil) (lookup-remove_other (nth n) (nth k) es (λ j. let s = nth-injective n k j in omega (arith, h, s)))) ∙ e) in
    let held = full-le-length n rest below in
    omega (arith, shorter, held)

pub full-more : (es : List (Value × Value)) (n : ℕ) → IsFullTo es n → is_nil (get_pair es (nth n)) ≡ false → IsFullTo es (n + 1)
full-more es n full live = below_more _ _ full (live_from_is_nil _ live)

-- past the greatest key there is none
pub border_at_max : (es : List (Value × Value)) (n : ℕ) → IsFullTo es n → length es ≤ n → IsBorder es n
border_at_max es n full small = record {
  full = full;
  ends = nil_from_is_nil _ (by (is_nil (get_pair es (nth n))) refl);
}
  where
    by : (b : Bool) → is_nil (get_pair es (nth n)) ≡ b → b ≡ true
    by true h = refl
    by false h = let more = full-le-length (n + 1) es (full-more es n full h) in absurd (omega (arith, more, small))

module _ (es fs : List (Value × Value)) (key v : Value) (n : ℕ) (reads : (q : Value) → get_pair fs q ≡ (if value_eq key q then v else get_pair es q)) (held : IsBorder es n) where
  same : (q : Value) → key ≢ q → get_pair fs q ≡ get_pair es q
  same q ne = reads q ∙ ap (λ b. if b then v else get_pair es q) (other_key key q ne)

  -- a live value that is set_pair leaves no gap below
  pub full-store : is_nil v ≡ false → IsFullTo fs n
  full-store live k h e = by (value_eq key (nth k)) (sym (reads (nth k)) ∙ e)
    where
      by : (b : Bool) → (if b then v else get_pair es (nth k)) ≡ Nil → ⊥
      by true j = live_from_is_nil v live j
      by false j = held.full k h j

  pub ends-store : key ≢ nth n → get_pair fs (nth n) ≡ Nil
  ends-store ne = same (nth n) ne ∙ held.ends

  -- a value that is cleared
  pub border-clear : v ≡ Nil → (m : ℕ) → ((m < n) × (key ≡ nth m)) ⊎ ((m ≡ n) × ((k : ℕ) → k < n → key ≢ nth k)) → IsBorder fs m
  border-clear nil m (inl at) = record {
    full = λ k h e. held.full k (omega (arith, h, at.0)) (sym (same (nth k) (λ j. let s = nth-injective m k (sym at.1 ∙ j) in omega (arith, h, s))) ∙ e);
    ends = reads (nth m) ∙ ap (λ b. if b then v else get_pair es (nth m)) ((value_eq-Decides key (nth m)).1 at.1) ∙ nil;
  }
  border-clear nil m (inr off) = subst (IsBorder fs) (sym off.0) (record {
    full = λ k h e. held.full k h (sym (same (nth k) (off.1 k h)) ∙ e);
    ends = by (value_eq key (nth n)) refl;
  })
    where
      by : (b : Bool) → value_eq key (nth n) ≡ b → get_pair fs (nth n) ≡ Nil
      by true h = reads (nth n) ∙ ap (λ b. if b then v else get_pair es (nth n)) h ∙ nil
      by false h = reads (nth n) ∙ ap (λ b. if b then v else get_pair es (nth n)) h ∙ held.ends

-- `Nil` is not a key that is named
pub nil_other : (k : Value) → is_nil k ≡ false → value_eq Nil k ≡ false
nil_other k h = other_key Nil k (λ e. live_from_is_nil k h (sym e))

not_below : (m n : ℕ) → m ≤ n → (m < n → ⊥) → m ≡ n
not_below m n low not = elim (eq-or-lt_of_le low) [ inl e ↦ e | inr h ↦ absurd (not h) ]

above_from : (m n : ℕ) → m ≤ n → (m ≡ n → ⊥) → m + 1 ≤ n
above_from m n low not = elim (eq-or-lt_of_le low) [ inl e ↦ absurd (not e) | inr h ↦ omega (arith, h) ]

-- the border_of that is searched for is the only one
border_from_is : (es : List (Value × Value)) (n : ℕ) → IsBorder es n → (fuel m : ℕ) → m ≤ n → n ≤ m + fuel → border_from es fuel m ≡ n
border_from_is es n held zero m low high = omega (arith, low, high)
border_from_is es n held (suc fuel) m low high = by (is_nil (get_pair es (nth m))) refl (border_from_is es n held fuel (m + 1))
  where
    by : (b : Bool) → is_nil (get_pair es (nth m)) ≡ b → (m + 1 ≤ n → n ≤ m + 1 + fuel → border_from es fuel (m + 1) ≡ n) → (if b then m else border_from es fuel (m + 1)) ≡ n
    by true h rest = not_below m n low (λ below. held.full m below (nil_from_is_nil _ h))
    by false h rest = let above : m + 1 ≤ n = above_from m n low (λ e. live_from_is_nil _ h (ap (λ k. get_pair es (nth k)) e ∙ held.ends)) in rest above (omega (arith, high))

pub border_is : (es : List (Value × Value)) (n : ℕ) → IsBorder es n → n ≡ border_of es
border_is es n held = sym (border_from_is es n held (length es) 0 (omega arith) (let w = full-le-length n es held.full in omega (arith, w)))

border_from_holds : (es : List (Value × Value)) (fuel m : ℕ) → IsFullTo es m → length es ≤ m + fuel → IsBorder es (border_from es fuel m)
border_from_holds es zero m full all = border_at_max es m full (omega (arith, all))
border_from_holds es (suc fuel) m full all = by (is_nil (get_pair es (nth m))) refl (border_from_holds es fuel (m + 1))
  where
    by : (b : Bool) → is_nil (get_pair es (nth m)) ≡ b → (IsFullTo es (m + 1) → length es ≤ m + 1 + fuel → IsBorder es (border_from es fuel (m + 1))) → IsBorder es (if b then m else border_from es fuel (m + 1))
    by true h rest = record { full = full; ends = nil_from_is_nil _ h }
    by false h rest = rest (full-more es m full h) (omega (arith, all))

-- and it is one
pub border_holds : (es : List (Value × Value)) → IsBorder es (border_of es)
border_holds es = border_from_holds es (length es) 0 (λ k h. absurd (omega (arith, h))) (omega arith)

-- the integer that `Table::border` answers
pub border_at_is : (es : List (Value × Value)) (at : ℤ) → IsBorderAt es at → at ≡ pos (border_of es)
border_at_is es at held = held.is_number ∙ ap pos (border_is es held.number held.is_border)
