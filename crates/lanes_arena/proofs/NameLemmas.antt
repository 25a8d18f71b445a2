-- Texts that are kept as the parts f of other values.
use Rattle.std.proofs.Common.{inl, inr, ◌≡◌, ◌∙◌, ℕ, ◌+◌, ◌<◌, suc, slice_get, get_or, arith, Decides, Bool, true, false, cond, not, if◌then◌else◌, nat_lt, List, [], ◌∷◌, ◌++◌, map, length, position, Option, None, Some, IsSome, refl, ap, sym, subst, true≢false, ◌||◌}
use Rattle.std.specs.List.{list_any, position_or_len, IsDistinct, AllByRecursion}
use Rattle.std.specs.Option.{unwrap_or}
use Rattle.std.specs.Str.{bytes_eq}
use Rattle.std.proofs.lemmas.Option.{none-some, slice_get_within, get_or_from_slice_get, slice_get-get_or}
use Rattle.std.proofs.lemmas.List.Sums.{passes_at_first}
use borrow.Author.Tests.{ltb-true, ltb-false}
use Rattle.std.proofs.lemmas.Slice.Eq.{bytes_eq-Decides}
use Rattle.std.proofs.lemmas.Map.Made.{AllPairs-from_IsDistinct}
use Rattle.std.proofs.Math.ListN.{length-map}
use Rattle.std.proofs.Math.Nat.{eq-or-lt_of_le}
use Rattle.indexmap.specs.IndexSet.{insert_key}
use Rattle.lanes_arena.specs.Names.{named, number_of, found}

module _ {A : Type 0} (f : A → List ℕ) where
  position_or_len-map : (p : List ℕ → Bool) (ks : List A) → position_or_len p (map f ks) ≡ position_or_len (λ k. p (f k)) ks
  position_or_len-map p [] = refl
  position_or_len-map p (k ∷ ks) = ap (λ n. cond (not (p (f k))) (1 + n) 0) (position_or_len-map p ks)

  position-map : (p : List ℕ → Bool) (ks : List A) → position p (map f ks) ≡ position (λ k. p (f k)) ks
  position-map p ks = λ j. cond (nat_lt (position_or_len-map p ks j) (length-map ks f j)) (Some (position_or_len-map p ks j)) None

  list_any-map : (p : List ℕ → Bool) (ks : List A) → list_any p (map f ks) ≡ list_any (λ k. p (f k)) ks
  list_any-map p [] = refl
  list_any-map p (k ∷ ks) = ap (λ b. p (f k) || b) (list_any-map p ks)

  map-push : (ks : List A) (k : A) → map f (ks ++ k ∷ []) ≡ map f ks ++ f k ∷ []
  map-push [] k = refl
  map-push (x ∷ ks) k = ap (λ l. f x ∷ l) (map-push ks k)

  AllByRecursion-map : (P : List ℕ → Type 0) (ks : List A) → AllByRecursion (λ k. P (f k)) ks → AllByRecursion P (map f ks)
  AllByRecursion-map P [] h = tt
  AllByRecursion-map P (k ∷ ks) h = (h.0, AllByRecursion-map P ks h.1)

  -- keys that differ in their texts have distinct texts
  pub IsDistinct-map : (ks : List A) → IsDistinct (λ a b. bytes_eq (f a) (f b)) ks → IsDistinct bytes_eq (map f ks)
  unfolding IsDistinct
  IsDistinct-map [] h = tt
  IsDistinct-map (k ∷ ks) h = (AllByRecursion-map (λ t. bytes_eq (f k) t ≡ false) ks h.0, IsDistinct-map ks h.1)

  pub found_is : (ks : List A) (texts : List (List ℕ)) (text : List ℕ) (r : Option ℕ) → map f ks ≡ texts → r ≡ position (λ k. bytes_eq text (f k)) ks → r ≡ found texts text
  found_is ks texts text r shown at = at ∙ sym (position-map (bytes_eq text) ks) ∙ ap (λ l. found l text) shown

  place_is : (t : A → Bool) (ks : List A) (i : ℕ) → Some i ≡ position t ks → i ≡ position_or_len t ks
  place_is t ks i h = by (nat_lt (position_or_len t ks) (length ks)) h
    where
      by : (b : Bool) → Some i ≡ cond b (Some (position_or_len t ks)) None → i ≡ position_or_len t ks
      by true j = ap (λ r. unwrap_or r i) j
      by false j = absurd (none-some _ (sym j))

  pub number_there : (ks : List A) (texts : List (List ℕ)) (text : List ℕ) (i : ℕ) → map f ks ≡ texts → Some i ≡ position (λ k. bytes_eq text (f k)) ks → i ≡ number_of texts text
  number_there ks texts text i shown at = place_is _ ks i at ∙ sym (position_or_len-map (bytes_eq text) ks) ∙ ap (λ l. number_of l text) shown

  pub named_there : (ks : List A) (texts : List (List ℕ)) (text : List ℕ) → map f ks ≡ texts → true ≡ list_any (λ k. bytes_eq text (f k)) ks → texts ≡ named texts text
  named_there ks texts text shown there =
      sym (ap (λ b. if b then texts else texts ++ text ∷ []) (ap (list_any (bytes_eq text)) (sym shown) ∙ list_any-map (bytes_eq text) ks ∙ sym there))

  module _ (ks : List A) (texts : List (List ℕ)) (text : List ℕ) (shown : map f ks ≡ texts) (k : A) (same : f k ≡ text) where
    pub number_new : (i : ℕ) → i ≡ position_or_len (λ j. bytes_eq (f k) (f j)) ks → i ≡ number_of texts text
    number_new i at = at ∙ ap (λ t. position_or_len (λ j. bytes_eq t (f j)) ks) same ∙ sym (position_or_len-map (bytes_eq text) ks) ∙ ap (λ l. number_of l text) shown

    pub named_new : (js : List A) → js ≡ insert_key (λ a b. bytes_eq (f a) (f b)) ks k → map f js ≡ named texts text
    named_new js made = ap (map f) made ∙ by (list_any (λ j. bytes_eq (f k) (f j)) ks) ∙ ap (λ b. if b then map f ks else map f ks ++ f k ∷ []) (sym (list_any-map (bytes_eq (f k)) ks)) ∙ ap (λ t. named (map f ks) t) same ∙ ap (λ l. named l text) shown
      where
        by : (b : Bool) → map f (if b then ks else ks ++ k ∷ []) ≡ (if b then map f ks else map f ks ++ f k ∷ [])
        by true = refl
        by false = map-push ks k

position_within : (texts : List (List ℕ)) (text : List ℕ) (i : ℕ) → Some i ≡ found texts text → (i ≡ number_of texts text) × (number_of texts text < length texts)
position_within texts text i h = by (nat_lt (number_of texts text) (length texts)) refl h
  where
    by : (b : Bool) → nat_lt (number_of texts text) (length texts) ≡ b → Some i ≡ cond b (Some (number_of texts text)) None → (i ≡ number_of texts text) × (number_of texts text < length texts)
    by true below j = (ap (λ r. unwrap_or r i) j, ltb-true (number_of texts text) (length texts) below)
    by false below j = absurd (none-some _ (sym j))

-- a text that is held is at its number
pub held_text : (texts : List (List ℕ)) (text : List ℕ) (i : ℕ) → Some i ≡ found texts text → slice_get texts i ≡ Some text
held_text texts text i h =
    let within = position_within texts text i h in
    ap (slice_get texts) within.0 ∙ slice_get-get_or texts (number_of texts text) text within.1
    ∙ ap Some (sym ((bytes_eq-Decides text (get_or texts (number_of texts text) text)).0 (passes_at_first (bytes_eq text) texts text within.1)))

-- a text that was just named is at its number
pub named_text : (texts : List (List ℕ)) (text : List ℕ) → slice_get (named texts text) (number_of texts text) ≡ Some text
named_text [] text = refl
named_text (t ∷ ts) text = by (bytes_eq text t) (bytes_eq-Decides text t) (named_text ts text)
  where
    more : (b : Bool) → (if b then t ∷ ts else (t ∷ ts) ++ text ∷ []) ≡ t ∷ (if b then ts else ts ++ text ∷ [])
    more true = refl
    more false = refl

    by : (b : Bool) → Decides b (text ≡ t) → slice_get (named ts text) (number_of ts text) ≡ Some text
        → slice_get (if b || list_any (bytes_eq text) ts then t ∷ ts else (t ∷ ts) ++ text ∷ []) (cond (not b) (1 + number_of ts text) 0) ≡ Some text
    by true same rest = ap Some (sym (same.0 refl))
    by false same rest = ap (λ l. slice_get l (1 + number_of ts text)) (more (list_any (bytes_eq text) ts)) ∙ ap (slice_get (t ∷ named ts text)) (one_more (number_of ts text)) ∙ rest
      where
        one_more : (n : ℕ) → 1 + n ≡ suc n
        one_more n = omega arith

same_number : (i j : ℕ) → (i < j → ⊥) → (j < i → ⊥) → i ≡ j
same_number i j up down = by (nat_lt i j) refl
  where
    by : (b : Bool) → nat_lt i j ≡ b → i ≡ j
    by true h = absurd (up (ltb-true i j h))
    by false h = elim (eq-or-lt_of_le (ltb-false i j h)) [ inl e ↦ sym e | inr below ↦ absurd (down below) ]

-- two numbers of one text are one number
pub one_number : (texts : List (List ℕ)) (i j : ℕ) (text : List ℕ) → IsDistinct bytes_eq texts → slice_get texts i ≡ Some text → slice_get texts j ≡ Some text → i ≡ j
one_number texts i j text distinct at_i at_j =
    let apart = AllPairs-from_IsDistinct bytes_eq-Decides texts distinct in
    same_number i j
    (λ h. apart i j text h (slice_get_within texts j text at_j) (get_or_from_slice_get texts i text text at_i ∙ sym (get_or_from_slice_get texts j text text at_j)))
    (λ h. apart j i text h (slice_get_within texts i text at_i) (get_or_from_slice_get texts j text text at_j ∙ sym (get_or_from_slice_get texts i text text at_i)))

-- a new text is at its number
pub held_new : (texts : List (List ℕ)) (text : List ℕ) (news : List (List ℕ)) (i : ℕ) → news ≡ named texts text → i ≡ number_of texts text → slice_get news i ≡ Some text
held_new texts text news i made at = ap (λ l. slice_get l i) made ∙ ap (slice_get (named texts text)) at ∙ named_text texts text

-- a text that was not found is not held
pub not_held : (r q : Option ℕ) → ((i : ℕ) → r ≡ Some i → ⊥) → r ≡ q → IsSome q → ⊥
not_held r q none same there = by r none (subst IsSome (sym same) there)
  where
    by : (r : Option ℕ) → ((i : ℕ) → r ≡ Some i → ⊥) → IsSome r → ⊥
    by None h some = true≢false (sym some)
    by (Some i) h some = h i refl
