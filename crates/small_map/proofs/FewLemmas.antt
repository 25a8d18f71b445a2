-- Look-ups in pairs that lie in two lists, one after the other.
use Rattle.std.proofs.Common.{◌≡◌, ◌∙◌, ℕ, suc, ◌+◌, ◌<◌, ◌≤◌, Bool, true, false, cond, not, nat_lt, List, [], ◌∷◌, ◌++◌, length, get_or, slice_get, slice_set, position, Option, None, Some, refl, ap, sym, arith, drop, append_assoc, add-one, if◌then◌else◌, subst, lt-ltb, le-ltb, OnSome}
use borrow.Author.Tests.{ltb-true, ltb-false}
use Rattle.std.specs.List.{position_or_len, IsDistinct}
use Rattle.std.specs.Map.{lookup, set_value, keys_of}
use Rattle.std.specs.Option.{option_map}
use Rattle.std.proofs.lemmas.Option.{none-some, same_Some, slice_get_within, get_or_from_slice_get}
use Rattle.std.proofs.Math.Seq.{drop-cons}
use Rattle.std.specs.Cmp.{IsEquivalence}
use Rattle.indexmap.specs.IndexMap.{insert_entry}
use Rattle.indexmap.proofs.MapLemmas.{absent_before}

-- a place counted from one further
some_next : (n m k : ℕ) → k ≡ suc m → cond (nat_lt k (suc n)) (Some k) None ≡ option_map suc (cond (nat_lt m n) (Some m) None)
some_next n m k same = by (nat_lt m n) refl
  where
    by : (b : Bool) → nat_lt m n ≡ b → cond (nat_lt k (suc n)) (Some k) None ≡ option_map suc (cond b (Some m) None)
    by true h =
        let below : m < n = ltb-true m n h in
        let more : k < suc n = omega (arith, below, same) in
        ap (λ c. cond c (Some k) None) (lt-ltb k (suc n) more) ∙ ap Some same
    by false h =
        let over : n ≤ m = ltb-false m n h in
        let more : suc n ≤ k = omega (arith, over, same) in
        ap (λ c. cond c (Some k) None) (le-ltb k (suc n) more)

some_first : (n : ℕ) → cond {A = Option ℕ} (nat_lt 0 (suc n)) (Some 0) None ≡ Some 0
some_first n = let more : 0 < suc n = omega arith in ap (λ c. cond {A = Option ℕ} c (Some 0) None) (lt-ltb 0 (suc n) more)

module _ {K V : Type 0} (t : K → Bool) where
  -- the place of the first pair whose key passes
  pub spot : List (K × V) → Option ℕ
  spot [] = None
  spot (e ∷ es) = cond (t e.0) (Some 0) (option_map suc (spot es))

  pub spot_is : (es : List (K × V)) → position (λ e. t e.0) es ≡ spot es
  unfolding spot
  spot_is [] = refl
  spot_is (e ∷ es) = by (t e.0) (spot_is es)
    where
      by : (b : Bool) → position (λ p. t p.0) es ≡ spot es
          → cond (nat_lt (cond (not b) (1 + position_or_len (λ p. t p.0) es) 0) (suc (length es))) (Some (cond (not b) (1 + position_or_len (λ p. t p.0) es) 0)) None ≡ cond b (Some 0) (option_map suc (spot es))
      by true rest = some_first (length es)
      by false rest = some_next (length es) (position_or_len (λ p. t p.0) es) _ (omega arith) ∙ ap (option_map suc) rest

  pub key_spot_is : (es : List (K × V)) → position t (keys_of es) ≡ spot es
  unfolding spot
  key_spot_is [] = refl
  key_spot_is (e ∷ es) = by (t e.0) (key_spot_is es)
    where
      by : (b : Bool) → position t (keys_of es) ≡ spot es
          → cond (nat_lt (cond (not b) (1 + position_or_len t (keys_of es)) 0) (suc (length (keys_of es)))) (Some (cond (not b) (1 + position_or_len t (keys_of es)) 0)) None ≡ cond b (Some 0) (option_map suc (spot es))
      by true rest = some_first (length (keys_of es))
      by false rest = some_next (length (keys_of es)) (position_or_len t (keys_of es)) _ (omega arith) ∙ ap (option_map suc) rest

  pub lookup_there : (es fs : List (K × V)) (i : ℕ) (d : K × V) → spot es ≡ Some i → Some ((get_or es i d).1) ≡ lookup t (es ++ fs)
  unfolding spot
  lookup_there [] fs i d h = absurd (none-some _ h)
  lookup_there (e ∷ es) fs i d h = by (t e.0) (spot es) h (lookup_there es fs)
    where
      by : (b : Bool) (r : Option ℕ) → cond b (Some 0) (option_map suc r) ≡ Some i → ((j : ℕ) (c : K × V) → r ≡ Some j → Some ((get_or es j c).1) ≡ lookup t (es ++ fs))
          → Some ((get_or (e ∷ es) i d).1) ≡ cond b (Some e.1) (lookup t (es ++ fs))
      by true r j rest = ap (λ n. Some ((get_or (e ∷ es) n d).1)) (sym (same_Some _ _ j))
      by false None j rest = absurd (none-some _ j)
      by false (Some m) j rest = ap (λ n. Some ((get_or (e ∷ es) n d).1)) (sym (same_Some _ _ j)) ∙ rest m d refl

  pub lookup_past : (es fs : List (K × V)) → spot es ≡ None → lookup t (es ++ fs) ≡ lookup t fs
  unfolding spot
  lookup_past [] fs h = refl
  lookup_past (e ∷ es) fs h = by (t e.0) (spot es) h (lookup_past es fs)
    where
      by : (b : Bool) (r : Option ℕ) → cond b (Some 0) (option_map suc r) ≡ None → (r ≡ None → lookup t (es ++ fs) ≡ lookup t fs) → cond b (Some e.1) (lookup t (es ++ fs)) ≡ lookup t fs
      by true r j rest = absurd (none-some _ (sym j))
      by false None j rest = rest refl
      by false (Some m) j rest = absurd (none-some _ (sym j))

  pub spot_there : (es fs : List (K × V)) (i : ℕ) → spot es ≡ Some i → Some i ≡ position t (keys_of (es ++ fs))
  unfolding spot
  spot_there es fs i h = sym (over es fs i h) ∙ sym (key_spot_is (es ++ fs))
    where
      over : (es fs : List (K × V)) (i : ℕ) → spot es ≡ Some i → spot (es ++ fs) ≡ Some i
      over [] fs i h = absurd (none-some _ h)
      over (e ∷ es) fs i h = by (t e.0) (spot es) h (over es fs)
        where
          by : (b : Bool) (r : Option ℕ) → cond b (Some 0) (option_map suc r) ≡ Some i → ((j : ℕ) → r ≡ Some j → spot (es ++ fs) ≡ Some j) → cond b (Some 0) (option_map suc (spot (es ++ fs))) ≡ Some i
          by true r j rest = j
          by false None j rest = absurd (none-some _ j)
          by false (Some m) j rest = ap (option_map suc) (rest m refl) ∙ j

  pub spot_past : (es fs : List (K × V)) → spot es ≡ None → position t (keys_of (es ++ fs)) ≡ option_map (λ i. length es + i) (position t (keys_of fs))
  unfolding spot
  spot_past es fs h = key_spot_is (es ++ fs) ∙ over es fs h ∙ ap (option_map (λ i. length es + i)) (sym (key_spot_is fs))
    where
      none_more : (r : Option ℕ) → r ≡ option_map (λ i. 0 + i) r
      none_more None = refl
      none_more (Some m) = let same : m ≡ 0 + m = omega arith in ap Some same

      one_more : (n : ℕ) (r : Option ℕ) → option_map suc (option_map (λ i. n + i) r) ≡ option_map (λ i. suc n + i) r
      one_more n None = refl
      one_more n (Some m) = let same : suc (n + m) ≡ suc n + m = omega arith in ap Some same

      over : (es fs : List (K × V)) → spot es ≡ None → spot (es ++ fs) ≡ option_map (λ i. length es + i) (spot fs)
      over [] fs h = none_more (spot fs)
      over (e ∷ es) fs h = by (t e.0) (spot es) h (over es fs)
        where
          by : (b : Bool) (r : Option ℕ) → cond b (Some 0) (option_map suc r) ≡ None → (r ≡ None → spot (es ++ fs) ≡ option_map (λ i. length es + i) (spot fs))
              → cond b (Some 0) (option_map suc (spot (es ++ fs))) ≡ option_map (λ i. length (e ∷ es) + i) (spot fs)
          by true r j rest = absurd (none-some _ (sym j))
          by false None j rest = ap (option_map suc) (rest refl) ∙ one_more (length es) (spot fs)
          by false (Some m) j rest = absurd (none-some _ (sym j))

  pub set_there : (es fs : List (K × V)) (i : ℕ) (d : K × V) (w : V) → spot es ≡ Some i → slice_set es i ((get_or es i d).0, w) ++ fs ≡ set_value t (es ++ fs) w
  unfolding spot
  set_there [] fs i d w h = absurd (none-some _ h)
  set_there (e ∷ es) fs i d w h = by (t e.0) (spot es) h (set_there es fs)
    where
      by : (b : Bool) (r : Option ℕ) → cond b (Some 0) (option_map suc r) ≡ Some i → ((j : ℕ) (c : K × V) (w : V) → r ≡ Some j → slice_set es j ((get_or es j c).0, w) ++ fs ≡ set_value t (es ++ fs) w)
          → slice_set (e ∷ es) i ((get_or (e ∷ es) i d).0, w) ++ fs ≡ cond b ((e.0, w) ∷ (es ++ fs)) (e ∷ set_value t (es ++ fs) w)
      by true r j rest = ap (λ n. slice_set (e ∷ es) n ((get_or (e ∷ es) n d).0, w) ++ fs) (sym (same_Some _ _ j))
      by false None j rest = absurd (none-some _ j)
      by false (Some m) j rest = ap (λ n. slice_set (e ∷ es) n ((get_or (e ∷ es) n d).0, w) ++ fs) (sym (same_Some _ _ j)) ∙ ap (λ l. e ∷ l) (rest m d w refl)

  pub set_past : (es fs : List (K × V)) (w : V) → spot es ≡ None → es ++ set_value t fs w ≡ set_value t (es ++ fs) w
  unfolding spot
  set_past [] fs w h = refl
  set_past (e ∷ es) fs w h = by (t e.0) (spot es) h (set_past es fs w)
    where
      by : (b : Bool) (r : Option ℕ) → cond b (Some 0) (option_map suc r) ≡ None → (r ≡ None → es ++ set_value t fs w ≡ set_value t (es ++ fs) w)
          → (e ∷ es) ++ set_value t fs w ≡ cond b ((e.0, w) ∷ (es ++ fs)) (e ∷ set_value t (es ++ fs) w)
      by true r j rest = absurd (none-some _ (sym j))
      by false None j rest = ap (λ l. e ∷ l) (rest refl)
      by false (Some m) j rest = absurd (none-some _ (sym j))

module _ {K V : Type 0} where
  pub lookup_left : (t : K → Bool) (xs es : List (K × V)) → lookup t (xs ++ es) ≡ None → lookup t xs ≡ None
  lookup_left t [] es h = refl
  lookup_left t (x ∷ xs) es h = by (t x.0) h (lookup_left t xs es)
    where
      by : (b : Bool) → cond b (Some x.1) (lookup t (xs ++ es)) ≡ None → (lookup t (xs ++ es) ≡ None → lookup t xs ≡ None) → cond b (Some x.1) (lookup t xs) ≡ None
      by true j rest = j
      by false j rest = rest j

  pub lookup_right : (t : K → Bool) (xs es : List (K × V)) → lookup t (xs ++ es) ≡ None → lookup t es ≡ None
  lookup_right t [] es h = h
  lookup_right t (x ∷ xs) es h = by (t x.0) h (lookup_right t xs es)
    where
      by : (b : Bool) → cond b (Some x.1) (lookup t (xs ++ es)) ≡ None → (lookup t (xs ++ es) ≡ None → lookup t es ≡ None) → lookup t es ≡ None
      by true j rest = absurd (none-some _ (sym j))
      by false j rest = rest j

  pub insert_absent : (eq : K → K → Bool) (k : K) (v : V) (es : List (K × V)) → lookup (eq k) es ≡ None → insert_entry eq es k v ≡ es ++ (k, v) ∷ []
  insert_absent eq k v [] h = refl
  insert_absent eq k v (e ∷ es) h = by (eq k e.0) h (insert_absent eq k v es)
    where
      by : (b : Bool) → cond b (Some e.1) (lookup (eq k) es) ≡ None → (lookup (eq k) es ≡ None → insert_entry eq es k v ≡ es ++ (k, v) ∷ []) → (if b then (e.0, v) ∷ es else e ∷ insert_entry eq es k v) ≡ e ∷ (es ++ (k, v) ∷ [])
      by true j rest = absurd (none-some _ (sym j))
      by false j rest = ap (λ l. e ∷ l) (rest j)

  -- a pair that goes last behind another list
  pub insert_last : (eq : K → K → Bool) (k : K) (v : V) (few es fs : List (K × V)) → lookup (eq k) (few ++ es) ≡ None → fs ≡ insert_entry eq es k v → few ++ fs ≡ (few ++ es) ++ (k, v) ∷ []
  insert_last eq k v few es fs none made =
      ap (λ l. few ++ l) (made ∙ insert_absent eq k v es (lookup_right (eq k) few es none)) ∙ sym (append_assoc few es ((k, v) ∷ []))

  -- one step of a copy of distinct pairs
  pub copied_more : (eq : K → K → Bool) → IsEquivalence eq → (all live more : List (K × V)) (i : ℕ) (p : K × V)
      → IsDistinct eq (keys_of all) → slice_get all i ≡ Some p → live ++ drop i all ≡ all → more ≡ insert_entry eq live p.0 p.1 → more ++ drop (i + 1) all ≡ all
  copied_more eq laws all live more i p distinct at so_far made =
      let here : drop i all ≡ p ∷ drop (i + 1) all = rw add-one (drop-cons all i p (slice_get_within all i p at) ∙ ap (λ q. q ∷ drop (suc i) all) (get_or_from_slice_get all i p p at)) in
      let split : live ++ p ∷ drop (i + 1) all ≡ all = sym (ap (λ l. live ++ l) here) ∙ so_far in
      let absent : lookup (eq p.0) live ≡ None = absent_before laws live (drop (i + 1) all) p (subst (λ l. IsDistinct eq (keys_of l)) (sym split) distinct) in
      ap (λ l. l ++ drop (i + 1) all) (made ∙ insert_absent eq p.0 p.1 live absent) ∙ append_assoc live (p ∷ []) (drop (i + 1) all) ∙ split

pub on_some : {A : Type 0} (r : Option A) (P Q : Type 0) → (P → Q) → OnSome r P → OnSome r Q
on_some None P Q f h = tt
on_some (Some v) P Q f h = f h

pub none_is : {A : Type 0} (r : Option A) → ((x : A) → r ≡ Some x → ⊥) → r ≡ None
none_is None h = refl
none_is (Some x) h = absurd (h x refl)
