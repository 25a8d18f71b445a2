-- One more turn of a loop over a list.
use Rattle.std.proofs.Common.{◌≡◌, ℕ, zero, suc, ◌+◌, ◌<◌, ◌≤◌, length-append, false, List, [], ◌∷◌, ◌++◌, length, take, drop, get_or, slice_get, Option, None, Some, is_some, refl, ap, sym, ◌∙◌, add-one, append_assoc, true≢false, arith}
use Rattle.std.specs.List.{filter_map}
use Rattle.std.specs.Map.{lookup}
use Rattle.std.specs.Option.{option_map}
use Rattle.std.proofs.lemmas.List.{at_drop_more}
use Rattle.linda_core.specs.declared.key.Key.{Key}
use Rattle.linda_core.specs.Queue.{Queued}
use Rattle.linda_core.specs.SequentialLinda.{key_eq, count_of, counts_of}
use Rattle.linda_core.specs.Holding.{known_of, seen}
use Rattle.linda_core.proofs.ContentLemmas.{lookup-seen, held_by-known}

module _ {X : Type 0} where
  take_suc : (xs : List X) (n : ℕ) (x : X) → slice_get xs n ≡ Some x → take (suc n) xs ≡ take n xs ++ x ∷ []
  take_suc [] n x there = absurd (cc)
  take_suc (y ∷ ys) zero x there =
      let same : y ≡ x = cc in
      ap (λ z. z ∷ []) same
  take_suc (y ∷ ys) (suc n) x there = ap (λ l. y ∷ l) (take_suc ys n x there)

  pub take_next : (xs : List X) (n : ℕ) (x : X) → slice_get xs n ≡ Some x → take (n + 1) xs ≡ take n xs ++ x ∷ []
  take_next xs n x there = ap (λ m. take m xs) (add-one n) ∙ take_suc xs n x there

  drop_suc : (xs : List X) (n : ℕ) → drop (suc n) xs ≡ drop 1 (drop n xs)
  drop_suc [] zero = refl
  drop_suc [] (suc n) = refl
  drop_suc (y ∷ ys) zero = refl
  drop_suc (y ∷ ys) (suc n) = drop_suc ys n

  pub drop_next : (xs : List X) (n : ℕ) → drop (n + 1) xs ≡ drop 1 (drop n xs)
  drop_next xs n = ap (λ m. drop m xs) (add-one n) ∙ drop_suc xs n

  first_of_drop : (xs : List X) (n : ℕ) → slice_get (drop n xs) 0 ≡ slice_get xs n
  first_of_drop [] zero = refl
  first_of_drop [] (suc n) = refl
  first_of_drop (y ∷ ys) zero = refl
  first_of_drop (y ∷ ys) (suc n) = first_of_drop ys n

  none_past : (xs : List X) (n : ℕ) → slice_get xs n ≡ None → n < length xs → ⊥
  none_past [] n none within = omega (arith, within)
  none_past (y ∷ ys) zero none within = cc
  none_past (y ∷ ys) (suc n) none within = none_past ys n none (omega arith)

  -- the first of the rest is taken
  pub taken_more : (xs taken rest : List X) (n : ℕ) (x : X) → taken ≡ take n xs → rest ≡ drop n xs → Some x ≡ slice_get rest 0 → taken ++ x ∷ [] ≡ take (n + 1) xs
  taken_more xs taken rest n x had left first =
      ap (λ l. l ++ x ∷ []) had ∙ sym (take_next xs n x (sym (first ∙ ap (λ l. slice_get l 0) left ∙ first_of_drop xs n)))

  pub rest_more : (xs rest : List X) (n : ℕ) → rest ≡ drop n xs → drop 1 rest ≡ drop (n + 1) xs
  rest_more xs rest n left = ap (drop 1) left ∙ sym (drop_next xs n)

  pub none_left : {Y : Type 0} (xs rest : List X) (n : ℕ) → rest ≡ drop n xs → None ≡ slice_get rest 0 → n < length xs → Y
  none_left xs rest n left none within = absurd (none_past xs n (sym (none ∙ ap (λ l. slice_get l 0) left ∙ first_of_drop xs n)) within)

  pub none_there : {Y : Type 0} (xs : List X) (n : ℕ) → None ≡ slice_get xs n → n < length xs → Y
  none_there xs n none within = absurd (none_past xs n (sym none) within)

pub unknown_of : {X : Type 0} (r : Option X) → false ≡ is_some r → r ≡ None
unknown_of None e = refl
unknown_of (Some x) e = absurd (true≢false (sym e))

-- ---- a list that passes through a partial function

module _ {X Y : Type 0} (f : X → Option Y) where
  kept : (done : List Y) (x : X) (y : Y) (xs : List X) → f x ≡ Some y → done ++ filter_map f (x ∷ xs) ≡ (done ++ y ∷ []) ++ filter_map f xs
  kept done x y xs is = rw is (sym (append_assoc done (y ∷ []) (filter_map f xs)))

  skipped : (x : X) (xs : List X) → f x ≡ None → filter_map f (x ∷ xs) ≡ filter_map f xs
  skipped x xs is = rw is

  module _ (done : List Y) (xs : List X) (n : ℕ) (x : X) (within : n < length xs) (there : x ≡ get_or xs n x) where
    here : done ++ filter_map f (drop n xs) ≡ done ++ filter_map f (x ∷ drop (n + 1) xs)
    here = at_drop_more (λ l. done ++ filter_map f l) xs n x within ∙ ap (λ y. done ++ filter_map f (y ∷ drop (n + 1) xs)) (sym there)

    pub kept_next : (y : Y) → f x ≡ Some y → done ++ filter_map f (drop n xs) ≡ (done ++ y ∷ []) ++ filter_map f (drop (n + 1) xs)
    kept_next y is = here ∙ kept done x y (drop (n + 1) xs) is

    pub skipped_next : f x ≡ None → done ++ filter_map f (drop n xs) ≡ done ++ filter_map f (drop (n + 1) xs)
    skipped_next is = here ∙ ap (λ l. done ++ l) (skipped x (drop (n + 1) xs) is)

-- ---- lengths of queues

pub count_of-known : (es : List (Key × Queued)) (key : Key) (q : Queued) → lookup (key_eq key) es ≡ Some q → count_of (seen es) key ≡ Some (key, length q.items)
count_of-known es key q there =
    rw (ap is_some (lookup-seen (key_eq key) es ∙ ap (option_map known_of) there)) (ap (λ held. Some (key, length held.queue)) (held_by-known es key q there))

pub count_of-unknown : (es : List (Key × Queued)) (key : Key) → lookup (key_eq key) es ≡ None → count_of (seen es) key ≡ None
count_of-unknown es key none = rw (ap is_some (lookup-seen (key_eq key) es ∙ ap (option_map known_of) none))

counts_suc : (es : List (Key × Queued)) (n : ℕ) (e : Key × Queued) → slice_get es n ≡ Some e → counts_of (seen (take (suc n) es)) [] ≡ counts_of (seen (take n es)) [] ++ (e.0, length e.1.items) ∷ []
counts_suc [] n e there = absurd (cc)
counts_suc (d ∷ es) zero e there =
    let same : d ≡ e = cc in
    ap (λ (x : Key × Queued). (x.0, length x.1.items) ∷ []) same
counts_suc (d ∷ es) (suc n) e there = ap (λ l. (d.0, length d.1.items) ∷ l) (counts_suc es n e there)

pub counts_next : (es : List (Key × Queued)) (n : ℕ) (e : Key × Queued) → slice_get es n ≡ Some e → counts_of (seen (take (n + 1) es)) [] ≡ counts_of (seen (take n es)) [] ++ (e.0, length e.1.items) ∷ []
counts_next es n e there = ap (λ m. counts_of (seen (take m es)) []) (add-one n) ∙ counts_suc es n e there

-- ---- a ring that takes values one by one

pub room_for_one : {X : Type 0} (there coming rest first last : List X) (x : X) (capacity before : ℕ) → there ++ coming ≡ first ++ last → coming ≡ x ∷ rest → length first + length last ≤ before → capacity ≡ before → length there < capacity
room_for_one there coming rest first last x capacity before same next fits kept =
    let whole : length there + length coming ≡ length first + length last = sym (length-append there coming) ∙ ap length same ∙ length-append first last in
    let more : length coming ≡ length (x ∷ rest) = ap length next in
    omega (arith, whole, more, fits, kept)
