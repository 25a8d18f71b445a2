-- Lists in which each number stands once, in the order in which it first stood.
use Rattle.std.proofs.Common.{◌≡◌, ◌∙◌, refl, ap, sym, subst, ℕ, Bool, true, false, ◌||◌, nat_eq, nat_lt, List, [], ◌∷◌, ◌++◌, if◌then◌else◌}
use Rattle.std.specs.List.{list_any}
use Rattle.std.proofs.lemmas.Bool.{eqb-true, eq-eqb}
use Rattle.lua_scope.specs.Survey.{added, passed}
use Rattle.lua_scope.specs.Binding.{of_outer, all_added, once}

pub all_added-append : (xs ys ns : List ℕ) → all_added (xs ++ ys) ns ≡ all_added ys (all_added xs ns)
all_added-append [] ys ns = refl
all_added-append (x ∷ xs) ys ns = all_added-append xs ys (added x ns)

pub of_outer-append : (count : ℕ) (xs ys : List ℕ) → of_outer count (xs ++ ys) ≡ of_outer count xs ++ of_outer count ys
of_outer-append count [] ys = refl
of_outer-append count (x ∷ xs) ys = by (nat_lt x count) (of_outer-append count xs ys)
  where
    by : (b : Bool) → of_outer count (xs ++ ys) ≡ of_outer count xs ++ of_outer count ys
        → (if b then x ∷ of_outer count (xs ++ ys) else of_outer count (xs ++ ys)) ≡ (if b then x ∷ of_outer count xs else of_outer count xs) ++ of_outer count ys
    by true e = ap (λ l. x ∷ l) e
    by false e = e

pub passed_is : (count : ℕ) (xs ns : List ℕ) → passed count xs ns ≡ all_added (of_outer count xs) ns
passed_is count [] ns = refl
passed_is count (x ∷ xs) ns = by (nat_lt x count) (passed_is count xs)
  where
    by : (b : Bool) → ((ms : List ℕ) → passed count xs ms ≡ all_added (of_outer count xs) ms)
        → passed count xs (if b then added x ns else ns) ≡ all_added (if b then x ∷ of_outer count xs else of_outer count xs) ns
    by true rest = rest (added x ns)
    by false rest = rest ns

-- ---- a number that stands already

abbrev Has : ℕ → List ℕ → Type 0
Has x ns = list_any (nat_eq x) ns ≡ true

any_more : (x : ℕ) (ns ms : List ℕ) → Has x ns → Has x (ns ++ ms)
any_more x [] ms h = absurd (cc)
any_more x (n ∷ ns) ms h = by (nat_eq x n) (any_more x ns ms) h
  where
    by : (b : Bool) → (Has x ns → Has x (ns ++ ms)) → (b || list_any (nat_eq x) ns) ≡ true → (b || list_any (nat_eq x) (ns ++ ms)) ≡ true
    by true rest e = refl
    by false rest e = rest e

any_last : (x : ℕ) (ns : List ℕ) → Has x (ns ++ x ∷ [])
any_last x [] = ap (λ b. b || false) (eq-eqb x x refl)
any_last x (n ∷ ns) = by (nat_eq x n) (any_last x ns)
  where
    by : (b : Bool) → Has x (ns ++ x ∷ []) → (b || list_any (nat_eq x) (ns ++ x ∷ [])) ≡ true
    by true rest = refl
    by false rest = rest

kept_by_one : (x n : ℕ) (ns : List ℕ) → Has x ns → Has x (added n ns)
kept_by_one x n ns h = by (list_any (nat_eq n) ns)
  where
    by : (b : Bool) → Has x (if b then ns else ns ++ n ∷ [])
    by true = h
    by false = any_more x ns (n ∷ []) h

kept : (x : ℕ) (xs ns : List ℕ) → Has x ns → Has x (all_added xs ns)
kept x [] ns h = h
kept x (y ∷ xs) ns h = kept x xs (added y ns) (kept_by_one x y ns h)

added_there : (x : ℕ) (ns : List ℕ) → Has x (added x ns)
added_there x ns = by (list_any (nat_eq x) ns) refl
  where
    by : (b : Bool) → list_any (nat_eq x) ns ≡ b → Has x (if b then ns else ns ++ x ∷ [])
    by true e = e
    by false e = any_last x ns

-- a number of outer locals that stands in a list stands where the list was added
there_after : (count x : ℕ) (xs ns : List ℕ) → nat_lt x count ≡ true → Has x xs → Has x (all_added (of_outer count xs) ns)
there_after count x [] ns small h = absurd (cc)
there_after count x (y ∷ xs) ns small h = by (nat_eq x y) refl (λ k ms. there_after count x xs ms small k) h
  where
    skip : (b : Bool) → ((ms : List ℕ) → Has x (all_added (of_outer count xs) ms)) → Has x (all_added (if b then y ∷ of_outer count xs else of_outer count xs) ns)
    skip true g = g (added y ns)
    skip false g = g ns

    by : (b : Bool) → nat_eq x y ≡ b → (Has x xs → (ms : List ℕ) → Has x (all_added (of_outer count xs) ms)) → (b || list_any (nat_eq x) xs) ≡ true
        → Has x (all_added (if nat_lt y count then y ∷ of_outer count xs else of_outer count xs) ns)
    by true e rest k =
        let same : x ≡ y = eqb-true x y e in
        let less : nat_lt y count ≡ true = subst (λ z. nat_lt z count ≡ true) same small in
        subst (λ b. Has x (all_added (if b then y ∷ of_outer count xs else of_outer count xs) ns)) (sym less)
        (kept x (of_outer count xs) (added y ns) (subst (λ z. Has z (added y ns)) (sym same) (added_there y ns)))
    by false e rest k = skip (nat_lt y count) (rest k)

added_again : (x : ℕ) (ns : List ℕ) → Has x ns → added x ns ≡ ns
added_again x ns h = ap (λ b. if b then ns else ns ++ x ∷ []) h

-- ---- what is added once is added in the same order

one_more : (count x : ℕ) (acc ns : List ℕ) → all_added (of_outer count (added x acc)) ns ≡ all_added (if nat_lt x count then x ∷ [] else []) (all_added (of_outer count acc) ns)
one_more count x acc ns = by (list_any (nat_eq x) acc) refl
  where
    again : (b : Bool) → nat_lt x count ≡ b → Has x acc → all_added (of_outer count acc) ns ≡ all_added (if b then x ∷ [] else []) (all_added (of_outer count acc) ns)
    again true e h = sym (added_again x (all_added (of_outer count acc) ns) (there_after count x acc ns e h))
    again false e h = refl

    by : (b : Bool) → list_any (nat_eq x) acc ≡ b → all_added (of_outer count (if b then acc else acc ++ x ∷ [])) ns ≡ all_added (if nat_lt x count then x ∷ [] else []) (all_added (of_outer count acc) ns)
    by true e = again (nat_lt x count) refl e
    by false e = ap (λ l. all_added l ns) (of_outer-append count acc (x ∷ [])) ∙ all_added-append (of_outer count acc) (of_outer count (x ∷ [])) ns

first_kept : (count : ℕ) (xs acc ns : List ℕ) → all_added (of_outer count (all_added xs acc)) ns ≡ all_added (of_outer count xs) (all_added (of_outer count acc) ns)
first_kept count [] acc ns = refl
first_kept count (x ∷ xs) acc ns =
    first_kept count xs (added x acc) ns
    ∙ ap (all_added (of_outer count xs)) (one_more count x acc ns)
    ∙ by (nat_lt x count)
  where
    by : (b : Bool) → all_added (of_outer count xs) (all_added (if b then x ∷ [] else []) (all_added (of_outer count acc) ns)) ≡ all_added (if b then x ∷ of_outer count xs else of_outer count xs) (all_added (of_outer count acc) ns)
    by true = refl
    by false = refl

pub passed_once : (count : ℕ) (xs ns : List ℕ) → passed count (once xs) ns ≡ all_added (of_outer count xs) ns
passed_once count xs ns = passed_is count (once xs) ns ∙ first_kept count xs [] ns
