-- Which locals are captured behind a part of a script, as its names refer to them one after another.
use Rattle.std.proofs.Common.{◌≡◌, ◌∙◌, refl, ap, sym, subst, ℕ, zero, suc, ◌+◌, ◌<◌, ◌≤◌, Bool, true, false, ◌&&◌, ◌||◌, nat_eq, nat_lt, eqb, ◌⊎◌, inl, inr, ◌≢◌, List, [], ◌∷◌, ◌++◌, length, slice_get, slice_set, Some, if◌then◌else◌, arith, append_assoc}
use Rattle.std.specs.List.{list_any}
use Rattle.std.proofs.lemmas.Bool.{eqb-true, eq-eqb, le-ltb}
use Rattle.std.proofs.lemmas.Bool.Decides.{eqb_tells}
use Rattle.std.proofs.lemmas.List.{append-nil, length-set}
use Rattle.std.proofs.lemmas.List.Folds.{list_any-append}
use Rattle.lua_scope.specs.declared.scopes.Local.{Local}
use Rattle.lua_scope.specs.Binding.{Names, Named, none, joined, ended, referred, of_outer, captured, once, all_added, is_in}
use Rattle.lua_scope.specs.Survey.{added}
use Rattle.lua_scope.proofs.AddsLemmas.{Adds}

-- ---- locals are captured

-- those of these visible locals at whose places this holds
abbrev pub marked : (ℕ → Bool) → List Local → List Bool → List Bool
marked f [] c = c
marked f (l ∷ ls) c = marked (λ i. f (suc i)) ls (if f 0 then slice_set c l.number true else c)

marked_alike : (f g : ℕ → Bool) (ls : List Local) (c : List Bool) → ((i : ℕ) → f i ≡ g i) → marked f ls c ≡ marked g ls c
marked_alike f g [] c e = refl
marked_alike f g (l ∷ ls) c e =
    ap (λ b. marked (λ i. f (suc i)) ls (if b then slice_set c l.number true else c)) (e 0)
    ∙ marked_alike (λ i. f (suc i)) (λ i. g (suc i)) ls (if g 0 then slice_set c l.number true else c) (λ i. e (suc i))

marked_none : (f : ℕ → Bool) (ls : List Local) (c : List Bool) → ((i : ℕ) → f i ≡ false) → marked f ls c ≡ c
marked_none f [] c e = refl
marked_none f (l ∷ ls) c e =
    ap (λ b. marked (λ i. f (suc i)) ls (if b then slice_set c l.number true else c)) (e 0)
    ∙ marked_none (λ i. f (suc i)) ls c (λ i. e (suc i))

set_both : (c : List Bool) (m n : ℕ) → slice_set (slice_set c m true) n true ≡ slice_set (slice_set c n true) m true
set_both [] m n = refl
set_both (b ∷ c) zero zero = refl
set_both (b ∷ c) zero (suc n) = refl
set_both (b ∷ c) (suc m) zero = refl
set_both (b ∷ c) (suc m) (suc n) = ap (λ l. b ∷ l) (set_both c m n)

set_again : (c : List Bool) (n : ℕ) → slice_set (slice_set c n true) n true ≡ slice_set c n true
set_again [] n = refl
set_again (b ∷ c) zero = refl
set_again (b ∷ c) (suc n) = ap (λ l. b ∷ l) (set_again c n)

set_if : (b : Bool) (c : List Bool) (m n : ℕ) → (if b then slice_set (slice_set c n true) m true else slice_set c n true)
    ≡ slice_set (if b then slice_set c m true else c) n true
set_if true c m n = set_both c n m
set_if false c m n = refl

marked_set : (f : ℕ → Bool) (ls : List Local) (c : List Bool) (n : ℕ)
    → marked f ls (slice_set c n true) ≡ slice_set (marked f ls c) n true
marked_set f [] c n = refl
marked_set f (l ∷ ls) c n =
    ap (marked (λ i. f (suc i)) ls) (set_if (f 0) c l.number n)
    ∙ marked_set (λ i. f (suc i)) ls (if f 0 then slice_set c l.number true else c) n

zero_suc : (n : ℕ) → nat_eq 0 (suc n) ≡ false
zero_suc n = by (eqb_tells 0 (suc n))
  where
    by : ((eqb 0 (suc n) ≡ true) × (0 ≡ suc n)) ⊎ ((eqb 0 (suc n) ≡ false) × (0 ≢ suc n)) → eqb 0 (suc n) ≡ false
    by (inl h) = let is = h.1 in absurd (omega (arith, is))
    by (inr h) = h.0

suc_zero : (n : ℕ) → nat_eq (suc n) 0 ≡ false
suc_zero n = by (eqb_tells (suc n) 0)
  where
    by : ((eqb (suc n) 0 ≡ true) × (suc n ≡ 0)) ⊎ ((eqb (suc n) 0 ≡ false) × (suc n ≢ 0)) → eqb (suc n) 0 ≡ false
    by (inl h) = let is = h.1 in absurd (omega (arith, is))
    by (inr h) = h.0

suc_suc : (m n : ℕ) → nat_eq (suc m) (suc n) ≡ nat_eq m n
suc_suc m n = by (eqb_tells m n) (eqb_tells (suc m) (suc n))
  where
    by : ((eqb m n ≡ true) × (m ≡ n)) ⊎ ((eqb m n ≡ false) × (m ≢ n))
        → ((eqb (suc m) (suc n) ≡ true) × (suc m ≡ suc n)) ⊎ ((eqb (suc m) (suc n) ≡ false) × (suc m ≢ suc n))
        → eqb (suc m) (suc n) ≡ eqb m n
    by (inl h) k = let is = h.1 in eq-eqb (suc m) (suc n) (omega (arith, is)) ∙ sym h.0
    by (inr h) (inl k) = let is = k.1 in absurd (h.1 (omega (arith, is)))
    by (inr h) (inr k) = k.0 ∙ sym h.0

-- one that has been captured before
marked_at : (f : ℕ → Bool) (ls : List Local) (c : List Bool) (at : ℕ) (l : Local) → slice_get ls at ≡ Some l
    → marked f ls (slice_set c l.number true) ≡ marked (λ i. nat_eq i at || f i) ls c
marked_at f [] c at l e = absurd (cc)
marked_at f (k ∷ ls) c zero l e =
    subst (λ x. marked f (k ∷ ls) (slice_set c x.number true) ≡ marked (λ i. nat_eq i 0 || f i) (k ∷ ls) c) (first e)
    (by (f 0)
    ∙ marked_alike (λ i. f (suc i)) (λ i. nat_eq (suc i) 0 || f (suc i)) ls (slice_set c k.number true)
    (λ i. ap (λ b. b || f (suc i)) (sym (suc_zero i))))
  where
    first : Some k ≡ Some l → k ≡ l
    first e = cc

    by : (b : Bool)
        → marked (λ i. f (suc i)) ls (if b then slice_set (slice_set c k.number true) k.number true else slice_set c k.number true)
        ≡ marked (λ i. f (suc i)) ls (slice_set c k.number true)
    by true = ap (marked (λ i. f (suc i)) ls) (set_again c k.number)
    by false = refl
marked_at f (k ∷ ls) c (suc at) l e =
    ap (marked (λ i. f (suc i)) ls) (set_if (f 0) c k.number l.number)
    ∙ marked_at (λ i. f (suc i)) ls (if f 0 then slice_set c k.number true else c) at l e
    ∙ marked_alike (λ i. nat_eq i at || f (suc i)) (λ i. nat_eq (suc i) (suc at) || f (suc i)) ls
    (if f 0 then slice_set c k.number true else c) (λ i. ap (λ b. b || f (suc i)) (sym (suc_suc i at)))
    ∙ ap (λ b. marked (λ i. nat_eq (suc i) (suc at) || f (suc i)) ls (if b || f 0 then slice_set c k.number true else c))
    (sym (zero_suc at))

one_marked : (f g : ℕ → Bool) (ls : List Local) (c : List Bool) (n : ℕ) (a b : Bool)
    → ((d : List Bool) → marked f ls (marked g ls d) ≡ marked (λ i. f i || g i) ls d)
    → marked f ls
    (if a then slice_set (marked g ls (if b then slice_set c n true else c)) n true
    else marked g ls (if b then slice_set c n true else c))
    ≡ marked (λ i. f i || g i) ls (if a || b then slice_set c n true else c)
one_marked f g ls c n true true rest =
    ap (marked f ls) (sym (marked_set g ls (slice_set c n true) n) ∙ ap (marked g ls) (set_again c n)) ∙ rest (slice_set c n true)
one_marked f g ls c n true false rest = ap (marked f ls) (sym (marked_set g ls c n)) ∙ rest (slice_set c n true)
one_marked f g ls c n false true rest = rest (slice_set c n true)
one_marked f g ls c n false false rest = rest c

marked_both : (f g : ℕ → Bool) (ls : List Local) (c : List Bool) → marked f ls (marked g ls c) ≡ marked (λ i. f i || g i) ls c
marked_both f g [] c = refl
marked_both f g (l ∷ ls) c =
    one_marked (λ i. f (suc i)) (λ i. g (suc i)) ls c l.number (f 0) (g 0) (marked_both (λ i. f (suc i)) (λ i. g (suc i)) ls)

one_on : (n i : ℕ) → suc n + i ≡ suc (n + i)
one_on n i = omega arith

marked_append : (f : ℕ → Bool) (ls ms : List Local) (c : List Bool)
    → marked f (ls ++ ms) c ≡ marked (λ i. f (length ls + i)) ms (marked f ls c)
marked_append f [] ms c = marked_alike f (λ i. f (0 + i)) ms c (λ i. ap f (zero_on i))
  where
    zero_on : (i : ℕ) → i ≡ 0 + i
    zero_on i = omega arith
marked_append f (l ∷ ls) ms c =
    let d = if f 0 then slice_set c l.number true else c in
    marked_append (λ i. f (suc i)) ls ms d
    ∙ marked_alike (λ i. f (suc (length ls + i))) (λ i. f (suc (length ls) + i)) ms (marked (λ i. f (suc i)) ls d)
    (λ i. ap f (sym (one_on (length ls) i)))

-- ---- the numbers of the visible locals

abbrev pub Under : List Local → ℕ → Type 0
Under [] n = Unit {0}
Under (l ∷ ls) n = (l.number < n) × Under ls n

under_front : (ls ms : List Local) (n : ℕ) → Under (ls ++ ms) n → Under ls n
under_front [] ms n h = tt
under_front (l ∷ ls) ms n h = (h.0, under_front ls ms n h.1)

under_more : (ls : List Local) (l : Local) (n m : ℕ) → Under ls n → n ≤ m → l.number < m → Under (ls ++ l ∷ []) m
under_more [] l n m h le lt = (lt, tt)
under_more (k ∷ ls) l n m h le lt = (let less = h.0 in omega (arith, less, le), under_more ls l n m h.1 le lt)

length_marked : (f : ℕ → Bool) (ls : List Local) (c : List Bool) → length (marked f ls c) ≡ length c
length_marked f [] c = refl
length_marked f (l ∷ ls) c = length_marked (λ i. f (suc i)) ls (if f 0 then slice_set c l.number true else c) ∙ by (f 0)
  where
    by : (b : Bool) → length (if b then slice_set c l.number true else c) ≡ length c
    by true = length-set c l.number true
    by false = refl

set_front : (c d : List Bool) (n : ℕ) → n < length c → slice_set (c ++ d) n true ≡ slice_set c n true ++ d
set_front [] d n lt = absurd (omega (arith, lt))
set_front (b ∷ c) d zero lt = refl
set_front (b ∷ c) d (suc n) lt = ap (λ l. b ∷ l) (set_front c d n (omega (arith, lt)))

-- those that are declared later aren't captured by this
marked_front : (f : ℕ → Bool) (ls : List Local) (c d : List Bool) → Under ls (length c) → marked f ls (c ++ d) ≡ marked f ls c ++ d
marked_front f [] c d h = refl
marked_front f (l ∷ ls) c d h = by (f 0) (λ e u. marked_front (λ i. f (suc i)) ls e d u)
  where
    by : (b : Bool)
        → ((e : List Bool) → Under ls (length e) → marked (λ i. f (suc i)) ls (e ++ d) ≡ marked (λ i. f (suc i)) ls e ++ d)
        → marked (λ i. f (suc i)) ls (if b then slice_set (c ++ d) l.number true else c ++ d)
        ≡ marked (λ i. f (suc i)) ls (if b then slice_set c l.number true else c) ++ d
    by true rest = ap (marked (λ i. f (suc i)) ls) (set_front c d l.number h.0)
        ∙ rest (slice_set c l.number true) (subst (Under ls) (sym (length-set c l.number true)) h.1)
    by false rest = rest c h.1

-- more locals are captured on both sides
marked_more : (f g h f' g' : ℕ → Bool) (ls : List Local) (c d e : List Bool) → Under ls (length c)
    → ((i : ℕ) → (h i || f i) ≡ f' i) → ((i : ℕ) → (h i || g i) ≡ g' i)
    → marked f ls d ≡ marked g ls c ++ e → marked f' ls d ≡ marked g' ls c ++ e
marked_more f g h f' g' ls c d e u p q is =
    sym (marked_both h f ls d ∙ marked_alike (λ i. h i || f i) f' ls d p)
    ∙ ap (marked h ls) is
    ∙ marked_front h ls (marked g ls c) e (subst (Under ls) (sym (length_marked g ls c)) u)
    ∙ ap (λ x. x ++ e) (marked_both h g ls c ∙ marked_alike (λ i. h i || g i) g' ls c q)

-- ---- what a part captures

abbrev pub member : ℕ → List ℕ → Bool
member i ns = list_any (nat_eq i) ns

-- of the visible locals those that are named here, in a body that began behind so many locals, and those that inner bodies capture
abbrev pub marks : ℕ → List ℕ → List (List ℕ) → ℕ → Bool
marks start places captures i = (nat_lt i start && member i places) || is_in i captures

abbrev pub Numbered : ℕ → List Local → List Bool → Type 0
Numbered start ls c = (start ≤ length ls) × Under ls (length c)

-- Behind a part those of the locals before it are captured too that the part captures, and of its own those that are captured in
-- it or behind it, where names of these places and bodies with these captures stand behind it.
abbrev pub Captures : ℕ → List Local → List Bool → Named → List Local → List Bool → Type 0
Captures start ls c u ms d = (places : List ℕ) (behind : List (List ℕ))
    → marked (marks start places behind) ms d
    ≡ marked (marks start (u.places ++ places) (u.captures ++ behind)) ls c ++ u.cells behind

abbrev pub Cells : ℕ → List Local → List Bool → Named → List Local → List Bool → Type 0
Cells start ls c u ms d = Numbered start ls c → Numbered start ms d × Captures start ls c u ms d

pub cells_none : (start : ℕ) (ls : List Local) (c : List Bool) → Cells start ls c none ls c
cells_none start ls c n = (n, λ places behind. sym (append-nil (marked (marks start places behind) ls c)))

pub cells_both : (start : ℕ) (a b e : List Local) (c d f : List Bool) (u v : Named) → Cells start a c u b d → Cells start b d v e f
    → Cells start a c (joined u v) e f
cells_both start a b e c d f u v p q n =
    let p1 = p n in
    let q1 = q p1.0 in (
      q1.0,
      λ places behind.
          q1.1 places behind
          ∙ ap (λ x. x ++ v.cells behind) (p1.1 (v.places ++ places) (v.captures ++ behind))
          ∙ append_assoc (marked (marks start (u.places ++ (v.places ++ places)) (u.captures ++ (v.captures ++ behind))) a c)
          (u.cells (v.captures ++ behind)) (v.cells behind)
          ∙ ap (λ x. marked (marks start x (u.captures ++ (v.captures ++ behind))) a c
          ++ (u.cells (v.captures ++ behind) ++ v.cells behind)) (sym (append_assoc u.places v.places places))
          ∙ ap (λ x. marked (marks start ((u.places ++ v.places) ++ places) x) a c
          ++ (u.cells (v.captures ++ behind) ++ v.cells behind)) (sym (append_assoc u.captures v.captures behind)),
    )

-- ---- a name

named_mark : (start at : ℕ) (places : List ℕ) (behind : List (List ℕ)) → nat_lt at start ≡ true → (i : ℕ)
    → (nat_eq i at || marks start places behind i) ≡ marks start (at ∷ places) behind i
named_mark start at places behind lt i = by (nat_eq i at) refl
  where
    by : (b : Bool) → nat_eq i at ≡ b
        → (b || marks start places behind i) ≡ ((nat_lt i start && (b || member i places)) || is_in i behind)
    by true e = let less : nat_lt i start ≡ true = ap (λ x. nat_lt x start) (eqb-true i at e) ∙ lt in
        ap (λ x. (x && true) || is_in i behind) (sym less)
    by false e = refl

own_mark : (start at : ℕ) (places : List ℕ) (behind : List (List ℕ)) → nat_lt at start ≡ false → (i : ℕ)
    → marks start places behind i ≡ marks start (at ∷ places) behind i
own_mark start at places behind ge i = by (nat_eq i at) refl
  where
    by : (b : Bool) → nat_eq i at ≡ b → marks start places behind i ≡ ((nat_lt i start && (b || member i places)) || is_in i behind)
    by true e =
        let more : nat_lt i start ≡ false = ap (λ x. nat_lt x start) (eqb-true i at e) ∙ ge in
        ap (λ x. (x && member i places) || is_in i behind) more ∙ ap (λ x. (x && true) || is_in i behind) (sym more)
    by false e = refl

pub cells_outer : (start at : ℕ) (l : Local) (ls : List Local) (c : List Bool) → slice_get ls at ≡ Some l → nat_lt at start ≡ true
    → Cells start ls c (referred (Some at)) ls (slice_set c l.number true)
cells_outer start at l ls c is lt n = (
  (n.0, subst (Under ls) (sym (length-set c l.number true)) n.1),
  λ places behind.
      marked_at (marks start places behind) ls c at l is
      ∙ marked_alike (λ i. nat_eq i at || marks start places behind i) (marks start (at ∷ places) behind) ls c
      (named_mark start at places behind lt)
      ∙ sym (append-nil (marked (marks start (at ∷ places) behind) ls c)),
)

pub cells_own : (start at : ℕ) (ls : List Local) (c : List Bool) → nat_lt at start ≡ false
    → Cells start ls c (referred (Some at)) ls c
cells_own start at ls c ge n = (
  n,
  λ places behind.
      marked_alike (marks start places behind) (marks start (at ∷ places) behind) ls c (own_mark start at places behind ge)
      ∙ sym (append-nil (marked (marks start (at ∷ places) behind) ls c)),
)

-- ---- a declaration

set_last : (c : List Bool) (b : Bool) (n : ℕ) → length c ≡ n
    → (if b then slice_set (c ++ false ∷ []) n true else c ++ false ∷ []) ≡ c ++ b ∷ []
set_last c false n e = refl
set_last c true n e = subst (λ k. slice_set (c ++ false ∷ []) k true ≡ c ++ true ∷ []) e (at_end c)
  where
    at_end : (c : List Bool) → slice_set (c ++ false ∷ []) (length c) true ≡ c ++ true ∷ []
    at_end [] = refl
    at_end (x ∷ c) = ap (λ l. x ∷ l) (at_end c)

-- a local of the body itself
inner_mark : (start : ℕ) (places : List ℕ) (behind : List (List ℕ)) (i : ℕ) → start ≤ i
    → marks start places behind i ≡ is_in i behind
inner_mark start places behind i le = ap (λ x. (x && member i places) || is_in i behind) (le-ltb i start le)

pub cells_declared : (start at : ℕ) (l : Local) (ls : List Local) (c : List Bool) → at ≡ length ls → l.number ≡ length c
    → Cells start ls c (record { names = []; places = []; captures = []; cells = λ behind. is_in at behind ∷ [] }) (ls ++ l ∷ [])
    (c ++ false ∷ [])
cells_declared start at l ls c here number n =
    let under = under_more ls l (length c) (length (c ++ false ∷ [])) n.1 (omega (arith, longer)) (omega (arith, longer, number)) in
    ((fits, under), captures)
  where
    longer : length (c ++ false ∷ []) ≡ suc (length c)
    longer = length_more c
      where
        length_more : (c : List Bool) → length (c ++ false ∷ []) ≡ suc (length c)
        length_more [] = refl
        length_more (x ∷ c) = ap suc (length_more c)

    fits : start ≤ length (ls ++ l ∷ [])
    fits = let le = n.0 in omega (arith, le, length_more ls)
      where
        length_more : (ls : List Local) → length (ls ++ l ∷ []) ≡ suc (length ls)
        length_more [] = refl
        length_more (x ∷ ls) = ap suc (length_more ls)

    there : length ls + 0 ≡ at
    there = omega (arith, here)

    begun : start ≤ at
    begun = let le = n.0 in omega (arith, le, here)

    captures : Captures start ls c (record { names = []; places = []; captures = []; cells = λ behind. is_in at behind ∷ [] })
        (ls ++ l ∷ []) (c ++ false ∷ [])
    captures places behind =
        let f = marks start places behind in
        marked_append f ls (l ∷ []) (c ++ false ∷ [])
        ∙ ap (λ x. if f (length ls + 0) then slice_set x l.number true else x) (marked_front f ls c (false ∷ []) n.1)
        ∙ set_last (marked f ls c) (f (length ls + 0)) l.number (length_marked f ls c ∙ sym number)
        ∙ ap (λ x. marked f ls c ++ x ∷ []) (ap f there ∙ inner_mark start places behind at begun)

-- ---- the end of a block

no_outer : (start i : ℕ) → marks start [] [] i ≡ false
no_outer start i = by (nat_lt i start)
  where
    by : (b : Bool) → ((b && false) || false) ≡ false
    by true = refl
    by false = refl

or-nothing : (b : Bool) → (b || false) ≡ b
or-nothing true = refl
or-nothing false = refl

or_last : (a b : Bool) → (b || (a || false)) ≡ (a || b)
or_last true true = refl
or_last true false = refl
or_last false true = refl
or_last false false = refl

or_third : (a b c : Bool) → (c || (a || b)) ≡ (a || (b || c))
or_third true true true = refl
or_third true true false = refl
or_third true false true = refl
or_third true false false = refl
or_third false true true = refl
or_third false true false = refl
or_third false false true = refl
or_third false false false = refl

in_both : (i : ℕ) (xs ys : List (List ℕ)) → is_in i (xs ++ ys) ≡ (is_in i xs || is_in i ys)
in_both i xs ys = list_any-append (list_any (nat_eq i)) xs ys

pub cells_ended : (start : ℕ) (ns : Names) (ls ms : List Local) (c d : List Bool) (u : Named) → Adds ns ls ms
    → Cells start ls c u ms d → Cells start ls c (ended u) ls d
cells_ended start ns ls ms c d u more h n = (
  (n.0, under_front ls more.0 (length d) (subst (λ x. Under x (length d)) more.1 ((h n).0).1)),
  λ places behind.
      marked_more (marks start places []) (marks start (u.places ++ places) (u.captures ++ [])) (λ i. is_in i behind)
      (marks start places behind) (marks start (u.places ++ places) (u.captures ++ behind)) ls c d (u.cells [])
      n.1
      (λ i. or_last (nat_lt i start && member i places) (is_in i behind))
      (λ i.
      ap (λ x. is_in i behind || ((nat_lt i start && member i (u.places ++ places)) || is_in i x)) (append-nil u.captures)
      ∙ or_third (nat_lt i start && member i (u.places ++ places)) (is_in i u.captures) (is_in i behind)
      ∙ ap (λ x. (nat_lt i start && member i (u.places ++ places)) || x) (sym (in_both i u.captures behind)))
      (front places ∙ (h n).1 places []),
)
  where
    later : (places : List ℕ) (i : ℕ) → marks start places [] (length ls + i) ≡ false
    later places i = let le = n.0 in inner_mark start places [] (length ls + i) (omega (arith, le))

    front : (places : List ℕ) → marked (marks start places []) ls d ≡ marked (marks start places []) ms d
    front places =
        sym (ap (λ x. marked (marks start places []) x d) more.1
        ∙ marked_append (marks start places []) ls more.0 d
        ∙ marked_none (λ i. marks start places [] (length ls + i)) more.0 (marked (marks start places []) ls d) (later places))

-- ---- the end of a function body

member_outer : (i count : ℕ) (ns : List ℕ) → member i (of_outer count ns) ≡ (nat_lt i count && member i ns)
member_outer i count [] = by (nat_lt i count)
  where
    by : (b : Bool) → false ≡ (b && false)
    by true = refl
    by false = refl
member_outer i count (n ∷ ns) = by (nat_eq i n) (nat_lt n count) refl refl (member_outer i count ns)
  where
    by : (a b : Bool) → nat_eq i n ≡ a → nat_lt n count ≡ b → member i (of_outer count ns) ≡ (nat_lt i count && member i ns)
        → member i (if b then n ∷ of_outer count ns else of_outer count ns) ≡ (nat_lt i count && (a || member i ns))
    by true true e f rest =
        ap (λ x. x || member i (of_outer count ns)) e ∙ ap (λ x. x && true) (sym (ap (λ x. nat_lt x count) (eqb-true i n e) ∙ f))
    by true false e f rest =
        let more : nat_lt i count ≡ false = ap (λ x. nat_lt x count) (eqb-true i n e) ∙ f in
        rest ∙ ap (λ x. x && member i ns) more ∙ ap (λ x. x && true) (sym more)
    by false true e f rest = ap (λ x. x || member i (of_outer count ns)) e ∙ rest
    by false false e f rest = rest

or_true : (b : Bool) → (b || true) ≡ true
or_true true = refl
or_true false = refl

or_swapped : (a b : Bool) → (a || b) ≡ (b || a)
or_swapped true b = sym (or_true b)
or_swapped false b = sym (or-nothing b)

or_grouped : (a b c : Bool) → ((a || b) || c) ≡ (a || (b || c))
or_grouped true b c = refl
or_grouped false b c = refl

member_added : (i n : ℕ) (ns : List ℕ) → member i (added n ns) ≡ (member i ns || nat_eq i n)
member_added i n ns = by (member n ns) (nat_eq i n) refl refl
  where
    by : (a b : Bool) → member n ns ≡ a → nat_eq i n ≡ b → member i (if a then ns else ns ++ n ∷ []) ≡ (member i ns || b)
    by true true e f = ap (λ x. member x ns) (eqb-true i n f) ∙ e ∙ sym (or_true (member i ns))
    by true false e f = sym (or-nothing (member i ns))
    by false b e f = list_any-append (nat_eq i) ns (n ∷ []) ∙ ap (λ x. member i ns || x) (or-nothing (nat_eq i n) ∙ f)

member_all : (i : ℕ) (xs ns : List ℕ) → member i (all_added xs ns) ≡ (member i ns || member i xs)
member_all i [] ns = sym (or-nothing (member i ns))
member_all i (x ∷ xs) ns = member_all i xs (added x ns) ∙ ap (λ b. b || member i xs) (member_added i x ns)
    ∙ or_grouped (member i ns) (nat_eq i x) (member i xs)

member_once : (i : ℕ) (xs : List ℕ) → member i (once xs) ≡ member i xs
member_once i xs = member_all i xs []

or_left : (o p b q c : Bool) → (((o && p) || b) || (q || c)) ≡ ((o && (q || p)) || (q || (c || b)))
or_left o p b true c = or_true ((o && p) || b) ∙ sym (or_true (o && true))
or_left o p b false c = or_grouped (o && p) b c ∙ ap (λ x. (o && p) || x) (or_swapped b c)

-- the captures of a body are marked already, and are named in the body around it
left_mark : (start count : ℕ) (u : Named) (places : List ℕ) (behind : List (List ℕ)) (i : ℕ)
    → (marks start places behind i || marks count (u.places ++ []) (u.captures ++ []) i)
    ≡ marks start ((captured count u).places ++ places) ((captured count u).captures ++ behind) i
left_mark start count u places behind i =
    let ps = of_outer count u.places in
    let q = member i ps in
    ap (λ x. marks start places behind i || marks count x (u.captures ++ []) i) (append-nil u.places)
    ∙ ap (λ x. marks start places behind i || marks count u.places x i) (append-nil u.captures)
    ∙ ap (λ x. marks start places behind i || (x || is_in i u.captures)) (sym (member_outer i count u.places))
    ∙ or_left (nat_lt i start) (member i places) (is_in i behind) q (is_in i u.captures)
    ∙ ap (λ x. (nat_lt i start && x) || (q || (is_in i u.captures || is_in i behind))) (sym (list_any-append (nat_eq i) ps places))
    ∙ ap (λ x. (nat_lt i start && member i (ps ++ places)) || (q || x)) (sym (in_both i u.captures behind))
    ∙ ap (λ x. (nat_lt i start && member i (ps ++ places)) || (x || is_in i (u.captures ++ behind))) (sym (member_once i ps))

pub cells_left : (start count : ℕ) (ns : Names) (ls ms : List Local) (c d : List Bool) (u : Named) → count ≡ length ls
    → Adds ns ls ms → Cells count ls c u ms d → Cells start ls c (captured count u) ls d
cells_left start count ns ls ms c d u all more h n = (
  (n.0, under_front ls more.0 (length d) (subst (λ x. Under x (length d)) more.1 (known.0).1)),
  λ places behind.
      marked_more (marks count [] []) (marks count (u.places ++ []) (u.captures ++ [])) (marks start places behind)
      (marks start places behind)
      (marks start ((captured count u).places ++ places) ((captured count u).captures ++ behind)) ls c d (u.cells [])
      n.1
      (λ i. ap (λ x. marks start places behind i || x) (no_outer count i) ∙ or-nothing (marks start places behind i))
      (left_mark start count u places behind)
      (marked_none (marks count [] []) ls d (no_outer count) ∙ sym (marked_none (marks count [] []) ms d (no_outer count))
      ∙ known.1 [] []),
)
  where
    known : Numbered count ms d × Captures count ls c u ms d
    known = h (omega (arith, all), n.1)

-- ---- a script

pub cells_found : (ls : List Local) (d : List Bool) (u : Named) → Cells 0 [] [] u ls d → d ≡ u.cells []
cells_found ls d u h = sym (marked_none (marks 0 [] []) ls d (no_outer 0)) ∙ (h (omega arith, tt)).1 [] []
