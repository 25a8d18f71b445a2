-- Lists of entries: their callers, their Close, and what they lead to.
use Rattle.std.proofs.Common.{◌≡◌, ℕ, ◌<◌, ◌≤◌, ◌==◌, ◌||◌, Bool, true, false, true≢false, List, [], ◌∷◌, ◌++◌, length, refl, ap, sym, ◌∙◌, subst, arith, cond, append_assoc, length-append, eq-eqb, ne_eqb, ◌≢◌}
use Rattle.std.proofs.lemmas.List.{append-nil}
use mathlib.Core.List.{IsPrefix}
use Rattle.desk_object.specs.declared.ending.Ending.{Ending}
use Rattle.desk_object.specs.declared.entry.Entry.{Entry}
use Rattle.desk_object.specs.declared.entry.Entry.TheVariants.{Made, Close}
use Rattle.desk_object.specs.Meaning.{Meaning, Turns, IsDetermined}
use Rattle.desk_object.specs.History.{caller_of, calls_by, is_close, is_closed, AreBelow, Leads}

module _ {A R : Type 0} where
  -- ---- callers

  pub calls_by-append : (n : ℕ) (xs ys : List (Entry A R)) → calls_by n (xs ++ ys) ≡ calls_by n xs ++ calls_by n ys
  calls_by-append n [] ys = refl
  calls_by-append n (x ∷ xs) ys = elim (caller_of x == n) as (λ b. cond b (x ∷ calls_by n (xs ++ ys)) (calls_by n (xs ++ ys)) ≡ cond b (x ∷ calls_by n xs) (calls_by n xs) ++ calls_by n ys) [ true ↦ ap (λ l. x ∷ l) (calls_by-append n xs ys) | false ↦ calls_by-append n xs ys ]

  -- an entry of another caller
  pub calls_by-other : (n : ℕ) (xs : List (Entry A R)) (e : Entry A R) → caller_of e ≢ n → calls_by n (xs ++ e ∷ []) ≡ calls_by n xs
  calls_by-other n xs e ne = calls_by-append n xs (e ∷ []) ∙ (ap (λ b. calls_by n xs ++ cond b (e ∷ []) []) (ne_eqb _ _ ne) ∙ append-nil (calls_by n xs))

  -- an entry of this caller
  pub calls_by-own : (n : ℕ) (xs : List (Entry A R)) (e : Entry A R) → caller_of e ≡ n → calls_by n (xs ++ e ∷ []) ≡ calls_by n xs ++ e ∷ []
  calls_by-own n xs e is = calls_by-append n xs (e ∷ []) ∙ ap (λ b. calls_by n xs ++ cond b (e ∷ []) []) (eq-eqb _ _ is)

  -- entries that have none of this caller
  pub calls_by-none : (n : ℕ) (xs ys : List (Entry A R)) → calls_by n ys ≡ [] → calls_by n (xs ++ ys) ≡ calls_by n xs
  calls_by-none n xs ys none = calls_by-append n xs ys ∙ (ap (λ l. calls_by n xs ++ l) none ∙ append-nil (calls_by n xs))

  empty_rest : (xs ys : List (Entry A R)) → xs ++ ys ≡ xs → ys ≡ []
  empty_rest xs [] e = refl
  empty_rest xs (y ∷ ys) e = absurd (omega (arith, ap length e, length-append xs (y ∷ ys)))

  -- what was added has none of a caller whose calls stayed the same
  pub none_added : (n : ℕ) (xs ys : List (Entry A R)) → calls_by n (xs ++ ys) ≡ calls_by n xs → calls_by n ys ≡ []
  none_added n xs ys e = empty_rest (calls_by n xs) (calls_by n ys) (sym (calls_by-append n xs ys) ∙ e)

  -- a list between two with the same calls of a number has these calls too
  pub calls_between : (n : ℕ) (xs ys log : List (Entry A R)) → IsPrefix xs ys → IsPrefix ys log → calls_by n log ≡ calls_by n xs → calls_by n ys ≡ calls_by n xs
  calls_between n xs ys log p q e =
      let whole : xs ++ (p.0 ++ q.0) ≡ log = sym (append_assoc xs p.0 q.0) ∙ (ap (λ w. w ++ q.0) p.1 ∙ q.1) in
      let none : calls_by n (p.0 ++ q.0) ≡ [] = none_added n xs (p.0 ++ q.0) (ap (calls_by n) whole ∙ e) in
      let first : calls_by n p.0 ≡ [] = first_empty (calls_by n p.0) (calls_by n q.0) (sym (calls_by-append n p.0 q.0) ∙ none) in
      ap (calls_by n) (sym p.1) ∙ calls_by-none n xs p.0 first
    where
      first_empty : (es fs : List (Entry A R)) → es ++ fs ≡ [] → es ≡ []
      first_empty [] fs h = refl
      first_empty (e ∷ es) fs h = absurd cc

  pub below-more : (k l : ℕ) (xs : List (Entry A R)) → k ≤ l → AreBelow k xs → AreBelow l xs
  below-more k l [] le b = tt
  below-more k l (x ∷ xs) le b = (omega (arith, le, b.0), below-more k l xs le b.1)

  pub below-snoc : (k : ℕ) (xs : List (Entry A R)) (e : Entry A R) → AreBelow k xs → caller_of e < k → AreBelow k (xs ++ e ∷ [])
  below-snoc k [] e b lt = (lt, tt)
  below-snoc k (x ∷ xs) e b lt = (b.0, below-snoc k xs e b.1 lt)

  -- a number above all callers has no calls
  pub no_calls : (n : ℕ) (xs : List (Entry A R)) → AreBelow n xs → calls_by n xs ≡ []
  no_calls n [] b = refl
  no_calls n (x ∷ xs) b = ap (λ t. cond t (x ∷ calls_by n xs) (calls_by n xs)) (ne_eqb (caller_of x) n (λ e. (let lt = b.0 in omega (arith, e, lt)))) ∙ no_calls n xs b.1

  -- ---- the Close

  pub closed-append : (xs ys : List (Entry A R)) → is_closed (xs ++ ys) ≡ (is_closed xs || is_closed ys)
  closed-append [] ys = refl
  closed-append (x ∷ xs) ys = elim (is_close x) as (λ b. (b || is_closed (xs ++ ys)) ≡ ((b || is_closed xs) || is_closed ys)) [ true ↦ refl | false ↦ closed-append xs ys ]

  pub closed-made : (xs : List (Entry A R)) (e : Entry A R) → is_close e ≡ false → is_closed xs ≡ false → is_closed (xs ++ e ∷ []) ≡ false
  closed-made xs e is h = closed-append xs (e ∷ []) ∙ ((λ i. h i || (is i || false)))

  pub closed-close : (xs : List (Entry A R)) (e : Entry A R) → is_close e ≡ true → is_closed (xs ++ e ∷ []) ≡ true
  closed-close [] e is = ap (λ b. b || false) is
  closed-close (x ∷ xs) e is = elim (is_close x) as (λ b. (b || is_closed (xs ++ e ∷ [])) ≡ true) [ true ↦ refl | false ↦ closed-close xs e is ]

  -- an open history that an entry closes ends with that Close
  pub last_close : (xs : List (Entry A R)) (e : Entry A R) → is_closed xs ≡ false → is_closed (xs ++ e ∷ []) ≡ true → is_close e ≡ true
  last_close xs e h k = elim (is_close e) as (λ b. is_close e ≡ b → b ≡ true) [ true ↦ λ _. refl | false ↦ λ f. sym (closed-made xs e f h) ∙ k ] refl

  -- an open history ends with no Close
  pub open_made : (xs : List (Entry A R)) (e : Entry A R) → is_closed (xs ++ e ∷ []) ≡ false → is_close e ≡ false
  open_made xs e h = elim (is_close e) as (λ b. is_close e ≡ b → b ≡ false) [ false ↦ λ _. refl | true ↦ λ f. sym (closed-close xs e f) ∙ h ] refl

  pub open_prefix : (xs ys : List (Entry A R)) → is_closed (xs ++ ys) ≡ false → is_closed xs ≡ false
  open_prefix xs ys h = first_open (is_closed xs) (is_closed ys) (sym (closed-append xs ys) ∙ h)
    where
      first_open : (a b : Bool) → (a || b) ≡ false → a ≡ false
      first_open false b e = refl
      first_open true b e = absurd (true≢false e)

-- ---- what a history leads to

module _ {C A R : Type 0} (m : Meaning C A R) where
  pub leads-made : (before : C) (es : List (Entry A R)) (mid : C) (n : ℕ) (a : A) (e : Ending) (r : R) (after : C) → is_closed es ≡ false → Leads m before es mid → Turns m mid a e r after → Leads m before (es ++ Made n a e r ∷ []) after
  leads-made before [] mid n a e r after open_yet l t = (after, subst (λ (x : C). Turns m x a e r after) l t, refl)
  leads-made before (Made k a' e' r' ∷ es) mid n a e r after open_yet l t = (l.0, l.1, leads-made l.0 es mid n a e r after open_yet l.2 t)
  leads-made before (Close k ∷ es) mid n a e r after open_yet l t = absurd (true≢false open_yet)

  pub leads-close : (before : C) (es : List (Entry A R)) (after : C) (n : ℕ) → is_closed es ≡ false → Leads m before es after → Leads m before (es ++ Close n ∷ []) after
  leads-close before [] after n open_yet l = (refl, l)
  leads-close before (Made k a e r ∷ es) after n open_yet l = (l.0, l.1, leads-close l.0 es after n open_yet l.2)
  leads-close before (Close k ∷ es) after n open_yet l = absurd (true≢false open_yet)

  -- a history leads to one content
  pub leads_once : IsDetermined m → (before : C) (es : List (Entry A R)) (after next : C) → Leads m before es after → Leads m before es next → after ≡ next
  leads_once d before [] after next l k = l ∙ sym k
  leads_once d before (Made n a e r ∷ es) after next l k =
      let same : l.0 ≡ k.0 = (d before a e r r l.0 k.0 l.1.2 k.1.2).1 in
      leads_once d l.0 es after next l.2 (subst (λ (x : C). Leads m x es next) (sym same) k.2)
  leads_once d before (Close n ∷ es) after next l k = l.1 ∙ sym k.1
