-- The last visible local of a name is the innermost one.
use Rattle.std.proofs.Common.{◌≡◌, refl, ap, subst, ℕ, zero, suc, ◌+◌, ◌<◌, ltb, Bool, true, false, List, [], ◌∷◌, map, slice_get, Option, Some, None, if◌then◌else◌, arith, Decides, ◌↔◌}
use Rattle.std.specs.Str.{bytes_eq}
use Rattle.std.proofs.lemmas.Slice.Eq.{bytes_eq-Decides}
use borrow.Author.Tests.{ltb-true, ltb-false}
use Rattle.lua_scope.specs.declared.scopes.Local.{Local}
use Rattle.lua_scope.specs.Visible.{or_else, last_named_from, last_named}
use Rattle.lua_scope.specs.Binding.{Bytes, Names, Has, RefersTo, IsGlobal, innermost_from, innermost}

abbrev Answer : ℕ → Bytes → Names → Option ℕ → Type 0
Answer at name ls None = IsGlobal name ls
Answer at name ls (Some n) = (i : ℕ) × (n ≡ at + i) × RefersTo name ls i

later_none : (l : Bytes) (ls : Names) (name : Bytes) → IsGlobal name ls → (k : ℕ) → 0 < k → ¬ Has (l ∷ ls) k name
later_none l ls name g zero lt h = absurd (omega (arith, lt))
later_none l ls name g (suc k) lt h = g k h

none_more : (l : Bytes) (ls : Names) (name : Bytes) → (l ≡ name → false ≡ true) → IsGlobal name ls → (k : ℕ) → ¬ Has (l ∷ ls) k name
none_more l ls name other g zero h = let e : false ≡ true = other h in absurd (cc)
none_more l ls name other g (suc k) h = g k h

later_more : (l : Bytes) (ls : Names) (name : Bytes) (i : ℕ) → ((later : ℕ) → i < later → ¬ Has ls later name) → (k : ℕ) → suc i < k → ¬ Has (l ∷ ls) k name
later_more l ls name i g zero lt h = absurd (omega (arith, lt))
later_more l ls name i g (suc k) lt h = g k (omega (arith, lt)) h

one_further : (n at i : ℕ) → n ≡ suc at + i → n ≡ at + suc i
one_further n at i e = omega (arith, e)

sound : (at : ℕ) (name : Bytes) (ls : Names) → Answer at name ls (innermost_from at name ls)
sound at name [] = λ k h. h
sound at name (l ∷ ls) = by (innermost_from (suc at) name ls) (bytes_eq l name) (bytes_eq-Decides l name) (sound (suc at) name ls)
  where
    by : (o : Option ℕ) (b : Bool) → Decides b (l ≡ name) → Answer (suc at) name ls o → Answer at name (l ∷ ls) (or_else o (if b then Some at else None))
    by None true d g = (0, omega arith, (d.0 refl, later_none l ls name g))
    by None false d g = none_more l ls name d.1 g
    by (Some n) b d a = (suc a.0, one_further n at a.0 a.1, ((a.2).0, later_more l ls name a.0 (a.2).1))

-- a name refers to one local
unique : (name : Bytes) (ls : Names) (i j : ℕ) → RefersTo name ls i → RefersTo name ls j → i ≡ j
unique name ls i j r s = by (ltb i j) (ltb j i) refl refl
  where
    by : (a b : Bool) → ltb i j ≡ a → ltb j i ≡ b → i ≡ j
    by true b e f = absurd (r.1 j (ltb-true i j e) s.0)
    by false true e f = absurd (s.1 i (ltb-true j i f) r.0)
    by false false e f = omega (arith, ltb-false i j e, ltb-false j i f)

pub innermost_refers : (name : Bytes) (ls : Names) (at : ℕ) → (innermost name ls ≡ Some at) ↔ RefersTo name ls at
innermost_refers name ls at = (λ e. there (subst (Answer 0 name ls) e (sound 0 name ls)), back (innermost name ls) (sound 0 name ls))
  where
    there : ((i : ℕ) × (at ≡ 0 + i) × RefersTo name ls i) → RefersTo name ls at
    there a = let is : a.0 ≡ at = omega (arith, a.1) in subst (RefersTo name ls) is a.2

    back : (o : Option ℕ) → Answer 0 name ls o → RefersTo name ls at → o ≡ Some at
    back None g r = absurd (g at r.0)
    back (Some n) a r = let same : a.0 ≡ at = unique name ls a.0 at a.2 r in ap Some (omega (arith, a.1, same))

pub none_global : (name : Bytes) (ls : Names) → (innermost name ls ≡ None) ↔ IsGlobal name ls
none_global name ls = (λ e. subst (Answer 0 name ls) e (sound 0 name ls), back (innermost name ls) (sound 0 name ls))
  where
    back : (o : Option ℕ) → Answer 0 name ls o → IsGlobal name ls → o ≡ None
    back None a g = refl
    back (Some n) a g = absurd (g a.0 (a.2).0)

-- the same among the locals themselves
innermost_from-is : (at : ℕ) (name : Bytes) (ls : List Local) → innermost_from at name (map (λ l. l.name) ls) ≡ last_named_from at name ls
innermost_from-is at name [] = refl
innermost_from-is at name (l ∷ ls) = ap (λ o. or_else o (if bytes_eq l.name name then Some at else None)) (innermost_from-is (suc at) name ls)

pub innermost_is : (name : Bytes) (ls : List Local) → innermost name (map (λ l. l.name) ls) ≡ last_named name ls
innermost_is name ls = innermost_from-is 0 name ls

-- a place that is found is in the list
abbrev pub Within : List Local → Option ℕ → Type 0
Within ls None = Unit {0}
Within ls (Some at) = (l : Local) × (slice_get ls at ≡ Some l)

abbrev WithinFrom : ℕ → List Local → Option ℕ → Type 0
WithinFrom at ls None = Unit {0}
WithinFrom at ls (Some n) = (i : ℕ) × (n ≡ at + i) × ((l : Local) × (slice_get ls i ≡ Some l))

within_from : (at : ℕ) (name : Bytes) (ls : List Local) → WithinFrom at ls (last_named_from at name ls)
within_from at name [] = tt
within_from at name (l ∷ ls) = by (last_named_from (suc at) name ls) (bytes_eq l.name name) (within_from (suc at) name ls)
  where
    by : (o : Option ℕ) (b : Bool) → WithinFrom (suc at) ls o → WithinFrom at (l ∷ ls) (or_else o (if b then Some at else None))
    by None true g = (0, omega arith, (l, refl))
    by None false g = tt
    by (Some n) b a = (suc a.0, one_further n at a.0 a.1, a.2)

pub within : (name : Bytes) (ls : List Local) → Within ls (last_named name ls)
within name ls = by (last_named name ls) (within_from 0 name ls)
  where
    by : (o : Option ℕ) → WithinFrom 0 ls o → Within ls o
    by None g = tt
    by (Some n) a = let is : a.0 ≡ n = omega (arith, a.1) in subst (λ i. (l : Local) × (slice_get ls i ≡ Some l)) is a.2
