-- The first match, place by place.
use Rattle.std.proofs.Common.{◌≡◌, refl, ap, sym, ◌∙◌, ℕ, zero, suc, ◌+◌, ◌-◌, ◌≤◌, ◌<◌, Bool, true, false, List, [], ◌∷◌, ◌++◌, length, map, Option, Some, None, option_map, arith, add-one}
use Rattle.std.specs.List.{flat_map}
use Rattle.lua_pattern.specs.declared.pattern.Pattern.{Pattern}
use Rattle.lua_pattern.specs.declared.places.Match.{Match}
use Rattle.lua_pattern.specs.declared.capture.Capture.{Capture}
use Rattle.lua_pattern.specs.Matches.{Ending, ending, matches, first, best, ascending}
use Rattle.lua_pattern.specs.declared.item.Item.{Item}
use Rattle.lua_pattern.specs.View.{Finds}
use Rattle.lua_pattern.proofs.BestLemmas.{found_so, missed_so}
use Rattle.lua_pattern.specs.Found.{blank, from_place, all_at, match_at, tried, found}

abbrev pub matched : ℕ → ℕ → List Capture → Match
matched start end captures = record { start = start; end = end; captures = captures }

first_map : (start : ℕ) (ways : List Ending) → first (map (from_place start) ways) ≡ option_map (from_place start) (first ways)
first_map start [] = refl
first_map start (way ∷ ways) = refl

pub match_at_some : (p : Pattern) (s : List ℕ) (at end : ℕ) (new : List Capture) → best p.items s at (blank p.captures) ≡ Some (ending new end) → match_at p s at ≡ Some (matched at end new)
unfolding match_at best
match_at_some p s at end new e = first_map at (matches p.items s at (blank p.captures)) ∙ ap (option_map (from_place at)) e

pub match_at_none : (p : Pattern) (s : List ℕ) (at : ℕ) → best p.items s at (blank p.captures) ≡ None → match_at p s at ≡ None
unfolding match_at best
match_at_none p s at e = first_map at (matches p.items s at (blank p.captures)) ∙ ap (option_map (from_place at)) e

first_then : (xs ys : List Match) (m : Match) → first xs ≡ Some m → first (xs ++ ys) ≡ Some m
first_then [] ys m e = cc
first_then (x ∷ xs) ys m e = e

none_then : (xs ys : List Match) → first xs ≡ None → first (xs ++ ys) ≡ first ys
none_then [] ys e = refl
none_then (x ∷ xs) ys e = cc

at_first : (p : Pattern) (s : List ℕ) (at : ℕ) → match_at p s at ≡ first (all_at p s at)
unfolding match_at
at_first p s at = refl

tried_some : (p : Pattern) (s : List ℕ) (anchored : Bool) (at n : ℕ) (m : Match) → first (all_at p s at) ≡ Some m → (length s - at ≡ n) → first (flat_map (all_at p s) (tried anchored s at)) ≡ Some m
tried_some p s true at n m e d = first_then (all_at p s at) [] m e
tried_some p s false at zero m e d = rw d (first_then (all_at p s at) [] m e)
tried_some p s false at (suc n) m e d = rw d (first_then (all_at p s at) (flat_map (all_at p s) (ascending (suc at) n)) m e)

pub found_here : (p : Pattern) (s : List ℕ) (at end : ℕ) (new : List Capture) → best p.items s at (blank p.captures) ≡ Some (ending new end) → found p s at ≡ Some (matched at end new)
unfolding found
found_here p s at end new e = tried_some p s p.anchored at (length s - at) (matched at end new) (sym (at_first p s at) ∙ match_at_some p s at end new e) refl

anchored_none : (p : Pattern) (s : List ℕ) (at : ℕ) → first (all_at p s at) ≡ None → first (flat_map (all_at p s) (tried true s at)) ≡ None
anchored_none p s at e = none_then (all_at p s at) [] e

pub found_anchored : (p : Pattern) (s : List ℕ) (at : ℕ) → p.anchored ≡ true → best p.items s at (blank p.captures) ≡ None → found p s at ≡ None
unfolding found
found_anchored p s at a e = ap (λ b. first (flat_map (all_at p s) (tried b s at))) a ∙ anchored_none p s at (sym (at_first p s at) ∙ match_at_none p s at e)

last_none : (p : Pattern) (s : List ℕ) (anchored : Bool) (at : ℕ) → first (all_at p s at) ≡ None → (length s - at ≡ 0) → first (flat_map (all_at p s) (tried anchored s at)) ≡ None
last_none p s true at e d = none_then (all_at p s at) [] e
last_none p s false at e d = rw d (none_then (all_at p s at) [] e)

pub found_last : (p : Pattern) (s : List ℕ) (at : ℕ) → length s ≤ at → best p.items s at (blank p.captures) ≡ None → found p s at ≡ None
unfolding found
found_last p s at h e = last_none p s p.anchored at (sym (at_first p s at) ∙ match_at_none p s at e) (omega arith)

one_less : (len at : ℕ) → at < len → len - at ≡ suc (len - (at + 1))
one_less len at h = omega arith

free_next : (p : Pattern) (s : List ℕ) (at : ℕ) → at < length s → first (all_at p s at) ≡ None → first (flat_map (all_at p s) (tried false s at)) ≡ first (flat_map (all_at p s) (tried false s (at + 1)))
free_next p s at h e = rw (one_less (length s) at h) (none_then (all_at p s at) (flat_map (all_at p s) (ascending (suc at) (length s - (at + 1)))) e ∙ rw (add-one at) refl)

pub found_next : (p : Pattern) (s : List ℕ) (at : ℕ) → p.anchored ≡ false → at < length s → best p.items s at (blank p.captures) ≡ None → found p s at ≡ found p s (at + 1)
unfolding found
found_next p s at a h e =
    ap (λ b. first (flat_map (all_at p s) (tried b s at))) a
    ∙ (free_next p s at h (sym (at_first p s at) ∙ match_at_none p s at e) ∙ ap (λ b. first (flat_map (all_at p s) (tried b s (at + 1)))) (sym a))

-- ---- what the code answers

best_is : (p : Pattern) (s : List ℕ) (at : ℕ) (items : List Item) (caps : List Capture) (o : Option Ending) → items ≡ p.items → caps ≡ blank p.captures → best items s at caps ≡ o → best p.items s at (blank p.captures) ≡ o
best_is p s at items caps o i b e = rw (i, b) at e

pub match_given : (p : Pattern) (s : List ℕ) (at end : ℕ) (items : List Item) (caps new kept : List Capture) (r : Bool) → items ≡ p.items → caps ≡ blank p.captures → Finds (best items s at caps) r caps new end → r ≡ true → kept ≡ new → Some (matched at end kept) ≡ match_at p s at
match_given p s at end items caps new kept r i b f t k = ap (λ cs. Some (matched at end cs)) k ∙ sym (match_at_some p s at end new (best_is p s at items caps (Some (ending new end)) i b (found_so (best items s at caps) r caps new end f t)))

pub match_none_given : (p : Pattern) (s : List ℕ) (at end : ℕ) (items : List Item) (caps new : List Capture) (r : Bool) → items ≡ p.items → caps ≡ blank p.captures → Finds (best items s at caps) r caps new end → r ≡ false → None ≡ match_at p s at
match_none_given p s at end items caps new r i b f t = sym (match_at_none p s at (best_is p s at items caps None i b (missed_so (best items s at caps) r caps new end f t).0))

pub found_given : (p : Pattern) (s : List ℕ) (from at end : ℕ) (items : List Item) (caps new kept : List Capture) (r : Bool) → found p s at ≡ found p s from → items ≡ p.items → caps ≡ blank p.captures → Finds (best items s at caps) r caps new end → r ≡ true → kept ≡ new → Some (matched at end kept) ≡ found p s from
found_given p s from at end items caps new kept r same i b f t k = ap (λ cs. Some (matched at end cs)) k ∙ (sym (found_here p s at end new (best_is p s at items caps (Some (ending new end)) i b (found_so (best items s at caps) r caps new end f t))) ∙ same)

pub anchored_given : (p : Pattern) (s : List ℕ) (from at end : ℕ) (items : List Item) (caps new : List Capture) (r : Bool) → found p s at ≡ found p s from → items ≡ p.items → caps ≡ blank p.captures → Finds (best items s at caps) r caps new end → r ≡ false → p.anchored ≡ true → None ≡ found p s from
anchored_given p s from at end items caps new r same i b f t a = sym (found_anchored p s at a (best_is p s at items caps None i b (missed_so (best items s at caps) r caps new end f t).0)) ∙ same

pub last_given : (p : Pattern) (s : List ℕ) (from at end : ℕ) (items : List Item) (caps new : List Capture) (r : Bool) → found p s at ≡ found p s from → items ≡ p.items → caps ≡ blank p.captures → Finds (best items s at caps) r caps new end → r ≡ false → length s ≤ at → None ≡ found p s from
last_given p s from at end items caps new r same i b f t h = sym (found_last p s at h (best_is p s at items caps None i b (missed_so (best items s at caps) r caps new end f t).0)) ∙ same

pub next_given : (p : Pattern) (s : List ℕ) (from at end : ℕ) (items : List Item) (caps new : List Capture) (r : Bool) → found p s at ≡ found p s from → items ≡ p.items → caps ≡ blank p.captures → Finds (best items s at caps) r caps new end → r ≡ false → p.anchored ≡ false → at < length s → found p s (at + 1) ≡ found p s from
next_given p s from at end items caps new r same i b f t a h = sym (found_next p s at a h (best_is p s at items caps None i b (missed_so (best items s at caps) r caps new end f t).0)) ∙ same
