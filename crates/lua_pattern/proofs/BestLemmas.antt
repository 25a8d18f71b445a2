-- The best match, way by way.
use Rattle.std.proofs.Common.{◌≡◌, refl, ap, subst, sym, ◌∙◌, ℕ, zero, suc, ◌+◌, ◌-◌, ◌≤◌, ◌<◌, Bool, true, false, List, [], ◌∷◌, ◌++◌, length, drop, get_or, arith, add-one, Option, Some, None, map, slice_get, slice_set}
use Rattle.std.specs.List.{flat_map}
use Rattle.std.proofs.lemmas.List.{drop_all}
use Rattle.lua_pattern.specs.declared.item.Item.{Item}
use Rattle.lua_pattern.specs.declared.item.Item.TheVariants as item
use Rattle.lua_pattern.specs.declared.item.Step.{Step}
use Rattle.lua_pattern.specs.declared.item.Repeat.TheVariants.{Shortest}
use Rattle.lua_pattern.specs.declared.single.Single.{Single}
use Rattle.lua_pattern.specs.declared.capture.Capture.{Capture}
use Rattle.lua_pattern.specs.Singles.{admits, run_length}
use Rattle.lua_pattern.specs.Matches.{Ending, ending, ways, matches, first, best, best_of, step_end, descending, ascending}
use Rattle.lua_pattern.specs.View.{Finds}
use Rattle.lua_pattern.proofs.Runs.{run_goes_on, run_stops}

-- the first, if there is one, else the second
abbrev pub or_else : Option Ending → Option Ending → Option Ending
or_else None second = second
or_else (Some e) second = Some e

first_of : (xs ys : List Ending) → first (xs ++ ys) ≡ or_else (first xs) (first ys)
first_of [] ys = refl
first_of (x ∷ xs) ys = refl

pub best_end : (s : List ℕ) (at : ℕ) (caps : List Capture) → best [] s at caps ≡ Some (ending caps at)
unfolding best
best_end s at caps = refl

pub best_item : (item : Item) (items : List Item) (s : List ℕ) (at : ℕ) (caps : List Capture) → best (item ∷ items) s at caps ≡ best_of items s (ways item s at caps)
unfolding best best_of
best_item item items s at caps = refl

pub best_of_none : (items : List Item) (s : List ℕ) → best_of items s [] ≡ None
unfolding best_of
best_of_none items s = refl

pub best_of_more : (items : List Item) (s : List ℕ) (way : Ending) (ws : List Ending) → best_of items s (way ∷ ws) ≡ or_else (best items s way.at way.captures) (best_of items s ws)
unfolding best best_of
best_of_more items s way ws = first_of (matches items s way.at way.captures) (flat_map (λ way. matches items s way.at way.captures) ws)

one_way : (found : Option Ending) → or_else found None ≡ found
one_way None = refl
one_way (Some e) = refl

pub best_of_one : (items : List Item) (s : List ℕ) (at : ℕ) (caps : List Capture) → best_of items s (ending caps at ∷ []) ≡ best items s at caps
best_of_one items s at caps = best_of_more items s (ending caps at) [] ∙ rw (best_of_none items s) (one_way (best items s at caps))

-- ---- a step

pub best_step : (step : Step) (items : List Item) (s : List ℕ) (at after : ℕ) (caps : List Capture) → step_end step s at caps ≡ Some after → best (item.Step step ∷ items) s at caps ≡ best items s after caps
best_step step items s at after caps e = best_item (item.Step step) items s at caps ∙ rw e (best_of_one items s after caps)

pub best_stuck : (step : Step) (items : List Item) (s : List ℕ) (at : ℕ) (caps : List Capture) → step_end step s at caps ≡ None → best (item.Step step ∷ items) s at caps ≡ None
best_stuck step items s at caps e = best_item (item.Step step) items s at caps ∙ rw e (best_of_none items s)

-- ---- places from the last to the first

pub descending_found : (items : List Item) (s : List ℕ) (caps : List Capture) (least n : ℕ) (e : Ending) → best items s (least + n) caps ≡ Some e → best_of items s (map (ending caps) (descending least (suc n))) ≡ Some e
descending_found items s caps least n e found = best_of_more items s (ending caps (least + n)) (map (ending caps) (descending least n)) ∙ rw found refl

pub descending_next : (items : List Item) (s : List ℕ) (caps : List Capture) (least n : ℕ) → best items s (least + n) caps ≡ None → best_of items s (map (ending caps) (descending least (suc n))) ≡ best_of items s (map (ending caps) (descending least n))
descending_next items s caps least n none = best_of_more items s (ending caps (least + n)) (map (ending caps) (descending least n)) ∙ rw none refl

-- ---- places from the first to the last

pub ascending_found : (items : List Item) (s : List ℕ) (caps : List Capture) (at n : ℕ) (e : Ending) → best items s at caps ≡ Some e → best_of items s (map (ending caps) (ascending at n)) ≡ Some e
ascending_found items s caps at zero e found = best_of_more items s (ending caps at) [] ∙ rw found refl
ascending_found items s caps at (suc n) e found = best_of_more items s (ending caps at) (map (ending caps) (ascending (suc at) n)) ∙ rw found refl

pub ascending_next : (items : List Item) (s : List ℕ) (caps : List Capture) (at n : ℕ) → best items s at caps ≡ None → best_of items s (map (ending caps) (ascending at (suc n))) ≡ best_of items s (map (ending caps) (ascending (suc at) n))
ascending_next items s caps at n none = best_of_more items s (ending caps at) (map (ending caps) (ascending (suc at) n)) ∙ rw none refl

pub ascending_none : (items : List Item) (s : List ℕ) (caps : List Capture) (at : ℕ) → best items s at caps ≡ None → best_of items s (map (ending caps) (ascending at zero)) ≡ None
ascending_none items s caps at none = best_of_more items s (ending caps at) [] ∙ rw (none, best_of_none items s) refl

pub shortest_found : (items : List Item) (single : Single) (s : List ℕ) (caps : List Capture) (at : ℕ) (e : Ending) → best items s at caps ≡ Some e → best_of items s (ways (item.Repeated single Shortest) s at caps) ≡ Some e
shortest_found items single s caps at e found = ascending_found items s caps at (run_length (admits single) (drop at s)) e found

pub shortest_next : (items : List Item) (single : Single) (s : List ℕ) (caps : List Capture) (at : ℕ) → at < length s → admits single (get_or s at 0) ≡ true → best items s at caps ≡ None → best_of items s (ways (item.Repeated single Shortest) s at caps) ≡ best_of items s (ways (item.Repeated single Shortest) s (at + 1) caps)
shortest_next items single s caps at h e none = rw (run_goes_on (admits single) s at h e) (ascending_next items s caps at (run_length (admits single) (drop (at + 1) s)) none ∙ rw (add-one at) refl)

pub shortest_stops : (items : List Item) (single : Single) (s : List ℕ) (caps : List Capture) (at : ℕ) → at < length s → admits single (get_or s at 0) ≡ false → best items s at caps ≡ None → best_of items s (ways (item.Repeated single Shortest) s at caps) ≡ None
shortest_stops items single s caps at h e none = rw (run_stops (admits single) s at h e) (ascending_none items s caps at none)

pub shortest_ends : (items : List Item) (single : Single) (s : List ℕ) (caps : List Capture) (at : ℕ) → length s ≤ at → best items s at caps ≡ None → best_of items s (ways (item.Repeated single Shortest) s at caps) ≡ None
shortest_ends items single s caps at h none = rw (drop_all at s h) (ascending_none items s caps at none)

-- ---- captures that are put back

pub put_back : (captures : List Capture) (number : ℕ) (new old : Capture) → slice_get captures number ≡ Some old → slice_set (slice_set captures number new) number old ≡ captures
put_back [] number new old e = refl
put_back (x ∷ xs) zero new old e = cc
put_back (x ∷ xs) (suc n) new old e = ap (λ ys. x ∷ ys) (put_back xs n new old e)

pub not_put : (captures : List Capture) (number : ℕ) (new : Capture) → slice_get captures number ≡ None → slice_set captures number new ≡ captures
not_put [] number new e = refl
not_put (x ∷ xs) zero new e = cc
not_put (x ∷ xs) (suc n) new e = ap (λ ys. x ∷ ys) (not_put xs n new e)

-- ---- how the loop over the items ends

pub stuck : (left items rest : List Item) (here : Item) (step : Step) (s : List ℕ) (place at : ℕ) (caps old : List Capture) (found : Option ℕ) → best left s place caps ≡ best items s at old → left ≡ here ∷ rest → here ≡ item.Step step → found ≡ step_end step s place caps → found ≡ None → best items s at old ≡ None
stuck left items rest here step s place at caps old found same l h f none = sym same ∙ rw (l, h) (best_stuck step rest s place caps (sym f ∙ none))

pub moved : (left items rest : List Item) (here : Item) (step : Step) (s : List ℕ) (place at after : ℕ) (caps old : List Capture) (found : Option ℕ) → best left s place caps ≡ best items s at old → left ≡ here ∷ rest → here ≡ item.Step step → found ≡ step_end step s place caps → found ≡ Some after → best rest s after caps ≡ best items s at old
moved left items rest here step s place at after caps old found same l h f some = sym (best_step step rest s place after caps (sym f ∙ some)) ∙ (sym (rw (l, h) refl) ∙ same)

pub turned : (left items rest : List Item) (here item : Item) (s : List ℕ) (place at end : ℕ) (caps old new : List Capture) (r : Bool) → best left s place caps ≡ best items s at old → left ≡ here ∷ rest → here ≡ item → caps ≡ old → Finds (best_of rest s (ways item s place caps)) r caps new end → Finds (best items s at old) r old new end
turned left items rest here item s place at end caps old new r same l h kept found =
    let e : best_of rest s (ways item s place caps) ≡ best items s at old = sym (best_item item rest s place caps) ∙ (sym (rw (l, h) refl) ∙ same) in
    let P : Option Ending → Type 0 = λ m. Finds m r old new end in
    let Q : List Capture → Type 0 = λ cs. Finds (best_of rest s (ways item s place caps)) r cs new end in
    subst P e (subst Q kept found)

pub ended : (left items : List Item) (s : List ℕ) (place at : ℕ) (caps old : List Capture) → best left s place caps ≡ best items s at old → length left ≡ 0 → best items s at old ≡ Some (ending caps place)
ended [] items s place at caps old same none = sym same ∙ best_end s place caps
ended (x ∷ xs) items s place at caps old same none = absurd (omega arith)

-- ---- what an answer says

pub found_so : (m : Option Ending) (r : Bool) (old new : List Capture) (end : ℕ) → Finds m r old new end → r ≡ true → m ≡ Some (ending new end)
found_so m true old new end h e = h
found_so m false old new end h e = cc

pub missed_so : (m : Option Ending) (r : Bool) (old new : List Capture) (end : ℕ) → Finds m r old new end → r ≡ false → (m ≡ None) × (new ≡ old)
missed_so m true old new end h e = cc
missed_so m false old new end h e = h

-- ---- the loop over places from the last on

less_one : (n : ℕ) → suc n - 1 ≡ n
less_one n = omega arith

pub longest_found : (items : List Item) (s : List ℕ) (old caps new : List Capture) (least n count end : ℕ) (r : Bool) → 0 < n → best_of items s (map (ending caps) (descending least n)) ≡ best_of items s (map (ending old) (descending least count)) → Finds (best items s (least + (n - 1)) caps) r caps new end → r ≡ true → best_of items s (map (ending old) (descending least count)) ≡ Some (ending new end)
longest_found items s old caps new least zero count end r some same found e = absurd (omega arith)
longest_found items s old caps new least (suc n) count end r some same found e = sym same ∙ descending_found items s caps least n (ending new end) (rw (less_one n) at (found_so (best items s (least + (suc n - 1)) caps) r caps new end found e))

pub longest_next : (items : List Item) (s : List ℕ) (old caps new : List Capture) (least n count end : ℕ) (r : Bool) → 0 < n → best_of items s (map (ending caps) (descending least n)) ≡ best_of items s (map (ending old) (descending least count)) → Finds (best items s (least + (n - 1)) caps) r caps new end → r ≡ false → best_of items s (map (ending new) (descending least (n - 1))) ≡ best_of items s (map (ending old) (descending least count))
longest_next items s old caps new least zero count end r some same found e = absurd (omega arith)
longest_next items s old caps new least (suc n) count end r some same found e =
    let m = missed_so (best items s (least + (suc n - 1)) caps) r caps new end found e in
    rw (m.1, less_one n) (sym (descending_next items s caps least n (rw (less_one n) at m.0)) ∙ same)

pub longest_none : (items : List Item) (s : List ℕ) (old caps : List Capture) (least n count : ℕ) → n ≤ 0 → best_of items s (map (ending caps) (descending least n)) ≡ best_of items s (map (ending old) (descending least count)) → best_of items s (map (ending old) (descending least count)) ≡ None
longest_none items s old caps least zero count few same = sym same ∙ best_of_none items s
longest_none items s old caps least (suc n) count few same = absurd (omega arith)

-- ---- the loop over places from the first on

pub shorter_found : (items : List Item) (single : Single) (s : List ℕ) (old caps new : List Capture) (at place end : ℕ) (r : Bool) → best_of items s (ways (item.Repeated single Shortest) s place caps) ≡ best_of items s (ways (item.Repeated single Shortest) s at old) → Finds (best items s place caps) r caps new end → r ≡ true → best_of items s (ways (item.Repeated single Shortest) s at old) ≡ Some (ending new end)
shorter_found items single s old caps new at place end r same found e = sym same ∙ shortest_found items single s caps place (ending new end) (found_so (best items s place caps) r caps new end found e)

pub shorter_ends : (items : List Item) (single : Single) (s : List ℕ) (old caps new : List Capture) (at place end : ℕ) (r : Bool) → length s ≤ place → best_of items s (ways (item.Repeated single Shortest) s place caps) ≡ best_of items s (ways (item.Repeated single Shortest) s at old) → caps ≡ old → Finds (best items s place caps) r caps new end → r ≡ false → (best_of items s (ways (item.Repeated single Shortest) s at old) ≡ None) × (new ≡ old)
shorter_ends items single s old caps new at place end r h same kept found e =
    let m = missed_so (best items s place caps) r caps new end found e in
    (sym same ∙ shortest_ends items single s caps place h m.0, m.1 ∙ kept)

pub shorter_stops : (items : List Item) (single : Single) (s : List ℕ) (old caps new : List Capture) (at place end : ℕ) (r : Bool) → place < length s → admits single (get_or s place 0) ≡ false → best_of items s (ways (item.Repeated single Shortest) s place caps) ≡ best_of items s (ways (item.Repeated single Shortest) s at old) → caps ≡ old → Finds (best items s place caps) r caps new end → r ≡ false → (best_of items s (ways (item.Repeated single Shortest) s at old) ≡ None) × (new ≡ old)
shorter_stops items single s old caps new at place end r h not_in same kept found e =
    let m = missed_so (best items s place caps) r caps new end found e in
    (sym same ∙ shortest_stops items single s caps place h not_in m.0, m.1 ∙ kept)

pub shorter_next : (items : List Item) (single : Single) (s : List ℕ) (old caps new : List Capture) (at place end : ℕ) (r : Bool) → place < length s → admits single (get_or s place 0) ≡ true → best_of items s (ways (item.Repeated single Shortest) s place caps) ≡ best_of items s (ways (item.Repeated single Shortest) s at old) → Finds (best items s place caps) r caps new end → r ≡ false → best_of items s (ways (item.Repeated single Shortest) s (place + 1) new) ≡ best_of items s (ways (item.Repeated single Shortest) s at old)
shorter_next items single s old caps new at place end r h in_it same found e =
    let m = missed_so (best items s place caps) r caps new end found e in
    rw m.1 (sym (shortest_next items single s caps place h in_it m.0) ∙ same)

-- ---- a bracket

pub mark_found : (items : List Item) (s : List ℕ) (old caps new : List Capture) (at end : ℕ) (r : Bool) → caps ≡ old → Finds (best items s at caps) r caps new end → r ≡ true → best_of items s (ending old at ∷ []) ≡ Some (ending new end)
mark_found items s old caps new at end r same found e = best_of_one items s at old ∙ (rw (sym same) (found_so (best items s at caps) r caps new end found e))

pub mark_missed : (items : List Item) (s : List ℕ) (old caps new : List Capture) (at end : ℕ) (r : Bool) → caps ≡ old → Finds (best items s at caps) r caps new end → r ≡ false → (best_of items s (ending old at ∷ []) ≡ None) × (new ≡ old)
mark_missed items s old caps new at end r same found e =
    let m = missed_so (best items s at caps) r caps new end found e in
    (best_of_one items s at old ∙ (rw (sym same) m.0), m.1 ∙ same)
