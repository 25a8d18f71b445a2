-- The matches of a pattern at a place, in order of preference (Lua manual, section 6.4.1).
use Rattle.std.specs.Prelude.{ℕ, zero, suc, ◌+◌, ◌-◌, Bool, not, nat_eq, ◌&&◌, List, [], ◌∷◌, length, take, drop, min, map, slice_get, slice_set, Option, Some, None, option_map, option_to_list, if◌then◌else◌}
use Rattle.std.specs.List.{flat_map, starts_with}
use Rattle.lua_pattern.specs.declared.single.Single.{Single}
use Rattle.lua_pattern.specs.declared.item.Repeat.{Repeat}
use Rattle.lua_pattern.specs.declared.item.Repeat.TheVariants.{Longest, OnceOrMore, Shortest, Optional}
use Rattle.lua_pattern.specs.declared.item.Bracket.{Bracket}
use Rattle.lua_pattern.specs.declared.item.Bracket.TheVariants.{Open, Close, Position}
use Rattle.lua_pattern.specs.declared.item.Step.{Step}
use Rattle.lua_pattern.specs.declared.item.Step.TheVariants.{Once, Back, Balanced, Border, End}
use Rattle.lua_pattern.specs.declared.item.Item.{Item}
use Rattle.lua_pattern.specs.declared.item.Item.TheVariants as item
use Rattle.lua_pattern.specs.declared.capture.Capture.{Capture}
use Rattle.lua_pattern.specs.declared.capture.Capture.TheVariants as capture
use Rattle.lua_pattern.specs.Singles.{admits, run_length}

-- where items end, and what the captures are then
pub record Ending : Type 0 where
  pub at : ℕ
  pub captures : List Capture

abbrev pub ending : List Capture → ℕ → Ending
ending captures at = record { at = at; captures = captures }

-- the bytes of the subject from one place up to another
abbrev pub between : List ℕ → ℕ → ℕ → List ℕ
between subject start end = take (end - start) (drop start subject)

-- the byte at a place, and 0 past the end
abbrev pub byte_from : List ℕ → ℕ
byte_from [] = 0
byte_from (b ∷ bs) = b

-- the byte before a place, and 0 before the first
abbrev pub byte_before : List ℕ → ℕ → ℕ
byte_before subject zero = 0
byte_before subject (suc n) = byte_from (drop n subject)

-- the brackets that are open after a byte; one that is both closes
abbrev pub depth_after : ℕ → ℕ → ℕ → ℕ → ℕ
depth_after opener closer b depth =
    if nat_eq b closer then depth - 1 else (if nat_eq b opener then depth + 1 else depth)

-- a byte that isn't in the set before the place, and one that is after it
abbrev pub is_border : Single → List ℕ → ℕ → Bool
is_border set subject at =
    not (admits set (byte_before subject at)) && admits set (byte_from (drop at subject))

-- how many bytes there are up to the one that closes the last of the open brackets
abbrev pub closing : ℕ → ℕ → ℕ → List ℕ → Option ℕ
closing opener closer depth [] = None
closing opener closer depth (b ∷ bs) =
    if nat_eq b closer && nat_eq depth 1 then Some 1
    else option_map suc (closing opener closer (depth_after opener closer b depth) bs)

-- how many bytes there are from an opening bracket at the front up to the one that closes it
abbrev pub balanced : ℕ → ℕ → List ℕ → Option ℕ
balanced opener closer [] = None
balanced opener closer (b ∷ bs) =
    if nat_eq b opener then option_map suc (closing opener closer 1 bs) else None

-- where one byte that the single item matches ends
abbrev pub once : Single → ℕ → List ℕ → Option ℕ
once single at [] = None
once single at (b ∷ bs) = if admits single b then Some (suc at) else None

-- where the text of a capture ends that stands here again; a position has none
abbrev pub again : List ℕ → ℕ → Option Capture → Option ℕ
again subject at None = None
again subject at (Some (capture.Position p)) = None
again subject at (Some (capture.Span start end)) =
    let text = between subject start end in
    if starts_with nat_eq (drop at subject) text then Some (at + length text) else None

-- where an item ends that matches in one way at most
abbrev pub step_end : Step → List ℕ → ℕ → List Capture → Option ℕ
step_end (Once single) subject at captures = once single at (drop at subject)
step_end (Back number) subject at captures = again subject at (slice_get captures number)
step_end (Balanced opener closer) subject at captures =
    option_map (λ n. at + n) (balanced opener closer (drop at subject))
step_end (Border set) subject at captures = if is_border set subject at then Some at else None
step_end End subject at captures = if nat_eq at (length subject) then Some at else None

-- so many places from this one on, the last of them first
abbrev pub descending : ℕ → ℕ → List ℕ
descending at zero = []
descending at (suc n) = (at + n) ∷ descending at n

-- the places from this one up to the one n bytes after it
abbrev pub ascending : ℕ → ℕ → List ℕ
ascending at zero = at ∷ []
ascending at (suc n) = at ∷ ascending (suc at) n

-- where a repeated item ends, in order of preference, if it matches the next n bytes one by one
abbrev pub places : Repeat → ℕ → ℕ → List ℕ
places Longest at n = descending at (suc n)
places OnceOrMore at n = descending (suc at) n
places Shortest at n = ascending at n
places Optional at n = descending at (suc (min n 1))

-- where a capture starts
abbrev pub start_of : Option Capture → ℕ
start_of None = 0
start_of (Some (capture.Span start end)) = start
start_of (Some (capture.Position at)) = at

-- what is noted of a capture at its bracket, beside what was noted before
abbrev pub noted : Bracket → Option Capture → ℕ → Capture
noted Open before at = capture.Span at at
noted Close before at = capture.Span (start_of before) at
noted Position before at = capture.Position at

-- how an item matches at a place, in order of preference
abbrev pub ways : Item → List ℕ → ℕ → List Capture → List Ending
ways (item.Step step) subject at captures =
    map (ending captures) (option_to_list (step_end step subject at captures))
ways (item.Repeated single repeat) subject at captures =
    map (ending captures) (places repeat at (run_length (admits single) (drop at subject)))
ways (item.Mark bracket number) subject at captures =
    let capture = noted bracket (slice_get captures number) at in
    ending (slice_set captures number capture) at ∷ []

-- all matches of the items at a place, in order of preference
abbrev pub matches : List Item → List ℕ → ℕ → List Capture → List Ending
matches [] subject at captures = ending captures at ∷ []
matches (item ∷ items) subject at captures =
    flat_map (λ way. matches items subject way.at way.captures) (ways item subject at captures)

-- the first of a list
abbrev pub first : {A : Type 0} → List A → Option A
first [] = None
first (x ∷ xs) = Some x

-- the match that is preferred
unfoldable pub best : List Item → List ℕ → ℕ → List Capture → Option Ending
best items subject at captures = first (matches items subject at captures)

-- the match that is preferred among those that begin in one of these ways
unfoldable pub best_of : List Item → List ℕ → List Ending → Option Ending
best_of items subject ways =
    first (flat_map (λ way. matches items subject way.at way.captures) ways)
