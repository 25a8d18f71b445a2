-- How a pattern is read from the left, and which fault is met first (Lua manual, section 6.4.1).
use Rattle.std.specs.Prelude.{ℕ, zero, suc, ◌+◌, ◌-◌, Bool, true, false, not, nat_eq, nat_lt, nat_le, ◌&&◌, ◌||◌, List, [], ◌∷◌, ◌++◌, length, take, slice_get, Option, Some, None, Result, Ok, Err, if◌then◌else◌}
use Rattle.std.specs.List.{list_any}
use Rattle.lua_pattern.specs.declared.class.Class.{Class}
use Rattle.lua_pattern.specs.declared.class.Class.TheVariants.{Letter, Control, Digit, Printed, Lower, Punctuation, Space, Upper, Alphanumeric, HexDigit}
use Rattle.lua_pattern.specs.declared.single.Part.{Part}
use Rattle.lua_pattern.specs.declared.single.Part.TheVariants as part
use Rattle.lua_pattern.specs.declared.single.Single.{Single}
use Rattle.lua_pattern.specs.declared.single.Single.TheVariants.{Any, Of, Set, NotSet}
use Rattle.lua_pattern.specs.declared.item.Repeat.{Repeat}
use Rattle.lua_pattern.specs.declared.item.Repeat.TheVariants.{Longest, OnceOrMore, Shortest, Optional}
use Rattle.lua_pattern.specs.declared.item.Bracket.TheVariants as bracket
use Rattle.lua_pattern.specs.declared.item.Step.TheVariants.{Once, Back, Balanced, Border, End}
use Rattle.lua_pattern.specs.declared.item.Item.{Item}
use Rattle.lua_pattern.specs.declared.item.Item.TheVariants as item
use Rattle.lua_pattern.specs.declared.pattern.Pattern.{Pattern}
use Rattle.lua_pattern.specs.declared.fault.PatternFault.{PatternFault}
use Rattle.lua_pattern.specs.declared.fault.PatternFault.TheVariants.{BadItem, OpenSet, BadCapture, EndsWithPercent, TooManyItems}
use Rattle.lua_pattern.specs.Classes.{is_upper, is_digit, is_alphanumeric}

-- what stands at the front of the bytes, and the bytes behind it; or the fault that is met there
abbrev pub Front : Type 0 → Type 0
Front A = Result (A × List ℕ) PatternFault

-- ---- what one `%` names

-- the letter in lower case
abbrev pub lower : ℕ → ℕ
lower b = if is_upper b then b + 32 else b

-- the class that a letter in lower case names
abbrev pub class_of : ℕ → Option Class
class_of b =
    if nat_eq b 97 then Some Letter
    else (if nat_eq b 99 then Some Control
    else (if nat_eq b 100 then Some Digit
    else (if nat_eq b 103 then Some Printed
    else (if nat_eq b 108 then Some Lower
    else (if nat_eq b 112 then Some Punctuation
    else (if nat_eq b 115 then Some Space
    else (if nat_eq b 117 then Some Upper
    else (if nat_eq b 119 then Some Alphanumeric
    else (if nat_eq b 120 then Some HexDigit else None)))))))))

-- a capital names the bytes that are not in the class
abbrev pub in_or_not : Bool → Class → Part
in_or_not true class = part.NotIn class
in_or_not false class = part.In class

-- a class, or the byte itself where it is no letter and no digit
abbrev pub escaped : ℕ → Option Part
escaped b = named (class_of (lower b))
  where
    named : Option Class → Option Part
    named (Some class) = Some (in_or_not (is_upper b) class)
    named None = if is_alphanumeric b then None else Some (part.Byte b)

-- ---- sets

-- the part that `%` and the byte after it name in a set
abbrev pub escaped_part : List ℕ → Front Part
escaped_part [] = Err OpenSet
escaped_part (b ∷ bs) = named (escaped b)
  where
    named : Option Part → Front Part
    named (Some part) = Ok (part, bs)
    named None = Err BadItem

-- two bytes with a `-` between them, or the byte alone; `]` and `%` end no range
abbrev pub range_or_byte : ℕ → List ℕ → Front Part
range_or_byte first [] = Ok (part.Byte first, [])
range_or_byte first (b ∷ []) = Ok (part.Byte first, b ∷ [])
range_or_byte first (b ∷ last ∷ bs) =
    if nat_eq b 45 && not (nat_eq last 93 || nat_eq last 37) then Ok (part.Range first last, bs)
    else Ok (part.Byte first, b ∷ last ∷ bs)

abbrev pub set_part : List ℕ → Front Part
set_part [] = Err OpenSet
set_part (b ∷ bs) = if nat_eq b 37 then escaped_part bs else range_or_byte b bs

-- what stands behind the `]` at the front, if one stands there
abbrev pub past_bracket : List ℕ → Option (List ℕ)
past_bracket [] = None
past_bracket (b ∷ bs) = if nat_eq b 93 then Some bs else None

abbrev pub with_part : Part → Front (List Part) → Front (List Part)
with_part part (Ok x) = Ok (part ∷ x.0, x.1)
with_part part (Err e) = Err e

-- the parts behind one, if the set does not end there
abbrev pub more_parts : (List ℕ → Front (List Part)) → List ℕ → Option (List ℕ) → Front (List Part)
more_parts more bs None = more bs
more_parts more bs (Some rest) = Ok ([], rest)

abbrev pub after_part : (List ℕ → Front (List Part)) → Front Part → Front (List Part)
after_part more (Ok x) = with_part x.0 (more_parts more x.1 (past_bracket x.1))
after_part more (Err e) = Err e

-- the parts of a set up to its `]`, of which the first may itself be a `]`; each takes a byte at
-- least, so as many turns as there are bytes are enough
abbrev pub set_parts : ℕ → List ℕ → Front (List Part)
set_parts zero bs = Err OpenSet
set_parts (suc turns) bs = after_part (set_parts turns) (set_part bs)

abbrev pub as_set : Bool → Front (List Part) → Front Single
as_set true (Ok x) = Ok (NotSet x.0, x.1)
as_set false (Ok x) = Ok (Set x.0, x.1)
as_set negated (Err e) = Err e

-- a set, from the byte after its `[` on
abbrev pub set_single : List ℕ → Front Single
set_single [] = Err OpenSet
set_single (b ∷ bs) =
    if nat_eq b 94 then as_set true (set_parts (length bs) bs)
    else as_set false (set_parts (length (b ∷ bs)) (b ∷ bs))

-- ---- single items, and how often they are matched

-- a class or a byte, where this byte stands after `%`
abbrev pub escaped_single : ℕ → List ℕ → Front Single
escaped_single b bs = named (escaped b)
  where
    named : Option Part → Front Single
    named (Some part) = Ok (Of part, bs)
    named None = Err BadItem

abbrev pub plain_single : ℕ → List ℕ → Front Single
plain_single b bs =
    if nat_eq b 46 then Ok (Any, bs)
    else (if nat_eq b 91 then set_single bs else Ok (Of (part.Byte b), bs))

-- `*`, `+`, `-` or `?`
abbrev pub repeat_of : ℕ → Option Repeat
repeat_of b =
    if nat_eq b 42 then Some Longest
    else (if nat_eq b 43 then Some OnceOrMore
    else (if nat_eq b 45 then Some Shortest
    else (if nat_eq b 63 then Some Optional else None)))

abbrev pub repeated_or_once : Single → ℕ → List ℕ → Option Repeat → Item × List ℕ
repeated_or_once single b bs (Some repeat) = (item.Repeated single repeat, bs)
repeated_or_once single b bs None = (item.Step (Once single), b ∷ bs)

abbrev pub with_repeat : Single → List ℕ → Item × List ℕ
with_repeat single [] = (item.Step (Once single), [])
with_repeat single (b ∷ bs) = repeated_or_once single b bs (repeat_of b)

abbrev pub repeated : Front Single → Front Item
repeated (Ok x) = Ok (with_repeat x.0 x.1)
repeated (Err e) = Err e

-- the two bytes after `%b`
abbrev pub balance : List ℕ → Front Item
balance [] = Err BadItem
balance (opener ∷ []) = Err BadItem
balance (opener ∷ closer ∷ bs) = Ok (item.Step (Balanced opener closer), bs)

abbrev pub bordered : Front Single → Front Item
bordered (Ok x) = Ok (item.Step (Border x.0), x.1)
bordered (Err e) = Err e

-- the set after `%f`
abbrev pub border : List ℕ → Front Item
border [] = Err BadItem
border (b ∷ bs) = if nat_eq b 91 then bordered (set_single bs) else Err BadItem

-- ---- captures

-- how many captures began, and the numbers of those that are open, the innermost last
pub record Begun : Type 0 where
  pub count : ℕ
  pub unclosed : List ℕ

-- an item with what captures there are behind it, and the bytes behind it
abbrev pub Read : Type 0
Read = Result (Item × Begun × List ℕ) PatternFault

-- an item that is no bracket
abbrev pub kept : Begun → Front Item → Read
kept begun (Ok x) = Ok (x.0, begun, x.1)
kept begun (Err e) = Err e

-- what stands behind the `)` at the front, if one stands there
abbrev pub past_close : List ℕ → Option (List ℕ)
past_close [] = None
past_close (b ∷ bs) = if nat_eq b 41 then Some bs else None

-- `()` or `(`
abbrev pub position_or_open : Begun → List ℕ → Option (List ℕ) → Read
position_or_open begun bs (Some rest) =
    Ok (item.Mark bracket.Position begun.count, record begun { count = begun.count + 1 }, rest)
position_or_open begun bs None =
    Ok (
      item.Mark bracket.Open begun.count,
      record {
        count = begun.count + 1;
        unclosed = begun.unclosed ++ begun.count ∷ [];
      },
      bs,
    )

-- at most 32 captures
abbrev pub opened : Begun → List ℕ → Read
opened begun bs =
    if nat_lt begun.count 32 then position_or_open begun bs (past_close bs) else Err BadCapture

-- `)` closes the innermost capture that is open
abbrev pub closed : Begun → List ℕ → Read
closed begun bs = by_last (slice_get begun.unclosed (length begun.unclosed - 1))
  where
    by_last : Option ℕ → Read
    by_last (Some number) =
        Ok (
          item.Mark bracket.Close number,
          record begun {
            unclosed = take (length begun.unclosed - 1) begun.unclosed;
          },
          bs,
        )
    by_last None = Err BadCapture

-- whether the capture of this number, from 0, began and is closed
abbrev pub is_closed : Begun → ℕ → Bool
is_closed begun number =
    nat_lt number begun.count && not (list_any (λ n. nat_eq n number) begun.unclosed)

-- a digit after `%`; `%0` names no capture
abbrev pub back : Begun → ℕ → List ℕ → Read
back begun b bs =
    if nat_eq b 48 then Err BadItem
    else (if is_closed begun (b - 49) then Ok (item.Step (Back (b - 49)), begun, bs)
    else Err BadCapture)

-- ---- items

-- an item, from the byte after its `%` on
abbrev pub escaped_item : Begun → List ℕ → Read
escaped_item begun [] = Err EndsWithPercent
escaped_item begun (b ∷ bs) =
    if nat_eq b 98 then kept begun (balance bs)
    else (if nat_eq b 102 then kept begun (border bs)
    else (if is_digit b then back begun b bs
    else kept begun (repeated (escaped_single b bs))))

abbrev pub is_empty : List ℕ → Bool
is_empty [] = true
is_empty (b ∷ bs) = false

-- the item that begins with this byte
abbrev pub item_at : Begun → ℕ → List ℕ → Read
item_at begun b bs =
    if nat_eq b 40 then opened begun bs
    else (if nat_eq b 41 then closed begun bs
    else (if nat_eq b 37 then escaped_item begun bs
    else (if nat_eq b 36 && is_empty bs then Ok (item.Step End, begun, [])
    else kept begun (repeated (plain_single b bs)))))

-- `$` at the end counts as no item
abbrev pub is_end : Item → Bool
is_end (item.Step End) = true
is_end _ = false

-- the items with the number of captures
abbrev pub Items : Type 0
Items = Result (List Item × ℕ) PatternFault

-- all items, if no capture is open at the end
abbrev pub finished : List Item → ℕ → List ℕ → Items
finished items captures [] = Ok (items, captures)
finished items captures (n ∷ ns) = Err BadCapture

abbrev pub ended : Begun → Items
ended begun = finished [] begun.count begun.unclosed

abbrev pub with_item : Item → Items → Items
with_item item (Ok x) = Ok (item ∷ x.0, x.1)
with_item item (Err e) = Err e

-- at most 200 items
abbrev pub too_many : ℕ → Item → Bool
too_many count item = nat_le 200 count && not (is_end item)

abbrev pub after_item : ℕ → (Begun → List ℕ → Items) → Read → Items
after_item count more (Ok x) =
    if too_many count x.0 then Err TooManyItems else with_item x.0 (more x.1 x.2)
after_item count more (Err e) = Err e

-- the items from here on, behind so many others; each takes a byte at least, so as many turns as
-- there are bytes are enough
abbrev pub items_from : ℕ → ℕ → Begun → List ℕ → Items
items_from zero count begun bs = ended begun
items_from (suc turns) count begun [] = ended begun
items_from (suc turns) count begun (b ∷ bs) =
    after_item count (items_from turns (suc count)) (item_at begun b bs)

abbrev pub no_captures : Begun
no_captures = record { count = 0; unclosed = [] }

abbrev pub items_of : List ℕ → Items
items_of bs = items_from (length bs) 0 no_captures bs

-- a pattern is tried at one place alone where `^` stands first
abbrev pub as_pattern : Bool → Items → Result Pattern PatternFault
as_pattern anchored (Ok x) = Ok (record { anchored = anchored; captures = x.1; items = x.0 })
as_pattern anchored (Err e) = Err e

-- the pattern without a look at a `^` at its front
unfoldable pub unanchored : List ℕ → Result Pattern PatternFault
unanchored bs = as_pattern false (items_of bs)

unfoldable pub compiled : List ℕ → Result Pattern PatternFault
compiled [] = as_pattern false (items_of [])
compiled (b ∷ bs) =
    if nat_eq b 94 then as_pattern true (items_of bs) else as_pattern false (items_of (b ∷ bs))
