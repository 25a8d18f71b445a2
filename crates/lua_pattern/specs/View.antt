-- What the answers of the code show.
use Rattle.std.specs.Prelude.{◌≡◌, ℕ, Bool, true, false, List, [], ◌∷◌, ◌++◌, length, Option, Some, None, Result, Ok, Err}
use denote.Ref.{Bor}
use Rattle.lua_pattern.specs.declared.fault.PatternFault.{PatternFault}
use Rattle.lua_pattern.specs.declared.fault.PatternFault.TheVariants.{TooManyItems, Memory}
use Rattle.lua_pattern.specs.declared.item.Item.{Item}
use Rattle.lua_pattern.specs.declared.brackets.Brackets.{Brackets}
use Rattle.lua_pattern.specs.Reading.{Front, Read, Begun, too_many}
use Rattle.lua_pattern.specs.declared.capture.Capture.{Capture}
use Rattle.lua_pattern.specs.Matches.{Ending, ending}

-- whether there is a match, with where it ends and its captures; without one the captures are as
-- they were before
abbrev pub Finds : Option Ending → Bool → List Capture → List Capture → ℕ → Type 0
Finds match true old new end = match ≡ Some (ending new end)
Finds match false old new end = (match ≡ None) × (new ≡ old)

-- a byte and those behind it
abbrev pub joined : Option (ℕ × Bor (List ℕ)) → List ℕ
joined None = []
joined (Some x) = x.0 ∷ x.1.now

abbrev pub seen_bytes : Option (Bor (List ℕ)) → Option (List ℕ)
seen_bytes None = None
seen_bytes (Some bs) = Some bs.now

-- a fault is that of the definition, but for want of memory
abbrev pub Refuses : {A : Type 0} → Result A PatternFault → PatternFault → Type 0
Refuses outcome Memory = Unit {0}
Refuses outcome fault = outcome ≡ Err fault

-- what the reading of bytes gives, unless memory runs out
abbrev pub Reads : {A : Type 0} → Front A → Result (A × Bor (List ℕ)) PatternFault → Type 0
Reads outcome (Ok x) = outcome ≡ Ok (x.0, x.1.now)
Reads outcome (Err e) = Refuses outcome e

-- the same where captures are noted too
abbrev pub begun_of : Brackets → Begun
begun_of brackets = record { count = brackets.count; unclosed = brackets.unclosed.items }

abbrev pub ReadsItem : Read → Brackets → Result (Item × Bor (List ℕ)) PatternFault → Type 0
ReadsItem outcome brackets (Ok x) = outcome ≡ Ok (x.0, begun_of brackets, x.1.now)
ReadsItem outcome brackets (Err e) = Refuses outcome e

-- the value of the definition, unless memory runs out
abbrev pub Gives : {A : Type 0} → Result A PatternFault → Result A PatternFault → Type 0
Gives outcome (Ok x) = outcome ≡ Ok x
Gives outcome (Err e) = Refuses outcome e

-- an item is added behind the others, if it is none too many
abbrev pub Adds : List Item → Item → List Item → Result (Unit {0}) PatternFault → Type 0
Adds old item new (Ok _) = (too_many (length old) item ≡ false) × (new ≡ old ++ item ∷ [])
Adds old item new (Err TooManyItems) = too_many (length old) item ≡ true
Adds old item new (Err Memory) = Unit {0}
Adds old item new (Err _) = ⊥
