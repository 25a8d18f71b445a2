-- The fields of a metatable that the runtime reads (Lua 5.4 manual, sections 2.4 and 6.1). Each
-- state has their names as its first texts, in one order.
use Rattle.std.specs.Prelude.{◌≡◌, ℕ, List, [], ◌∷◌, codes, length, map, take}
use Rattle.object_store.specs.declared.event.Event.{Event}
use Rattle.object_store.specs.declared.event.Event.TheVariants as event
use Rattle.object_store.specs.declared.value.Value.{Value}
use Rattle.object_store.specs.declared.value.Value.TheVariants.{Str}

abbrev pub event_name : Event → List ℕ
event_name event.Index = codes "__index"
event_name event.NewIndex = codes "__newindex"
event_name event.Call = codes "__call"
event_name event.Add = codes "__add"
event_name event.Sub = codes "__sub"
event_name event.Mul = codes "__mul"
event_name event.IDiv = codes "__idiv"
event_name event.Mod = codes "__mod"
event_name event.Unm = codes "__unm"
event_name event.BAnd = codes "__band"
event_name event.BOr = codes "__bor"
event_name event.BXor = codes "__bxor"
event_name event.Shl = codes "__shl"
event_name event.Shr = codes "__shr"
event_name event.BNot = codes "__bnot"
event_name event.Concat = codes "__concat"
event_name event.Len = codes "__len"
event_name event.Eq = codes "__eq"
event_name event.Lt = codes "__lt"
event_name event.Le = codes "__le"
event_name event.ToString = codes "__tostring"
event_name event.Metatable = codes "__metatable"
event_name event.Pairs = codes "__pairs"

-- the place of the name in the order
abbrev pub event_number : Event → ℕ
event_number event.Index = 0
event_number event.NewIndex = 1
event_number event.Call = 2
event_number event.Add = 3
event_number event.Sub = 4
event_number event.Mul = 5
event_number event.IDiv = 6
event_number event.Mod = 7
event_number event.Unm = 8
event_number event.BAnd = 9
event_number event.BOr = 10
event_number event.BXor = 11
event_number event.Shl = 12
event_number event.Shr = 13
event_number event.BNot = 14
event_number event.Concat = 15
event_number event.Len = 16
event_number event.Eq = 17
event_number event.Lt = 18
event_number event.Le = 19
event_number event.ToString = 20
event_number event.Metatable = 21
event_number event.Pairs = 22

-- the name as a string
abbrev pub event_key : Event → Value
event_key e = Str (record { number = event_number e })

-- all events in their order
abbrev pub all_events : List Event
all_events =
    event.Index
    ∷ event.NewIndex ∷ event.Call ∷ event.Add ∷ event.Sub ∷ event.Mul ∷ event.IDiv ∷ event.Mod
    ∷ event.Unm ∷ event.BAnd ∷ event.BOr ∷ event.BXor ∷ event.Shl ∷ event.Shr ∷ event.BNot
    ∷ event.Concat ∷ event.Len ∷ event.Eq ∷ event.Lt ∷ event.Le ∷ event.ToString
    ∷ event.Metatable ∷ event.Pairs ∷ []

-- the names of all events, in the same order
unfoldable pub event_names : List (List ℕ)
event_names = map event_name all_events

-- the texts begin with the names of all events
pub record BeginsWithEvents (texts : List (List ℕ)) : Type 0 where
  pub first : take (length event_names) texts ≡ event_names
