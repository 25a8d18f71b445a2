-- Histories: lists of entries, their callers, their end, and what they lead to.
use Rattle.std.specs.Prelude.{◌≡◌, ℕ, ◌==◌, ◌||◌, ◌<◌, Bool, true, false, List, [], ◌∷◌, cond}
use Rattle.desk_object.specs.declared.entry.Entry.{Entry}
use Rattle.desk_object.specs.declared.entry.Entry.TheVariants.{Made, Close}
use Rattle.desk_object.specs.Meaning.{Meaning, Turns}

module _ {A R : Type 0} where
  abbrev pub caller_of : Entry A R → ℕ
  caller_of (Made caller call ending reply) = caller
  caller_of (Close caller) = caller

  -- the entries of one caller, in order
  abbrev pub calls_by : ℕ → List (Entry A R) → List (Entry A R)
  calls_by number [] = []
  calls_by number (entry ∷ entries) =
      cond (caller_of entry == number) (entry ∷ calls_by number entries) (calls_by number entries)

  abbrev pub is_close : Entry A R → Bool
  is_close (Made caller call ending reply) = false
  is_close (Close caller) = true

  -- the history has a Close
  abbrev pub is_closed : List (Entry A R) → Bool
  is_closed [] = false
  is_closed (entry ∷ entries) = is_close entry || is_closed entries

  -- each caller is below this number
  abbrev pub AreBelow : ℕ → List (Entry A R) → Type 0
  AreBelow number [] = Unit {0}
  AreBelow number (entry ∷ entries) = (caller_of entry < number) × AreBelow number entries

module _ {C A R : Type 0} (m : Meaning C A R) where
  -- the entries, one after the other, take a content to another; a Close is the last of them
  abbrev pub Leads : C → List (Entry A R) → C → Type 0
  Leads before [] after = after ≡ before
  Leads before (Made caller call ending reply ∷ entries) after =
      (next : C) × Turns m before call ending reply next × Leads next entries after
  Leads before (Close caller ∷ entries) after = (entries ≡ []) × (after ≡ before)

  -- the history leads from the opening content to this one
  abbrev pub Reaches : List (Entry A R) → C → Type 0
  Reaches history content = Leads m.opening history content

  -- each call of the history was lawful, ended as it might, and had the reply that its place
  -- demands
  abbrev pub IsLegal : List (Entry A R) → Type 0
  IsLegal history = (content : C) × Reaches history content
