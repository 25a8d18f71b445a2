-- What the calls of an object mean, over contents C, calls A and replies R as plain data.
use Rattle.std.specs.Prelude.{◌≡◌, Bool}
use Rattle.desk_object.specs.declared.ending.Ending.{Ending}
use Rattle.desk_object.specs.Endings.{MayEnd}

pub record Meaning (C A R : Type 0) : Type 1 where
  -- the content at the start
  pub opening : C
  -- the calls that may be made
  pub lawful : A → Type 0
  -- whether a call can be served
  pub fits : C → A → Bool
  -- a content, a call, its ending, the reply and the next content
  pub steps : C → A → Ending → R → C → Type 0

module _ {C A R : Type 0} (m : Meaning C A R) where
  -- a lawful call, which ends as it may, takes one content to the next
  abbrev pub Turns : C → A → Ending → R → C → Type 0
  Turns before call ending reply after =
      m.lawful call × MayEnd ending (m.fits before call) × m.steps before call ending reply after

  -- a content, a call and its ending have one reply and one next content
  abbrev pub IsDetermined : Type 0
  IsDetermined = (before : C) (call : A) (ending : Ending) (reply other : R) (after next : C)
      → m.steps before call ending reply after → m.steps before call ending other next
      → (reply ≡ other) × (after ≡ next)
