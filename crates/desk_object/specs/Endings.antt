-- How a call may end.
use Rattle.std.specs.Prelude.{◌≡◌, ◌⊎◌, Bool, true, false}
use Rattle.desk_object.specs.declared.ending.Ending.{Ending}
use Rattle.desk_object.specs.declared.ending.Ending.TheVariants.{Served, GaveUp, Withdrawn}
use Rattle.desk_object.specs.declared.ending.Mode.{Mode}
use Rattle.desk_object.specs.declared.ending.Mode.TheVariants.{Try, GiveUp, Withdraw}

-- a call is served where it fits and gives up where it does not; withdrawn it may be either way
abbrev pub MayEnd : Ending → Bool → Type 0
MayEnd Served fits = fits ≡ true
MayEnd GaveUp fits = fits ≡ false
MayEnd Withdrawn fits = Unit {0}

-- the endings that a caller asks for by a mode
abbrev pub Allows : Mode → Ending → Type 0
Allows Try ending = ending ≡ Served
Allows GiveUp ending = (ending ≡ Served) ⊎ (ending ≡ GaveUp)
Allows Withdraw ending = ending ≡ Withdrawn
