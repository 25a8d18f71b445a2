-- What follows a part of a part.
use Rattle.std.proofs.Common.{◌≡◌, Result, Ok, Err, refl}
use Rattle.lua_meaning.specs.Run.{World, Run, Next, and_then}
use Rattle.lua_meaning.specs.declared.fault.Fault.{Fault}

-- a fault is passed on once or twice
pub and_then_twice : {A B C : Type 0} (k : Next C) (go : B → World → Run) (first : A → World → Run) → and_then (and_then k go) first ≡ and_then k first
and_then_twice {A} {B} {C} k go first = λ j o w. each o w j
  where
    each : (o : Result A Fault) (w : World) → and_then (and_then k go) first o w ≡ and_then k first o w
    each (Ok a) w = refl
    each (Err f) w = refl
