-- Parts that are followed by a known value.
use Rattle.std.proofs.Common.{◌≡◌, ℤ, Ok, refl}
use Rattle.lanes_lib.specs.declared.ask.Ask.{Ask}
use Rattle.lanes_lib.specs.declared.ask.Answer.{Answer}
use Rattle.lua_meaning.specs.Run.{World, Run, Next, and_then, reaches}
use Rattle.lua_machine.specs.Piled.{Piled}
use Rattle.lua_machine.specs.declared.machine.Machine.{Machine}
use Rattle.lua_machine.specs.declared.machine.Done.{Done}
use Rattle.lua_machine.specs.declared.machine.Done.TheVariants.{Well, Failed}
use Rattle.lua_machine.specs.Does.{UnitOf, OnWell, unit}
use Rattle.lua_objects.specs.Found.{FoundOf}
use Rattle.lua_objects.specs.Fields.{next_key}

-- the key of the next item after a part
pub key_after : {H : Type 0} {asked : H → Ask → Answer → H → Type 0} (meaning : Next (Unit {0}) → Run) (i : ℤ) (m m1 : Machine H) (r : Done) → UnitOf asked meaning m r m1 →
    FoundOf asked (λ k. meaning (and_then k (λ u w. k (Ok i) w))) m (next_key r i) m1
key_after meaning i m m1 Well d = record { leads = λ k. d.leads (and_then k (λ u w. k (Ok i) w)); stack = d.stack }
key_after meaning i m m1 Failed d = record { leads = λ k. d.leads (and_then k (λ u w. k (Ok i) w)); stack = tt }

-- nothing follows a part
pub nothing_after : {H : Type 0} (r : Done) (m : Machine H) (k : Next (Unit {0})) (w : World) → reaches (unit r m) (and_then k (λ u w. k (Ok tt) w)) w ≡ reaches (unit r m) k w
nothing_after Well m k w = refl
nothing_after Failed m k w = refl

pub still : (r : Done) (s s1 s2 : Piled) → s1 ≡ s → OnWell r (s2 ≡ s1) → OnWell r (s2 ≡ s)
still r s s1 s2 e h = rw e at h
