use Rattle.std.proofs.Common.{refl, inl, inr}
use Rattle.lua_machine.proofs.machine.Machine.raise.Goals as goal

pub returns-in-Ok : goal.returns-in-Ok
returns-in-Ok g c =
    let e = c.in-Ok.ensures in
    inl (record { says = rw e.value refl; holds = rw (e.texts, e.heap) refl; left = refl; host = refl; stack = refl })

pub returns-in-Err : goal.returns-in-Err
returns-in-Err g c = inr (rw (c.lose.ensures, c.in-Err.ensures.err) (record { says = refl; holds = refl; left = refl; host = refl; stack = refl }))
