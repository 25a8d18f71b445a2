use Rattle.std.proofs.Common.{refl}
use Rattle.lua_meaning.specs.Run.{here, lost, wrote}
use Rattle.lua_machine.proofs.machine.Machine.intern.Goals as goal

pub returns-in-Ok : goal.returns-in-Ok
returns-in-Ok g c =
    let e = c.in-Ok.ensures in
    record { leads = λ k. rw (e.value, e.texts, e.heap) (wrote here); stack = refl }

pub returns-in-Err : goal.returns-in-Err
returns-in-Err g c = record { leads = λ k. rw (c.lose.ensures, c.in-Err.ensures.err) lost; stack = tt }
