use Rattle.std.proofs.Common.{sym, ◌∙◌}
use Rattle.lua_meaning.specs.Run.{lost}
use Rattle.lua_builtins.proofs.TextTurns.{if_fine}
use Rattle.lua_builtins.proofs.printing.print_line.Goals as goal

pub returns-then-is_err : goal.returns-then-is_err
returns-then-is_err g c = λ l. record { leads = λ k. rw c.lose.ensures lost; stack = tt }

pub returns-in-Ok : goal.returns-in-Ok
returns-in-Ok g c = λ l.
    let e = if_fine c.push.result _ _ _ (sym c.is_err.ensures.value ∙ c.if-is_err.false) c.push.ensures.items in
    let said = rw (c.in-Ok.ensures, e) at (c.asked.ensures l) in
    said

pub returns-in-Err : goal.returns-in-Err
returns-in-Err g c = λ l. record { leads = λ k. rw c.lose-in-Err.ensures lost; stack = tt }
