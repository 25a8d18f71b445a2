use Rattle.std.proofs.Common.{sym, ◌∙◌}
use Rattle.base_lib.specs.Shown.{shown}
use Rattle.lua_meaning.specs.Run.{lost}
use Rattle.lua_operands.proofs.Puts.{on_ok}
use Rattle.lua_builtins.proofs.TextTurns.{text_given}
use Rattle.lua_builtins.proofs.texts.add_shown.Goals as goal

pub returns-then-is_err : goal.returns-then-is_err
returns-then-is_err g c = record { leads = λ k. rw c.lose.ensures lost; text = tt; stack = tt }

pub returns : goal.returns
returns g c =
    let m = c.args.m.now in
    let e = on_ok c.push_shown.result (sym c.is_err.ensures.value ∙ c.if-is_err.false) c.push_shown.ensures.ok in
    text_given g.H.Host.asked m c.args.line.now.items (shown m.state.texts c.args.value) c.push_shown.new.out.items e
