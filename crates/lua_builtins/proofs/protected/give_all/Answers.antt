use Rattle.std.proofs.Common.{sym, ◌∙◌}
use Rattle.object_store.specs.declared.value.Value.TheVariants as V
use Rattle.lua_meaning.specs.Run.{lost}
use Rattle.lua_operands.proofs.Puts.{on_ok}
use Rattle.lua_builtins.proofs.Stacks.{all_args, above_all}
use Rattle.lua_builtins.proofs.protected.give_all.Goals as goal

pub returns-in-Failed : goal.returns-in-Failed
returns-in-Failed g c = λ l. record { leads = λ k. rw c.in-Failed.ensures lost; stack = tt }

pub returns-then-is_err : goal.returns-then-is_err
returns-then-is_err g c = λ l. record { leads = λ k. rw (c.lose.ensures, c.in-Well.ensures) lost; stack = tt }

pub returns-in-Failed-limited : goal.returns-in-Failed-limited
returns-in-Failed-limited g c = λ l.
    let m = c.args.m.now in
    let s = m.stack.values in
    let vs = c.args.values.values in
    let appended = on_ok c.append.result (sym c.is_err.ensures.value ∙ c.if-is_err.false) c.append.ensures.ok in
    let stacked = rw c.in-Well.ensures at appended in
    let counted = rw (stacked, c.in-Well.ensures, all_args c.args.at s vs V.True c.requires) at c.in-Failed-limited.ensures.leads in
    record { leads = λ k. counted k; stack = tt }

pub returns : goal.returns
returns g c = λ l.
    let m = c.args.m.now in
    let s = m.stack.values in
    let vs = c.args.values.values in
    let appended = on_ok c.append.result (sym c.is_err.ensures.value ∙ c.if-is_err.false) c.append.ensures.ok in
    let stacked = rw c.in-Well.ensures at appended in
    let counted = rw (stacked, c.in-Well.ensures, all_args c.args.at s vs V.True c.requires) at c.in-Well-limited.ensures.leads in
    let above = rw stacked at c.in-Well-limited.ensures.stack in
    record {
      leads = λ k. counted k;
      stack = above_all c.args.at m.stack c.limited.new.m.stack vs V.True c.requires above;
    }
