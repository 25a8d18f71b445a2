use Rattle.std.proofs.Common.{◌≡◌, ap, sym, ◌∙◌, ◌++◌, ◌+◌, Some, drop, length, refl, codes, arith, add-zero}
use Rattle.std.specs.Prelude.{slice_get}
use Rattle.lua_meaning.specs.Run.{here, lost, and_then}
use Rattle.lua_meaning.specs.Levels.{level}
use Rattle.lua_meaning.specs.Library.{print_rest}
use Rattle.lua_machine.specs.Does.{world}
use Rattle.lua_machine.proofs.Leads.{from, upto, leads_on}
use Rattle.lua_builtins.proofs.TextTurns.{if_fine, print_at, print_next, print_end}
use Rattle.lua_builtins.proofs.printing.add_rest.Goals as goal

pub loop-place-init : goal.loop-place-init
loop-place-init g c = record { goes = λ k. here; stack = refl }

pub returns-then-is_err : goal.returns-then-is_err
returns-then-is_err g c = record { leads = λ k. leads_on (c.loop-place.invariant.goes k) (rw c.lose.ensures lost); stack = tt }

pub returns-in-Failed : goal.returns-in-Failed
returns-in-Failed g c =
    let p = c.args.p.now in
    let l = level p c.args.b.now.level in
    let s = c.args.m.now.stack.values in
    let inv = c.loop-place.invariant in
    let line = c.loop-place.line.items in
    let i = c.loop-place.place in
    let w = world c.loop-place.m in
    let there = ap (λ j. slice_get s j) (sym (add-zero i)) ∙ (rw inv.stack at c.at-value.ensures) in
    record {
      leads = λ k. leads_on (inv.goes k) (from (print_at p l c.args.site k line s i c.at-value.result w there) (c.in-Failed.ensures.leads (and_then k (print_next p l c.args.site k line (drop (i + 1) s)))));
      stack = tt;
    }

pub loop-place-preserved : goal.loop-place-preserved
loop-place-preserved g c =
    let p = c.args.p.now in
    let l = level p c.args.b.now.level in
    let s = c.args.m.now.stack.values in
    let inv = c.loop-place.invariant in
    let line = c.loop-place.line.items in
    let line1 = c.push.new.self.items in
    let line2 = c.add_text.new.line.items in
    let i = c.loop-place.place in
    let w = world c.loop-place.m in
    let there = ap (λ j. slice_get s j) (sym (add-zero i)) ∙ (rw inv.stack at c.at-value.ensures) in
    let tab : line1 ≡ line ++ codes "\t" = if_fine c.push.result _ _ _ (sym c.is_err.ensures.value ∙ c.if-is_err.false) c.push.ensures.items in
    let t = drop (length line1) line2 in
    let lines : line2 ≡ line ++ codes "\t" ++ t = c.in-Well.ensures.text ∙ ap (λ x. x ++ t) tab in
    record {
      goes = λ k. leads_on (inv.goes k) (from (print_at p l c.args.site k line s i c.at-value.result w there) (upto (ap (λ x. Some (print_rest p l c.args.site x (drop (i + 1) s) (world c.add_text.new.m) k)) (sym lines)) (c.in-Well.ensures.leads (and_then k (print_next p l c.args.site k line (drop (i + 1) s))))));
      stack = c.in-Well.ensures.stack ∙ inv.stack;
    }

pub returns : goal.returns
returns g c =
    let p = c.args.p.now in
    let l = level p c.args.b.now.level in
    record {
      leads = λ k. upto (ap Some (print_end p l c.args.site k c.loop-place.line.items c.args.m.now.stack.values c.loop-place.place (world c.loop-place.m) (omega arith))) (c.loop-place.invariant.goes k);
      stack = c.loop-place.invariant.stack;
    }
