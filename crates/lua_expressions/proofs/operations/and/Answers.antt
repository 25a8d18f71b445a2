use Rattle.std.proofs.Common.{◌≡◌, ◌∙◌, ap, sym, Some, true, false}
use Rattle.lua_program.specs.declared.expr.RPair.{out-RPair}
use Rattle.lua_meaning.specs.Run.{and_then}
use Rattle.lua_meaning.specs.Levels.{level}
use Rattle.lua_meaning.specs.Names.{is_true}
use Rattle.lua_machine.specs.Does.{frame, world}
use Rattle.lua_machine.proofs.Leads.{leads_on, upto}
use Rattle.lua_operands.proofs.Comparisons.{truthy_is}
use Rattle.lua_expressions.proofs.FormTurns.{either_next, and_stops, and_goes}
use Rattle.lua_expressions.proofs.operations.and.Goals as goal

pub returns-in-Failed : goal.returns-in-Failed
returns-in-Failed g c =
    let l = level c.args.p.now c.args.b.now.level in
    let f = frame c.args.f.now c.args.m.now.stack in
    record { leads = λ k. c.in-Failed.ensures.leads (and_then k (either_next l f k (out-RPair c.args.pair.now) false)); stack = tt }

pub returns-then-not-is_truthy : goal.returns-then-not-is_truthy
returns-then-not-is_truthy g c =
    let l = level c.args.p.now c.args.b.now.level in
    let f = frame c.args.f.now c.args.m.now.stack in
    let two = out-RPair c.args.pair.now in
    let m1 = c.one.new.m in
    let stops : is_true m1.value ≡ false = sym (truthy_is m1.value) ∙ sym c.is_truthy.ensures ∙ c.if-not-is_truthy.true in
    record {
      leads = λ k. upto (ap (λ x. Some x) (and_stops l f k two m1.value (world m1) stops)) (c.in-Well.ensures.leads (and_then k (either_next l f k two false)));
      stack = c.in-Well.ensures.stack;
    }

pub returns : goal.returns
returns g c =
    let l = level c.args.p.now c.args.b.now.level in
    let f = frame c.args.f.now c.args.m.now.stack in
    let two = out-RPair c.args.pair.now in
    let m1 = c.one.new.m in
    let goes : is_true m1.value ≡ true = sym (truthy_is m1.value) ∙ sym c.is_truthy.ensures ∙ c.if-not-is_truthy.false in
    let second = rw c.in-Well.ensures.stack at c.one-2.ensures.leads in
    record {
      leads = λ k. leads_on (upto (ap (λ x. Some x) (and_goes l f k two m1.value (world m1) goes)) (c.in-Well.ensures.leads (and_then k (either_next l f k two false)))) (second k);
      stack = rw c.in-Well.ensures.stack at c.one-2.ensures.stack;
    }
