use Rattle.std.proofs.Common.{◌≡◌, ap, refl, sym, ◌∙◌, Some, None, arith, rules}
use Rattle.std.proofs.lemmas.Int.{ints, to_z-of_z}
use Rattle.std.specs.Prelude.{pos, FitsSigned}
use mir.Syntax.{w64}
use Rattle.object_store.specs.declared.value.Value.TheVariants as V
use Rattle.object_store.specs.declared.fault.LuaFault.TheVariants as lua
use Rattle.lua_meaning.specs.Run.{here}
use Rattle.lua_meaning.specs.Levels.{level}
use Rattle.lua_meaning.specs.Statements.{counted}
use Rattle.lua_machine.specs.Does.{frame, world}
use Rattle.lua_machine.proofs.Leads.{from, leads_on}
use Rattle.lua_machine.proofs.Frames.{around_same}
use Rattle.lua_machine.proofs.Failures.{fault_leads}
use Rattle.lua_statements.proofs.NumericTurns.{no_start, no_limit, no_step, zero_step, some_step, numbers_are}
use Rattle.lua_statements.proofs.numeric.for_on.Goals as goal

pub returns-in_default : goal.returns-in_default
returns-in_default g c =
    let m = c.args.m.now in
    let p = c.args.p.now in
    rw c.not_integer.ensures.tag record {
      leads = λ k. from (no_start p (level p c.args.b.now.level) c.args.r.now c.args.body.now (frame c.args.f.now m.stack) (world m) k c.args.start c.args.limit c.args.step c.in_default.not-Int)
          (fault_leads m c.not_integer.new.m k p 0 lua.NotInteger c.not_integer.ensures.fault);
      stack = tt;
    }

pub returns-in_default-limit : goal.returns-in_default-limit
returns-in_default-limit g c =
    let m = c.args.m.now in
    let p = c.args.p.now in
    let l = level p c.args.b.now.level in
    let f = frame c.args.f.now m.stack in
    let failed = c.not_integer-in_default-limit in
    rw failed.ensures.tag record {
      leads = λ k. from (numbers_are p l c.args.r.now c.args.body.now f (world m) k c.args.start c.args.limit c.args.step (V.Int c.in-Int.start) c.args.limit c.args.step c.in-Int.is refl refl
          ∙ no_limit p l c.args.r.now c.args.body.now f (world m) k c.in-Int.start c.args.limit c.args.step c.in_default-limit.not-Int)
          (fault_leads m failed.new.m k p 0 lua.NotInteger failed.ensures.fault);
      stack = tt;
    }

pub returns-in_default-step : goal.returns-in_default-step
returns-in_default-step g c =
    let m = c.args.m.now in
    let p = c.args.p.now in
    let l = level p c.args.b.now.level in
    let f = frame c.args.f.now m.stack in
    let failed = c.not_integer-in_default-step in
    rw failed.ensures.tag record {
      leads = λ k. from (numbers_are p l c.args.r.now c.args.body.now f (world m) k c.args.start c.args.limit c.args.step (V.Int c.in-Int.start) (V.Int c.in-Int-limit.limit) c.args.step c.in-Int.is c.in-Int-limit.is refl
          ∙ no_step p l c.args.r.now c.args.body.now f (world m) k c.in-Int.start c.in-Int-limit.limit c.args.step c.in_default-step.not-Int)
          (fault_leads m failed.new.m k p 0 lua.NotInteger failed.ensures.fault);
      stack = tt;
    }

pub returns-then-step-eq0 : goal.returns-then-step-eq0
returns-then-step-eq0 g c =
    let m = c.args.m.now in
    let p = c.args.p.now in
    let l = level p c.args.b.now.level in
    let f = frame c.args.f.now m.stack in
    let a = c.in-Int.start in
    let b = c.in-Int-limit.limit in
    let n = c.in-Int-step.step in
    let zero : n ≡ pos 0 = omega (arith, ints, c.if-step-eq0.true) in
    record {
      leads = λ k. from (numbers_are p l c.args.r.now c.args.body.now f (world m) k c.args.start c.args.limit c.args.step (V.Int a) (V.Int b) (V.Int n) c.in-Int.is c.in-Int-limit.is c.in-Int-step.is
          ∙ zero_step p l c.args.r.now c.args.body.now f (world m) k a b n zero)
          (fault_leads m c.fault_at.new.self k p 0 lua.ZeroStep c.fault_at.ensures);
      stack = tt;
    }

pub returns-in-None : goal.returns-in-None
returns-in-None g c =
    let m = c.args.m.now in
    let p = c.args.p.now in
    let l = level p c.args.b.now.level in
    let f = frame c.args.f.now m.stack in
    let a = c.in-Int.start in
    let b = c.in-Int-limit.limit in
    let n = c.in-Int-step.step in
    let some_zero : n ≡ pos 0 → ⊥ = λ h. c.if-step-eq0.false (omega (arith, ints, h)) in
    let fits_a : FitsSigned w64 a = search rules in
    let fits_b : FitsSigned w64 b = search rules in
    let fits_n : FitsSigned w64 n = search rules in
    let turns = rw (to_z-of_z w64 a fits_a, to_z-of_z w64 b fits_b, to_z-of_z w64 n fits_n) at c.in-None.ensures in
    record {
      leads = λ k. from (numbers_are p l c.args.r.now c.args.body.now f (world m) k c.args.start c.args.limit c.args.step (V.Int a) (V.Int b) (V.Int n) c.in-Int.is c.in-Int-limit.is c.in-Int-step.is
          ∙ some_step p l c.args.r.now c.args.body.now f (world m) k a b n some_zero
          ∙ ap (λ x. counted p l x a n c.args.r.now c.args.body.now f (world m) k) (sym turns)) here;
      stack = around_same c.args.f.now m.stack m.stack c.requires.fits refl;
    }

pub returns-in-Some : goal.returns-in-Some
returns-in-Some g c =
    let m = c.args.m.now in
    let p = c.args.p.now in
    let l = level p c.args.b.now.level in
    let f = frame c.args.f.now m.stack in
    let a = c.in-Int.start in
    let b = c.in-Int-limit.limit in
    let n = c.in-Int-step.step in
    let some_zero : n ≡ pos 0 → ⊥ = λ h. c.if-step-eq0.false (omega (arith, ints, h)) in
    let fits_a : FitsSigned w64 a = search rules in
    let fits_b : FitsSigned w64 b = search rules in
    let fits_n : FitsSigned w64 n = search rules in
    let turns = rw (to_z-of_z w64 a fits_a, to_z-of_z w64 b fits_b, to_z-of_z w64 n fits_n) at c.in-Some.ensures in
    let loop = rw (to_z-of_z w64 a fits_a, to_z-of_z w64 n fits_n) at c.for_turns.ensures.leads in
    record {
      leads = λ k. from (numbers_are p l c.args.r.now c.args.body.now f (world m) k c.args.start c.args.limit c.args.step (V.Int a) (V.Int b) (V.Int n) c.in-Int.is c.in-Int-limit.is c.in-Int-step.is
          ∙ some_step p l c.args.r.now c.args.body.now f (world m) k a b n some_zero
          ∙ ap (λ x. counted p l x a n c.args.r.now c.args.body.now f (world m) k) (sym turns)) (loop k);
      stack = c.for_turns.ensures.stack;
    }
