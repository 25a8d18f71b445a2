use Rattle.std.proofs.Common.{◌≡◌, refl, sym, ap, ◌∙◌, arith, rules, Some, ◌++◌, ◌∷◌, [], ◌+◌, get_or, drop, append-nil}
use Rattle.std.proofs.lemmas.List.{get_or_default}
use Rattle.lua_program.specs.declared.program.UpFrom.TheVariants.{ParentCell}
use Rattle.lua_machine.specs.declared.machine.Machine.{Machine}
use Rattle.lua_meaning.specs.Run.{here, lost}
use Rattle.lua_meaning.specs.Level.{or_broken}
use Rattle.lua_meaning.specs.Names.{captured, captures}
use Rattle.lua_machine.specs.Does.{frame, world}
use Rattle.lua_machine.proofs.Leads.{from}
use Rattle.lua_objects.proofs.Captures.{with_front, front_none, captures_more, captures_none, captures_end}
use Rattle.lua_objects.proofs.closures.captures.Goals as goal

pub returns-in_default : goal.returns-in_default
returns-in_default g c = record { leads = λ k. rw c.lose.ensures lost; stack = tt }

pub loop-up-init : goal.loop-up-init
loop-up-init g c =
    let m = c.args.m.now in
    record {
      same = refl;
      front = rw c.in-Ok.ensures.items (front_none (captures m.state.heap (frame c.args.f.now m.stack) c.args.ups.now));
    }

pub captured-requires : goal.captured-requires
captured-requires g c = rw c.loop-up.invariant.same c.requires

pub returns-in_default-captured : goal.returns-in_default-captured
returns-in_default-captured g c =
    let m = c.args.m.now in
    let inv = c.loop-up.invariant in
    let f = frame c.args.f.now m.stack in
    let ups = c.args.ups.now in
    let i = c.loop-up.up-index in
    let u = get_or ups i (ParentCell 0) in
    let missing = sym c.in_default-captured.is ∙ c.captured.ensures ∙ ap (λ (x : Machine g.row.H.Denot). captured x.state.heap (frame c.args.f.now x.stack) u) inv.same in
    let all = inv.front ∙ captures_none m.state.heap f ups i u c.loop-up.cells.items (omega arith) (get_or_default ups i (ParentCell 0) u (omega arith)) missing in
    record {
      leads = λ k. from (ap (λ o. k (or_broken o) (world m)) all) (rw (c.broken.ensures, inv.same) here);
      stack = tt;
    }

pub returns-then-is_err : goal.returns-then-is_err
returns-then-is_err g c = record { leads = λ k. rw (c.lose-then-is_err.ensures, c.loop-up.invariant.same) lost; stack = tt }

pub loop-up-preserved : goal.loop-up-preserved
loop-up-preserved g c =
    let m = c.args.m.now in
    let inv = c.loop-up.invariant in
    let f = frame c.args.f.now m.stack in
    let ups = c.args.ups.now in
    let i = c.loop-up.up-index in
    let u = get_or ups i (ParentCell 0) in
    let cell = c.in-Some.cell in
    let there = sym c.in-Some.is ∙ c.captured.ensures ∙ ap (λ (x : Machine g.row.H.Denot). captured x.state.heap (frame c.args.f.now x.stack) u) inv.same in
    let all = inv.front ∙ captures_more m.state.heap f ups i u c.loop-up.cells.items cell (omega arith) (get_or_default ups i (ParentCell 0) u (omega arith)) there in
    let pushed : c.push.new.self.items ≡ c.loop-up.cells.items ++ cell ∷ [] = search rules in
    record {
      same = inv.same;
      front = all ∙ ap (λ cs. with_front cs (captures m.state.heap f (drop (i + 1) ups))) (sym pushed);
    }

pub returns : goal.returns
returns g c =
    let m = c.args.m.now in
    let inv = c.loop-up.invariant in
    let cs = c.loop-up.cells.items in
    let e = inv.front ∙ captures_end m.state.heap (frame c.args.f.now m.stack) c.args.ups.now c.loop-up.up-index cs (omega arith) in
    let all = e ∙ ap Some (append-nil cs ∙ sym c.of.ensures) in
    record {
      leads = λ k. from (ap (λ o. k (or_broken o) (world m)) all) (rw inv.same here);
      stack = ap (λ x. x.stack) inv.same;
    }
