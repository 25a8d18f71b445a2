use Rattle.std.proofs.Common.{sym, ap, ◌∙◌, arith, take, drop, length, length-append}
use Rattle.std.proofs.lemmas.List.{take-append-le}
use Rattle.lua_meaning.specs.Names.{filled}
use Rattle.lua_meaning.specs.Levels.{level}
use Rattle.lua_machine.specs.Does.{frame, world}
use Rattle.lua_machine.proofs.Leads.{from, no_memory}
use Rattle.lua_machine.proofs.Windows.{filled_length}
use Rattle.lua_machine.proofs.Frames.{frame_above_args}
use Rattle.lua_calls.specs.Bodies.{run_in}
use Rattle.lua_calls.proofs.BodyEnds.{got_below}
use Rattle.lua_calls.proofs.bodies.run_vararg.Goals as goal

pub returns-in_default : goal.returns-in_default
returns-in_default g c = record { leads = λ k. no_memory (record c.args.m.now { stack = c.open_above.new.self }) c.lose.new.self c.lose.ensures _ k; stack = tt }

pub run_in-requires-clause-fits : goal.run_in-requires-clause-fits
run_in-requires-clause-fits g c =
    let s = c.args.m.now.stack in
    let slots = c.args.proto.now.slots in
    let xs = take c.args.proto.now.params (drop c.args.at s.values) in
    let opened = ap (λ x. length x.values) c.in-Ok.ensures.ok in
    let dots = c.in-Ok.ensures.dots in
    record {
      dots = omega (arith, dots.0, c.len-base.ensures);
      slots = omega (arith, opened, c.len-base.ensures, length-append s.values (filled slots xs), filled_length slots xs);
      cells = omega (arith, c.cell_count.ensures);
    }

pub returns : goal.returns
returns g c =
    let a = c.args in
    let m = a.m.now in
    let s = m.stack in
    let at = a.at in
    let slots = a.proto.now.slots in
    let xs = take a.proto.now.params (drop at s.values) in
    let rest = drop a.proto.now.params (drop at s.values) in
    let opened = c.in-Ok.ensures.ok in
    let found = c.in-Ok.ensures.dots in
    let cells = c.in-Ok.ensures.cells in
    let base = c.len-base.result in
    let dots = c.in-Ok.dots in
    let count = c.cell_count.ensures ∙ ap length cells in
    let frames = ap (λ n. frame (record { dots = dots; base = base; size = slots; cells = n; me = a.id; from = a.line }) c.open_above.new.self) count
    ∙ ap (frame (record { dots = dots; base = base; size = slots; cells = length s.cells; me = a.id; from = a.line })) opened
    ∙ frame_above_args base a.line slots dots a.id s xs rest c.len-base.ensures found.0 found.1 in
    let low = ap (λ x. take at x.values) opened ∙ take-append-le at s.values (filled slots xs) c.requires.within in
    record {
      leads = λ k. from (ap (λ x. run_in a.p.now (level a.p.now a.b.now.level) a.line a.proto.now x (world m) k) (sym frames)) (c.run_in.ensures.leads k);
      stack = got_below c.run_in.result at s c.open_above.new.self c.run_in.new.m.stack low cells c.run_in.ensures.stack;
    }
