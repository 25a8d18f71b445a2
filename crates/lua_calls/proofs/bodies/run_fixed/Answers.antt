use Rattle.std.proofs.Common.{sym, ap, ◌∙◌, arith, take, drop, length}
use Rattle.lua_meaning.specs.Names.{filled}
use Rattle.lua_meaning.specs.Levels.{level}
use Rattle.lua_machine.specs.Does.{frame, world}
use Rattle.lua_machine.proofs.Leads.{from, no_memory}
use Rattle.lua_machine.proofs.Windows.{seam_length, filled_length, to_seam}
use Rattle.lua_machine.proofs.Frames.{frame_opened}
use Rattle.lua_calls.specs.Bodies.{run_in}
use Rattle.lua_calls.proofs.BodyEnds.{got_below}
use Rattle.lua_calls.proofs.bodies.run_fixed.Goals as goal

pub returns-in_default : goal.returns-in_default
returns-in_default g c = record { leads = λ k. no_memory (record c.args.m.now { stack = c.open.new.self }) c.lose.new.self c.lose.ensures _ k; stack = tt }

pub run_in-requires-clause-fits : goal.run_in-requires-clause-fits
run_in-requires-clause-fits g c =
    let s = c.args.m.now.stack in
    let at = c.args.at in
    let slots = c.args.proto.now.slots in
    let xs = take c.args.proto.now.params (drop at s.values) in
    let opened = ap (λ x. length x.values) c.in-Ok.ensures.ok in
    record {
      dots = omega arith;
      slots = omega (arith, opened, seam_length at s.values (filled slots xs) c.requires.within, filled_length slots xs);
      cells = omega (arith, c.cell_count.ensures);
    }

pub returns : goal.returns
returns g c =
    let a = c.args in
    let m = a.m.now in
    let s = m.stack in
    let at = a.at in
    let slots = a.proto.now.slots in
    let xs = take a.proto.now.params (drop at s.values) in
    let opened = c.in-Ok.ensures.ok in
    let cells = c.in-Ok.ensures.cells in
    let count = c.cell_count.ensures ∙ ap length cells in
    let frames = ap (λ n. frame (record { dots = at; base = at; size = slots; cells = n; me = a.id; from = a.line }) c.open.new.self) count
    ∙ ap (frame (record { dots = at; base = at; size = slots; cells = length s.cells; me = a.id; from = a.line })) opened
    ∙ frame_opened at a.line slots a.id s xs c.requires.within in
    let low = ap (λ x. take at x.values) opened ∙ to_seam at s.values (filled slots xs) c.requires.within in
    record {
      leads = λ k. from (ap (λ x. run_in a.p.now (level a.p.now a.b.now.level) a.line a.proto.now x (world m) k) (sym frames)) (c.run_in.ensures.leads k);
      stack = got_below c.run_in.result at s c.open.new.self c.run_in.new.m.stack low cells c.run_in.ensures.stack;
    }
