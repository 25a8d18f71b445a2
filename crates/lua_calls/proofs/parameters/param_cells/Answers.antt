use Rattle.std.proofs.Common.{refl, sym, ap, arith, Some, drop, length, ◌+◌, ◌<◌, false}
use Rattle.lua_meaning.specs.Run.{here, and_then}
use Rattle.lua_meaning.specs.Calls.{param_cells}
use Rattle.lua_machine.specs.Does.{frame, world}
use Rattle.lua_machine.proofs.Leads.{leads_on, from, upto}
use Rattle.lua_machine.proofs.Frames.{fits_around, frame_around, around_same, around_then}
use Rattle.lua_calls.proofs.ParamTurns.{param_here, param_passed, param_end, param_next}
use Rattle.lua_calls.proofs.parameters.param_cells.Goals as goal
use Rattle.lua_calls.proofs.parameters.param_cells.Goals.{then-has_cell+in-Well, else-has_cell}

pub loop-i-init : goal.loop-i-init
loop-i-init g c = record { goes = λ k. here; around = around_same c.args.f.now c.args.m.now.stack c.args.m.now.stack c.requires refl }

pub param_cell-requires : goal.param_cell-requires
param_cell-requires g c = fits_around c.args.f.now c.args.m.now.stack c.loop-i.m.stack c.requires c.loop-i.invariant.around

pub returns-in-Failed : goal.returns-in-Failed
returns-in-Failed g c =
    let a = c.args in
    let inv = c.loop-i.invariant in
    let m1 = c.loop-i.m in
    let f = frame a.f.now m1.stack in
    let i = c.loop-i.i in
    record {
      leads = λ k. leads_on (inv.goes k) (from (param_here a.p.now a.line a.cells.now i f (world m1) k false (omega arith) c.if-has_cell.true)
          (c.in-Failed.ensures.leads (and_then k (param_next a.p.now a.line a.cells.now i f (world m1) k))));
      stack = tt;
    }

pub loop-i-preserved : goal.loop-i-preserved
loop-i-preserved g c =
    let a = c.args in
    let inv = c.loop-i.invariant in
    let m1 = c.loop-i.m in
    let i = c.loop-i.i in
    let lt : i < length a.cells.now = omega arith in
    elim c.if-has_cell.branch [
      | then-has_cell+in-Well w ↦
          (let m2 = w.param_cell.new.m in
          let around = w.in-Well.ensures.stack in
          rw w.m-is (record {
            goes = λ k. leads_on (inv.goes k) (from (param_here a.p.now a.line a.cells.now i (frame a.f.now m1.stack) (world m1) k false lt w.if-has_cell.true)
                (upto (ap (λ x. Some (param_cells a.p.now a.line (i + 1) (drop (i + 1) a.cells.now) x (world m2) k)) (sym (frame_around a.f.now m1.stack m2.stack (fits_around a.f.now a.m.now.stack m1.stack c.requires inv.around) around)))
                (w.in-Well.ensures.leads (and_then k (param_next a.p.now a.line a.cells.now i (frame a.f.now m1.stack) (world m1) k)))));
            around = around_then a.f.now a.m.now.stack m1.stack m2.stack inv.around around;
          }))
      | else-has_cell w ↦
          rw w.m-is (record {
            goes = λ k. leads_on (inv.goes k) (from (param_passed a.p.now a.line a.cells.now i (frame a.f.now m1.stack) (world m1) k false lt w.if-has_cell.false) here);
            around = inv.around;
          })
    ]

pub returns : goal.returns
returns g c =
    let a = c.args in
    let inv = c.loop-i.invariant in
    let m1 = c.loop-i.m in
    record {
      leads = λ k. leads_on (inv.goes k) (from (param_end a.p.now a.line a.cells.now c.loop-i.i (frame a.f.now m1.stack) (world m1) k (omega arith)) here);
      stack = inv.around;
    }
