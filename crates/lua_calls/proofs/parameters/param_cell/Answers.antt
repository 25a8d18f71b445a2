use Rattle.std.proofs.Common.{sym, ap, arith, Some, Ok}
use Rattle.lua_meaning.specs.Run.{here, and_then}
use Rattle.lua_meaning.specs.Level.{or_broken}
use Rattle.lua_meaning.specs.Names.{put_cell}
use Rattle.lua_meaning.specs.Calls.{param_cell}
use Rattle.lua_machine.specs.Does.{world, locals, frame}
use Rattle.lua_machine.proofs.Leads.{leads_on, from, upto, no_memory}
use Rattle.lua_machine.proofs.Places.{cell_locals, cell_around}
use Rattle.lua_calls.proofs.ParamTurns.{slot_there, slot_past}
use Rattle.lua_calls.proofs.parameters.param_cell.Goals as goal

pub returns-then-i-f : goal.returns-then-i-f
returns-then-i-f g c =
    let m = c.args.m.now in
    let f = c.args.f.now in
    let past = slot_past f m.stack c.args.i c.requires (omega arith) in
    record {
      leads = λ k. from (ap (λ o. param_cell c.args.p.now c.args.line c.args.i (or_broken o) (frame f m.stack) (world m) k) past) (rw c.broken.ensures here);
      stack = tt;
    }

pub returns-in_default : goal.returns-in_default
returns-in_default g c =
    let m = c.args.m.now in
    let f = c.args.f.now in
    let there = slot_there f m.stack c.args.i c.requires c.at-m.result (omega arith) c.at-m.ensures in
    let enclosed = rw c.in_default.is at c.enclose.ensures.leads in
    record {
      leads = λ k. from (ap (λ o. param_cell c.args.p.now c.args.line c.args.i (or_broken o) (frame f m.stack) (world m) k) there)
          (enclosed (and_then k (λ x w. k (Ok (put_cell c.args.i x (locals f m.stack))) w)));
      stack = tt;
    }

pub returns-in-Ok : goal.returns-in-Ok
returns-in-Ok g c =
    let m = c.args.m.now in
    let f = c.args.f.now in
    let m1 = c.enclose.new.self in
    let there = slot_there f m.stack c.args.i c.requires c.at-m.result (omega arith) c.at-m.ensures in
    let enclosed = rw c.in-Some.is at c.enclose.ensures.leads in
    let put = rw c.enclose.ensures.stack at c.in-Ok.ensures.ok in
    let after = cell_locals f m.stack c.put_cell.new.self c.args.i c.in-Some.cell c.requires put in
    record {
      leads = λ k. from (ap (λ o. param_cell c.args.p.now c.args.line c.args.i (or_broken o) (frame f m.stack) (world m) k) there)
          (upto (ap (λ x. Some (k (Ok x) (world m1))) (sym after)) (enclosed (and_then k (λ x w. k (Ok (put_cell c.args.i x (locals f m.stack))) w))));
      stack = cell_around f m.stack c.put_cell.new.self c.args.i c.in-Some.cell c.requires put;
    }

pub returns-in-Err : goal.returns-in-Err
returns-in-Err g c =
    let m = c.args.m.now in
    let f = c.args.f.now in
    let m1 = c.enclose.new.self in
    let there = slot_there f m.stack c.args.i c.requires c.at-m.result (omega arith) c.at-m.ensures in
    let enclosed = rw c.in-Some.is at c.enclose.ensures.leads in
    record {
      leads = λ k. from (ap (λ o. param_cell c.args.p.now c.args.line c.args.i (or_broken o) (frame f m.stack) (world m) k) there)
          (leads_on (enclosed (and_then k (λ x w. k (Ok (put_cell c.args.i x (locals f m.stack))) w)))
          (no_memory (record m1 { stack = c.put_cell.new.self }) c.lose.new.self c.lose.ensures _ k));
      stack = tt;
    }
