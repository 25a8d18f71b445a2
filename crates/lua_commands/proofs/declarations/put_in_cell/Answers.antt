use Rattle.std.proofs.Common.{ap, ◌+◌, drop, sym, Some, Ok}
use Rattle.lua_meaning.specs.Run.{and_then}
use Rattle.lua_meaning.specs.Names.{put_cell}
use Rattle.lua_machine.specs.Does.{world, locals}
use Rattle.lua_machine.proofs.Leads.{leads_on, upto, no_memory}
use Rattle.lua_machine.proofs.Places.{cell_locals, cell_around}
use Rattle.lua_commands.proofs.declarations.put_in_cell.Goals as goal

pub returns-in_default-clause-locals : goal.returns-in_default-clause-locals
returns-in_default-clause-locals g c =
    let s = c.args.m.now.stack in
    let enclosed = rw c.in_default.is at c.enclose.ensures.leads in
    record { leads = λ k. enclosed (and_then k (λ x w. k (Ok (put_cell c.args.i x (locals c.args.f.now s))) w)); stack = tt }

pub returns-in-Ok-clause-locals : goal.returns-in-Ok-clause-locals
returns-in-Ok-clause-locals g c =
    let same = c.enclose.ensures.stack in
    let f = c.args.f.now in
    let s = c.args.m.now.stack in
    let enclosed = rw c.in-Some.is at c.enclose.ensures.leads in
    let put = rw same at c.in-Ok.ensures.ok in
    let after = cell_locals f s c.put_cell.new.self c.args.i c.in-Some.cell c.requires put in
    record {
      leads = λ k. upto (ap (λ x. Some (k (Ok x) (world c.enclose.new.self))) (sym after)) (enclosed (and_then k (λ x w. k (Ok (put_cell c.args.i x (locals f s))) w)));
      stack = cell_around f s c.put_cell.new.self c.args.i c.in-Some.cell c.requires put;
    }

pub returns-in-Ok-clause-past : goal.returns-in-Ok-clause-past
returns-in-Ok-clause-past g c =
    let f = c.args.f.now in
    let put = rw c.enclose.ensures.stack at c.in-Ok.ensures.ok in
    ap (λ s. drop (f.base + f.size) s.values) put

pub returns-in-Err-clause-locals : goal.returns-in-Err-clause-locals
returns-in-Err-clause-locals g c =
    let f = c.args.f.now in
    let m = c.enclose.new.self in
    let enclosed = rw c.in-Some.is at c.enclose.ensures.leads in
    record {
      leads = λ k. leads_on (enclosed (and_then k (λ x w. k (Ok (put_cell c.args.i x (locals f c.args.m.now.stack))) w)))
          (no_memory (record m { stack = c.put_cell.new.self }) c.lose.new.self c.lose.ensures _ k);
      stack = tt;
    }
