use Rattle.std.proofs.Common.{sym, ap, arith, Some, Ok, length, drop, ◌≤◌}
use Rattle.lua_meaning.specs.Calls.{returned}
use Rattle.lua_machine.specs.Does.{world}
use Rattle.lua_machine.proofs.Leads.{upto}
use Rattle.lua_machine.proofs.Windows.{nothing_left, from_seam}
use Rattle.lua_calls.proofs.BodyEnds.{one_left, none_left, many_left}
use Rattle.lua_calls.proofs.bodies.run_block.Goals as goal

pub returns-in-Goes : goal.returns-in-Goes
returns-in-Goes g c =
    let s = c.args.m.now.stack in
    let m1 = c.block.new.m in
    let s1 = m1.stack in
    let at = c.args.at in
    let f = c.args.f.now in
    let around = c.in-Goes.ensures.stack in
    let h : at ≤ length s1.values = omega (arith, c.requires.below, c.requires.fits.slots, around.count) in
    let none = nothing_left at s1.values h in
    record {
      leads = λ k. rw (c.cut_cells.ensures, c.cut.ensures) (upto (ap (λ vs. Some (k (Ok vs) (world m1))) (sym none)) (c.in-Goes.ensures.leads (returned k)));
      stack = rw (c.cut_cells.ensures, c.cut.ensures) (none_left f s s1 at c.requires.below h around);
    }

pub returns-in-ReturnsOne : goal.returns-in-ReturnsOne
returns-in-ReturnsOne g c =
    let s = c.args.m.now.stack in
    let s1 = c.block.new.m.stack in
    let around = c.in-ReturnsOne.ensures.stack in
    record {
      leads = λ k. c.in-ReturnsOne.ensures.leads (returned k);
      stack = rw (c.cut_cells-in-ReturnsOne.ensures, c.cut-in-ReturnsOne.ensures) (one_left c.args.f.now s s1 c.args.at c.requires.below around);
    }

pub returns-in-ReturnsMany : goal.returns-in-ReturnsMany
returns-in-ReturnsMany g c =
    let s = c.args.m.now.stack in
    let m1 = c.block.new.m in
    let s1 = m1.stack in
    let at = c.args.at in
    let f = c.args.f.now in
    let over = c.in-ReturnsMany.ensures.stack in
    let h : at ≤ length s1.values = omega (arith, c.requires.below, c.requires.fits.slots, over.count) in
    let lowered = rw c.len-top.ensures at c.lower.ensures in
    let vs = drop (length s.values) s1.values in
    let all = from_seam at s1.values vs h in
    record {
      leads = λ k. rw (c.cut_cells-in-ReturnsMany.ensures, lowered) (upto (ap (λ vs. Some (k (Ok vs) (world m1))) (sym all)) (c.in-ReturnsMany.ensures.leads (returned k)));
      stack = rw (c.cut_cells-in-ReturnsMany.ensures, lowered) (many_left f s s1 at c.requires.below vs h over);
    }

pub returns-in-Breaks : goal.returns-in-Breaks
returns-in-Breaks g c = record { leads = λ k. rw c.broken.ensures (c.in-Breaks.ensures.leads (returned k)); stack = tt }

pub returns-in-Jumps : goal.returns-in-Jumps
returns-in-Jumps g c = record { leads = λ k. rw c.broken-in-Jumps.ensures (c.in-Jumps.ensures.leads (returned k)); stack = tt }

pub returns-in-Fails : goal.returns-in-Fails
returns-in-Fails g c = record { leads = λ k. c.in-Fails.ensures.leads (returned k); stack = tt }
