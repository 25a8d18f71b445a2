use Rattle.std.proofs.Common.{refl, sym, ap, ◌∙◌, Some, Ok}
use Rattle.lua_meaning.specs.Level.{Jumps}
use Rattle.lua_meaning.specs.Levels.{level}
use Rattle.lua_meaning.specs.Statements.{jumped, with_locals}
use Rattle.lua_machine.specs.Does.{frame, locals, world}
use Rattle.lua_machine.proofs.Leads.{leads_on, from}
use Rattle.lua_machine.proofs.Frames.{frame_around, fits_around}
use Rattle.lua_statements.specs.Blocks.{landed}
use Rattle.lua_statements.proofs.Flows.{flow_after}
use Rattle.lua_statements.proofs.BlockTurns.{landed_same}
use Rattle.lua_statements.proofs.blocks.block.Goals as goal

pub returns-in-Goes : goal.returns-in-Goes
returns-in-Goes g c = record { leads = λ k. c.in-Goes.ensures.leads _ k; stack = c.in-Goes.ensures.stack }

pub returns-in-Breaks : goal.returns-in-Breaks
returns-in-Breaks g c = record { leads = λ k. c.in-Breaks.ensures.leads _ k; stack = c.in-Breaks.ensures.stack }

pub returns-in-ReturnsOne : goal.returns-in-ReturnsOne
returns-in-ReturnsOne g c = record { leads = λ k. c.in-ReturnsOne.ensures.leads _ k; stack = c.in-ReturnsOne.ensures.stack }

pub returns-in-ReturnsMany : goal.returns-in-ReturnsMany
returns-in-ReturnsMany g c = record { leads = λ k. c.in-ReturnsMany.ensures.leads _ k; stack = c.in-ReturnsMany.ensures.stack }

pub returns-in-Fails : goal.returns-in-Fails
returns-in-Fails g c = record { leads = λ k. c.in-Fails.ensures.leads _ k; stack = tt }

pub after_jump-requires-clause-fits : goal.after_jump-requires-clause-fits
after_jump-requires-clause-fits g c = fits_around c.args.f.now c.args.m.now.stack c.sequence.new.m.stack c.requires.fits c.in-Jumps.ensures.stack

pub returns-in-Jumps : goal.returns-in-Jumps
returns-in-Jumps g c =
    let m = c.args.m.now in
    let m1 = c.sequence.new.m in
    let f = c.args.f.now in
    let ss = c.args.ss.now in
    let l = level c.args.p.now c.args.b.now.level in
    let around = c.in-Jumps.ensures.stack in
    let jumped_on = rw around.count at c.after_jump.ensures.leads in
    let o = Ok (Jumps m1.leaves m1.statement (locals f m1.stack)) in
    record {
      leads = λ k. leads_on (c.in-Jumps.ensures.leads (λ n locals w. jumped l w.left ss (frame f m.stack) k n locals w) k)
          (from (sym (landed_same l ss (frame f m.stack) k (locals f m1.stack) o (world m1)) ∙ ap (λ x. landed l ss x o (world m1) k) (sym (frame_around f m.stack m1.stack c.requires.fits around))) (jumped_on k));
      stack = flow_after c.after_jump.result f m.stack m1.stack c.after_jump.new.m.stack around c.after_jump.ensures.stack;
    }
