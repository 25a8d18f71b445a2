use Rattle.std.proofs.Common.{refl, arith, ◌∙◌}
use Rattle.lua_meaning.specs.Run.{here, and_then}
use Rattle.lua_meaning.specs.Levels.{level}
use Rattle.lua_machine.specs.Does.{frame, world}
use Rattle.lua_machine.proofs.Leads.{leads_on, from}
use Rattle.lua_statements.proofs.ChoiceTurns.{branch_at, branch_end, branch_tested}
use Rattle.lua_statements.proofs.choice.branches.Goals as goal

pub loop-branch-init : goal.loop-branch-init
loop-branch-init g c = record { goes = λ k. here; stack = refl }

pub returns-in-Yes : goal.returns-in-Yes
returns-in-Yes g c =
    let inv = c.loop-branch.invariant in
    let p = c.args.p.now in
    let l = level p c.args.b.now.level in
    let f = frame c.args.f.now c.args.m.now.stack in
    let m1 = c.loop-branch.m in
    let i = c.loop-branch.branch-index in
    let tested = rw inv.stack at c.in-Yes.ensures.leads in
    let same = c.in-Yes.ensures.stack ∙ inv.stack in
    let body = rw (c.as_slice.ensures, same) at c.block.ensures.leads in
    record {
      leads = λ k. leads_on (inv.goes k) (from (branch_at p l c.args.last.now f (world m1) k c.args.bs.now i c.branch-item.result (omega arith) c.branch-item.is)
          (leads_on (tested (and_then k (branch_tested p l c.args.last.now f (world m1) k c.args.bs.now i c.branch-item.result))) (body k)));
      stack = rw same at c.block.ensures.stack;
    }

pub returns-in-Failed : goal.returns-in-Failed
returns-in-Failed g c =
    let inv = c.loop-branch.invariant in
    let p = c.args.p.now in
    let l = level p c.args.b.now.level in
    let f = frame c.args.f.now c.args.m.now.stack in
    let m1 = c.loop-branch.m in
    let i = c.loop-branch.branch-index in
    let tested = rw inv.stack at c.in-Failed.ensures.leads in
    record {
      leads = λ k. leads_on (inv.goes k) (from (branch_at p l c.args.last.now f (world m1) k c.args.bs.now i c.branch-item.result (omega arith) c.branch-item.is)
          (tested (and_then k (branch_tested p l c.args.last.now f (world m1) k c.args.bs.now i c.branch-item.result))));
      stack = tt;
    }

pub loop-branch-preserved : goal.loop-branch-preserved
loop-branch-preserved g c =
    let inv = c.loop-branch.invariant in
    let p = c.args.p.now in
    let l = level p c.args.b.now.level in
    let f = frame c.args.f.now c.args.m.now.stack in
    let m1 = c.loop-branch.m in
    let i = c.loop-branch.branch-index in
    let tested = rw inv.stack at c.in-No.ensures.leads in
    record {
      goes = λ k. leads_on (inv.goes k) (from (branch_at p l c.args.last.now f (world m1) k c.args.bs.now i c.branch-item.result (omega arith) c.branch-item.is)
          (tested (and_then k (branch_tested p l c.args.last.now f (world m1) k c.args.bs.now i c.branch-item.result))));
      stack = c.in-No.ensures.stack ∙ inv.stack;
    }

pub returns : goal.returns
returns g c =
    let inv = c.loop-branch.invariant in
    let p = c.args.p.now in
    let l = level p c.args.b.now.level in
    let f = frame c.args.f.now c.args.m.now.stack in
    let last = rw inv.stack at c.otherwise.ensures.leads in
    record {
      leads = λ k. leads_on (inv.goes k) (from (branch_end p l c.args.last.now f (world c.loop-branch.m) k c.args.bs.now c.loop-branch.branch-index (omega arith)) (last k));
      stack = rw inv.stack at c.otherwise.ensures.stack;
    }
