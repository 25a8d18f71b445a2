use Rattle.std.proofs.Common.{◌∙◌}
use Rattle.lua_program.specs.declared.expr.RPair.{out-RPair}
use Rattle.lua_meaning.specs.Run.{and_then}
use Rattle.lua_meaning.specs.Level.{no_site}
use Rattle.lua_meaning.specs.Levels.{level}
use Rattle.lua_meaning.specs.Operate.{index}
use Rattle.lua_machine.specs.Does.{frame}
use Rattle.lua_machine.proofs.Leads.{leads_on}
use Rattle.lua_expressions.proofs.operations.index_of.Goals as goal

pub returns-in-Failed : goal.returns-in-Failed
returns-in-Failed g c =
    let p = c.args.p.now in
    let l = level p c.args.b.now.level in
    let f = frame c.args.f.now c.args.m.now.stack in
    record { leads = λ k. c.in-Failed.ensures.leads (and_then k (λ a w. l.expr (out-RPair c.args.pair.now).right f w (and_then k (λ b w. index p l c.args.line (no_site f) a b w k)))); stack = tt }

pub returns-in-Failed-one : goal.returns-in-Failed-one
returns-in-Failed-one g c =
    let p = c.args.p.now in
    let l = level p c.args.b.now.level in
    let f = frame c.args.f.now c.args.m.now.stack in
    let second = rw c.in-Well.ensures.stack at c.in-Failed-one.ensures.leads in
    let a = c.one.new.m.value in
    record {
      leads = λ k. leads_on (c.in-Well.ensures.leads (and_then k (λ a w. l.expr (out-RPair c.args.pair.now).right f w (and_then k (λ b w. index p l c.args.line (no_site f) a b w k)))))
          (second (and_then k (λ b w. index p l c.args.line (no_site f) a b w k)));
      stack = tt;
    }

pub returns : goal.returns
returns g c =
    let p = c.args.p.now in
    let l = level p c.args.b.now.level in
    let f = frame c.args.f.now c.args.m.now.stack in
    let same = c.in-Well-one.ensures.stack ∙ c.in-Well.ensures.stack in
    let second = rw c.in-Well.ensures.stack at c.in-Well-one.ensures.leads in
    let a = c.one.new.m.value in
    record {
      leads = λ k. leads_on (c.in-Well.ensures.leads (and_then k (λ a w. l.expr (out-RPair c.args.pair.now).right f w (and_then k (λ b w. index p l c.args.line (no_site f) a b w k)))))
          (leads_on (second (and_then k (λ b w. index p l c.args.line (no_site f) a b w k))) (c.index.ensures.leads k));
      stack = rw same at c.index.ensures.stack;
    }
