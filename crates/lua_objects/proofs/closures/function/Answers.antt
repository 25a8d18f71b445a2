use Rattle.std.proofs.Common.{sym, ap, ◌∙◌, Some}
use Rattle.std.specs.Option.{option_copied}
use Rattle.lua_meaning.specs.Run.{here, and_then}
use Rattle.lua_meaning.specs.Levels.{level}
use Rattle.lua_meaning.specs.Names.{captures}
use Rattle.lua_meaning.specs.Expressions.{closure, new_function}
use Rattle.lua_machine.specs.Does.{frame, world}
use Rattle.lua_machine.proofs.Leads.{leads_on, from}
use Rattle.lua_objects.proofs.NewObjects.{function_after}
use Rattle.lua_objects.proofs.closures.function.Goals as goal

pub returns-in_default : goal.returns-in_default
returns-in_default g c =
    let a = c.args in
    let m = a.m.now in
    let l = level a.p.now a.b.now.level in
    let f = frame a.f.now m.stack in
    record {
      leads = λ k. from (ap (λ o. closure a.p.now l f a.line a.n o (world m) k) (sym c.proto.ensures ∙ ap option_copied c.in_default.is)) (rw c.broken.ensures here);
      stack = tt;
    }

pub returns-in-Some-captures : goal.returns-in-Some-captures
returns-in-Some-captures g c =
    let a = c.args in
    let m = a.m.now in
    let l = level a.p.now a.b.now.level in
    let f = frame a.f.now m.stack in
    let ups = c.in-Some.proto.now.ups in
    let found = rw c.as_slice.ensures at c.in-Some-captures.ensures.leads in
    let made = c.new_function.ensures l f in
    record {
      leads = λ k. from (ap (λ o. closure a.p.now l f a.line a.n o (world m) k) (sym c.in-Some.ensures))
          (from (function_after a.p.now l f a.line (world m) a.n (captures m.state.heap f ups) k)
          (leads_on (found (and_then k (λ cells w. new_function a.p.now l f a.line a.n (Some cells) w k))) (made.leads k)));
      stack = rw c.in-Some-captures.ensures.stack at made.stack;
    }

pub returns-in-None : goal.returns-in-None
returns-in-None g c =
    let a = c.args in
    let m = a.m.now in
    let l = level a.p.now a.b.now.level in
    let f = frame a.f.now m.stack in
    let ups = c.in-Some.proto.now.ups in
    let found = rw c.as_slice.ensures at c.in-None.ensures.leads in
    record {
      leads = λ k. from (ap (λ o. closure a.p.now l f a.line a.n o (world m) k) (sym c.in-Some.ensures))
          (from (function_after a.p.now l f a.line (world m) a.n (captures m.state.heap f ups) k)
          (found (and_then k (λ cells w. new_function a.p.now l f a.line a.n (Some cells) w k))));
      stack = tt;
    }
