use Rattle.std.proofs.Common.{◌∷◌, []}
use Rattle.lua_meaning.specs.Run.{and_then}
use Rattle.lua_meaning.specs.Levels.{level}
use Rattle.lua_meaning.specs.Expressions.{list, field, key_at, invoked}
use Rattle.lua_machine.specs.Does.{frame}
use Rattle.lua_machine.proofs.Leads.{leads_on}
use Rattle.lua_expressions.proofs.calls.method.Goals as goal

pub returns-in-Failed : goal.returns-in-Failed
returns-in-Failed g c =
    let p = c.args.p.now in
    let l = level p c.args.b.now.level in
    let f = frame c.args.f.now c.args.m.now.stack in
    record {
      leads = λ k. c.in-Failed.ensures.leads (and_then k (λ object w. field p l f c.args.line object (key_at p c.args.place) w (and_then k (λ v w. list l (object ∷ []) c.args.es.now f w (and_then k (λ args w. invoked p l f c.args.line v args w k))))));
      stack = tt;
    }

pub returns-in-Failed-field : goal.returns-in-Failed-field
returns-in-Failed-field g c =
    let p = c.args.p.now in
    let l = level p c.args.b.now.level in
    let f = frame c.args.f.now c.args.m.now.stack in
    let found = rw c.in-Well.ensures.stack at c.in-Failed-field.ensures.leads in
    let object = c.one.new.m.value in
    record {
      leads = λ k. leads_on (c.in-Well.ensures.leads (and_then k (λ object w. field p l f c.args.line object (key_at p c.args.place) w (and_then k (λ v w. list l (object ∷ []) c.args.es.now f w (and_then k (λ args w. invoked p l f c.args.line v args w k)))))))
          (found (and_then k (λ v w. list l (object ∷ []) c.args.es.now f w (and_then k (λ args w. invoked p l f c.args.line v args w k)))));
      stack = tt;
    }

pub returns : goal.returns
returns g c =
    let p = c.args.p.now in
    let l = level p c.args.b.now.level in
    let f = frame c.args.f.now c.args.m.now.stack in
    let found = rw c.in-Well.ensures.stack at c.in-Well-field.ensures.leads in
    let object = c.one.new.m.value in
    let sent = rw (c.in-Well-field.ensures.stack, c.in-Well.ensures.stack) at c.sent.ensures.leads in
    let stack = rw (c.in-Well-field.ensures.stack, c.in-Well.ensures.stack) at c.sent.ensures.stack in
    record {
      leads = λ k. leads_on (c.in-Well.ensures.leads (and_then k (λ object w. field p l f c.args.line object (key_at p c.args.place) w (and_then k (λ v w. list l (object ∷ []) c.args.es.now f w (and_then k (λ args w. invoked p l f c.args.line v args w k)))))))
          (leads_on (found (and_then k (λ v w. list l (object ∷ []) c.args.es.now f w (and_then k (λ args w. invoked p l f c.args.line v args w k))))) (sent k));
      stack = stack;
    }
