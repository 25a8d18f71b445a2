use Rattle.std.proofs.Common.{Ok, pos}
use Rattle.object_store.specs.declared.value.Value.TheVariants as V
use Rattle.lua_meaning.specs.Run.{and_then}
use Rattle.lua_meaning.specs.Levels.{level}
use Rattle.lua_meaning.specs.Expressions.{fields}
use Rattle.lua_machine.specs.Does.{frame}
use Rattle.lua_machine.proofs.Leads.{leads_on}
use Rattle.lua_objects.proofs.constructors.constructed.Goals as goal

pub returns-in_default : goal.returns-in_default
returns-in_default g c =
    let a = c.args in
    let l = level a.p.now a.b.now.level in
    let f = frame a.f.now a.m.now.stack in
    let made = rw c.in_default.is at (c.new_table.ensures l f) in
    record {
      leads = λ k. made.leads (and_then k (λ id w. fields a.p.now l f a.line id (pos 1) a.fields.now w (and_then k (λ u w. k (Ok (V.Table id)) w))));
      stack = tt;
    }

pub set_fields-requires-clause-fits : goal.set_fields-requires-clause-fits
set_fields-requires-clause-fits g c =
    let a = c.args in
    let made = rw c.in-Some.is at (c.new_table.ensures (level a.p.now a.b.now.level) (frame a.f.now a.m.now.stack)) in
    rw made.stack c.requires.fits

pub returns-in-Well : goal.returns-in-Well
returns-in-Well g c =
    let a = c.args in
    let l = level a.p.now a.b.now.level in
    let f = frame a.f.now a.m.now.stack in
    let id = c.in-Some.id in
    let made = rw c.in-Some.is at (c.new_table.ensures l f) in
    let set = rw made.stack at c.in-Well.ensures.leads in
    record {
      leads = λ k. leads_on (made.leads (and_then k (λ id w. fields a.p.now l f a.line id (pos 1) a.fields.now w (and_then k (λ u w. k (Ok (V.Table id)) w)))))
          (set (and_then k (λ u w. k (Ok (V.Table id)) w)));
      stack = rw made.stack at c.in-Well.ensures.stack;
    }

pub returns-in-Failed : goal.returns-in-Failed
returns-in-Failed g c =
    let a = c.args in
    let l = level a.p.now a.b.now.level in
    let f = frame a.f.now a.m.now.stack in
    let id = c.in-Some.id in
    let made = rw c.in-Some.is at (c.new_table.ensures l f) in
    let set = rw made.stack at c.in-Failed.ensures.leads in
    record {
      leads = λ k. leads_on (made.leads (and_then k (λ id w. fields a.p.now l f a.line id (pos 1) a.fields.now w (and_then k (λ u w. k (Ok (V.Table id)) w)))))
          (set (and_then k (λ u w. k (Ok (V.Table id)) w)));
      stack = tt;
    }
