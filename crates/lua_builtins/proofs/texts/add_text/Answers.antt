use Rattle.std.proofs.Common.{ap, sym, ◌∙◌}
use Rattle.lua_meaning.specs.Levels.{level}
use Rattle.lua_meaning.specs.Library.{to_text_by}
use Rattle.lua_machine.specs.Does.{world}
use Rattle.lua_machine.proofs.Leads.{from}
use Rattle.lua_builtins.proofs.TextTurns.{to_text_plain, to_text_called}
use Rattle.lua_builtins.proofs.texts.add_text.Goals as goal

pub returns-then-is_nil : goal.returns-then-is_nil
returns-then-is_nil g c =
    let a = c.args in
    let l = level a.p.now a.b.now.level in
    record {
      leads = λ k. from (ap (λ h. to_text_by a.p.now l a.site h a.value (world a.m.now) k) (sym c.handler-function.ensures) ∙ to_text_plain a.p.now l a.site (world a.m.now) k c.handler-function.result a.value (sym c.is_nil.ensures ∙ c.if-is_nil.true)) (c.add_shown.ensures.leads k);
      text = c.add_shown.ensures.text;
      stack = c.add_shown.ensures.stack;
    }

pub returns : goal.returns
returns g c =
    let a = c.args in
    let l = level a.p.now a.b.now.level in
    record {
      leads = λ k. from (ap (λ h. to_text_by a.p.now l a.site h a.value (world a.m.now) k) (sym c.handler-function.ensures) ∙ to_text_called a.p.now l a.site (world a.m.now) k c.handler-function.result a.value (sym c.is_nil.ensures ∙ c.if-is_nil.false)) (c.add_by_handler.ensures.leads k);
      text = c.add_by_handler.ensures.text;
      stack = c.add_by_handler.ensures.stack;
    }
