use Rattle.object_store.specs.declared.fault.LuaFault.TheVariants as lua
use Rattle.std.proofs.Common.{sym, ap, ◌∙◌, ◌++◌}
use Rattle.lua_ops.specs.Metamethods.{text_at}
use Rattle.lua_meaning.specs.Run.{lost}
use Rattle.lua_meaning.specs.Library.{text_of}
use Rattle.lua_machine.specs.Does.{world}
use Rattle.lua_machine.proofs.Leads.{from}
use Rattle.lua_machine.proofs.Failures.{fault_leads}
use Rattle.lua_builtins.proofs.TextTurns.{if_fine, text_given, text_of_other}
use Rattle.lua_builtins.proofs.texts.add_string.Goals as goal

pub returns-in_default : goal.returns-in_default
returns-in_default g c = λ l.
    let m = c.args.m.now in
    record {
      leads = λ k. from (text_of_other c.args.p.now l c.args.site (world m) k m.value c.in_default.not-Str) (fault_leads m c.fault_at.new.self k c.args.p.now c.args.site.line lua.BadToString c.fault_at.ensures);
      text = tt;
      stack = tt;
    }

pub returns-then-is_err : goal.returns-then-is_err
returns-then-is_err g c = λ l. record { leads = λ k. rw c.lose.ensures lost; text = tt; stack = tt }

pub returns : goal.returns
returns g c = λ l.
    let m = c.args.m.now in
    let e = if_fine c.extend_from_slice.result _ _ _ (sym c.is_err.ensures.value ∙ c.if-is_err.false) c.extend_from_slice.ensures.items ∙ ap (λ t. c.args.line.now.items ++ t) c.text_at.ensures in
    let given = text_given g.H.Host.asked m c.args.line.now.items (text_at m.state.texts c.in-Str.id.number) c.extend_from_slice.new.self.items e in
    record {
      leads = λ k. from (ap (λ v. text_of c.args.p.now l c.args.site v (world m) k) c.in-Str.is) (given.leads k);
      text = given.text;
      stack = given.stack;
    }
