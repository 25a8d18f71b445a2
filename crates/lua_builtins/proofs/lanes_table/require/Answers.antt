use Rattle.std.proofs.Common.{sym, ap, ◌∙◌, drop, codes, Some}
use Rattle.object_store.specs.declared.fault.LuaFault.TheVariants as lua
use Rattle.lua_machine.specs.Does.{world}
use Rattle.lua_machine.proofs.Leads.{from}
use Rattle.lua_machine.proofs.Failures.{fault_leads}
use Rattle.lua_builtins.proofs.Tables.{require_bad, require_lanes, require_other}
use Rattle.lua_builtins.proofs.lanes_table.require.Goals as goal

pub returns-in_default : goal.returns-in_default
returns-in_default g c = λ l.
    let m = c.args.m.now in
    record {
      leads = λ k. from (require_bad c.args.p.now l c.args.site (world m) k (drop c.args.at m.stack.values) (sym c.names_lanes.ensures ∙ c.in_default.is)) (fault_leads m c.bad_argument.new.m k c.args.p.now c.args.site.line (lua.BadArgument 1 (codes "require")) c.bad_argument.ensures);
      stack = tt;
    }

pub returns-then-known : goal.returns-then-known
returns-then-known g c = λ l.
    let m = c.args.m.now in
    let rest = c.lanes_table.ensures l in
    record {
      leads = λ k. from (require_lanes c.args.p.now l c.args.site (world m) k (drop c.args.at m.stack.values) (sym c.names_lanes.ensures ∙ c.in-Some.is ∙ ap Some c.if-known.true)) (rest.leads k);
      stack = rest.stack;
    }

pub returns : goal.returns
returns g c = λ l.
    let m = c.args.m.now in
    record {
      leads = λ k. from (require_other c.args.p.now l c.args.site (world m) k (drop c.args.at m.stack.values) (sym c.names_lanes.ensures ∙ c.in-Some.is ∙ ap Some c.if-known.false)) (fault_leads m c.fault_at.new.self k c.args.p.now c.args.site.line lua.NoModule c.fault_at.ensures);
      stack = tt;
    }
