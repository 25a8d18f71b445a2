use Rattle.std.proofs.Common.{ap, codes}
use Rattle.object_store.specs.declared.fault.LuaFault.TheVariants as lua
use Rattle.lua_meaning.specs.Library.{pairs_of}
use Rattle.lua_machine.specs.Does.{world}
use Rattle.lua_machine.proofs.Leads.{from}
use Rattle.lua_machine.proofs.Failures.{fault_leads}
use Rattle.lua_builtins.proofs.WalkTurns.{pairs_other}
use Rattle.lua_builtins.proofs.walks.pairs_of.Goals as goal

pub returns-in-Table : goal.returns-in-Table
returns-in-Table g c = λ l.
    let m = c.args.m.now in
    let given = rw c.in-Table.is at c.give_three.ensures in
    record {
      leads = λ k. from (ap (λ v. pairs_of c.args.p.now l c.args.site v (world m) k) c.in-Table.is) (given.leads k);
      stack = given.stack;
    }

pub returns-in_default : goal.returns-in_default
returns-in_default g c = λ l.
    let m = c.args.m.now in
    record {
      leads = λ k. from (pairs_other c.args.p.now l c.args.site (world m) k c.args.value c.in_default.not-Table) (fault_leads m c.bad_argument.new.m k c.args.p.now c.args.site.line (lua.BadArgument 1 (codes "pairs")) c.bad_argument.ensures);
      stack = tt;
    }
