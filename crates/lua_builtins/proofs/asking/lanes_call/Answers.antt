use Rattle.std.proofs.Common.{drop}
use Rattle.object_store.specs.declared.fault.LuaFault.TheVariants as lua
use Rattle.lanes_lib.specs.declared.ask.AskFault.TheVariants as refused
use Rattle.lanes_lib.specs.Face.{ask_of}
use Rattle.lua_machine.specs.Does.{world}
use Rattle.lua_machine.proofs.Leads.{from}
use Rattle.lua_builtins.proofs.Askings.{asking_goes, asking_fails}
use Rattle.lua_builtins.proofs.asking.lanes_call.Goals as goal

pub returns-in-Ok : goal.returns-in-Ok
returns-in-Ok g c = λ l.
    let m = c.args.m.now in
    let said = ask_of m.state.texts c.args.function (drop c.args.at m.stack.values) in
    let rest = c.asked.ensures l in
    let is = rw c.from.ensures at c.in-Ok.ensures in
    record {
      leads = λ k. from (asking_goes c.args.p.now l c.args.site (world m) k c.in-Ok.ask said (refused.Lua lua.Memory) is) (rest.leads k);
      stack = rest.stack;
    }

pub returns-in-Err : goal.returns-in-Err
returns-in-Err g c = λ l.
    let m = c.args.m.now in
    let said = ask_of m.state.texts c.args.function (drop c.args.at m.stack.values) in
    let is = rw c.from.ensures at c.in-Err.ensures in
    record {
      leads = λ k. asking_fails m c.refuse.new.m k c.args.p.now l c.args.site c.in-Err.fault c.refuse.ensures said is;
      stack = tt;
    }
