use Rattle.std.proofs.Common.{ap, ◌≡◌, true, false, if◌then◌else◌, length, drop, nat_lt, Ok, arith, length-drop}
use Rattle.object_store.specs.declared.fault.LuaFault.TheVariants as lua
use Rattle.lua_meaning.specs.Run.{here}
use Rattle.lua_meaning.specs.Faults.{fault_at}
use Rattle.lua_meaning.specs.Expressions.{value_limit}
use Rattle.lua_machine.specs.Does.{world}
use Rattle.lua_machine.proofs.Leads.{from}
use Rattle.lua_machine.proofs.Failures.{fault_leads}
use Rattle.lua_machine.proofs.Places.{less_is, less_not}
use Rattle.lua_lists.proofs.Stacked.{above_same}
use Rattle.lua_lists.proofs.counted.limited.Goals as goal

pub returns-then-len-at-gt-VALUE_LIMIT : goal.returns-then-len-at-gt-VALUE_LIMIT
returns-then-len-at-gt-VALUE_LIMIT g c =
    let m = c.args.m.now in
    let p = c.args.p.now in
    let vs = drop c.args.at m.stack.values in
    let many : nat_lt value_limit (length vs) ≡ true = less_is value_limit (length vs) (omega (arith, length-drop c.args.at m.stack.values)) in
    record {
      leads = λ k. from (ap (λ b. if b then fault_at p c.args.line lua.TooManyValues (world m) k else k (Ok vs) (world m)) many)
          (fault_leads m c.fault_at.new.self k p c.args.line lua.TooManyValues c.fault_at.ensures);
      stack = tt;
    }

pub returns : goal.returns
returns g c =
    let m = c.args.m.now in
    let p = c.args.p.now in
    let vs = drop c.args.at m.stack.values in
    let few : nat_lt value_limit (length vs) ≡ false = less_not value_limit (length vs) (λ h. omega (arith, h, length-drop c.args.at m.stack.values)) in
    record {
      leads = λ k. from (ap (λ b. if b then fault_at p c.args.line lua.TooManyValues (world m) k else k (Ok vs) (world m)) few) here;
      stack = above_same c.args.at m.stack c.requires.within;
    }
