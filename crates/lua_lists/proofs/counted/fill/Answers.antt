use Rattle.std.proofs.Common.{ap, sym, refl, Ok}
use Rattle.lua_machine.specs.Does.{world}
use Rattle.lua_machine.proofs.Leads.{same_run, no_memory}
use Rattle.lua_lists.proofs.Stacked.{filled_from, filled_above}
use Rattle.lua_lists.proofs.counted.fill.Goals as goal

pub returns-in-Ok : goal.returns-in-Ok
returns-in-Ok g c =
    let m = c.args.m.now in
    let s1 = c.open.new.self in
    let e = c.in-Ok.ensures.ok in
    record {
      leads = λ k. same_run refl (ap (λ vs. k (Ok vs) (world m)) (sym (filled_from c.args.at c.args.n m.stack s1 c.requires.within e)));
      stack = filled_above c.args.at c.args.n m.stack s1 c.requires.within e;
    }

pub returns-in-Err : goal.returns-in-Err
returns-in-Err g c = record { leads = λ k. no_memory (record c.args.m.now { stack = c.open.new.self }) c.lose.new.self c.lose.ensures _ k; stack = tt }
