use Rattle.std.proofs.Common.{ap}
use Rattle.lua_machine.specs.Does.{frame}
use Rattle.lua_machine.proofs.Leads.{no_memory}
use Rattle.lua_machine.proofs.Pushes.{appended, appended_above}
use Rattle.lua_expressions.proofs.forms.dots.Goals as goal

pub returns-in-Ok : goal.returns-in-Ok
returns-in-Ok g c =
    let m = c.args.m.now in
    let values = (frame c.args.f.now m.stack).dots in
    record {
      leads = λ k. appended g.H.Host.asked m _ values k (ap (λ x. record m { stack = x }) c.in-Ok.ensures.ok);
      stack = appended_above m.stack c.again.new.self values c.in-Ok.ensures.ok;
    }

pub returns-in-Err : goal.returns-in-Err
returns-in-Err g c = record { leads = λ k. no_memory (record c.args.m.now { stack = c.again.new.self }) c.lose.new.self c.lose.ensures _ k; stack = tt }
