use Rattle.std.proofs.Common.{ap, ◌∙◌}
use Rattle.lua_machine.specs.Piled.{with_values}
use Rattle.lua_machine.specs.declared.machine.Machine.{Machine}
use Rattle.lua_calls.proofs.CalleeTurns.{inserted}
use Rattle.lua_calls.proofs.callees.insert.Goals as goal

pub returns-in-Ok : goal.returns-in-Ok
returns-in-Ok g c =
    let m = c.args.m.now in
    let s = m.stack in
    let pushed = c.in-Well.ensures in
    let again = rw (c.len-top.ensures, pushed) at c.in-Ok.ensures.ok in
    let lowered = rw (c.len-top.ensures, again) at c.lower.ensures in
    ap (λ (x : Machine g.row.H.Denot). record x { stack = c.lower.new.self }) pushed ∙ ap (λ x. record m { stack = x }) (lowered ∙ ap (with_values s) (inserted s.values m.value c.args.at c.requires))
