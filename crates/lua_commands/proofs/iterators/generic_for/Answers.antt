use Rattle.lua_meaning.specs.Run.{and_then}
use Rattle.lua_meaning.specs.Levels.{level}
use Rattle.lua_commands.proofs.ValueTurns.{iterated, turns_with}
use Rattle.lua_commands.proofs.iterators.generic_for.Goals as goal

pub returns-in-Failed : goal.returns-in-Failed
returns-in-Failed g c =
    let a = c.args in
    record { leads = λ k. c.in-Failed.ensures.leads (and_then k (iterated a.p.now (level a.p.now a.b.now.level) a.f.now a.rs.now a.body.now a.m.now k)); stack = tt }

pub returns : goal.returns
returns g c =
    let a = c.args in
    let s = rw c.cut.ensures at c.in_turns.ensures in
    turns_with a.p.now (level a.p.now a.b.now.level) a.f.now a.rs.now a.es.now a.body.now a.m.now c.exactly.new.m c.in_turns.new.m c.len-at.result c.len-at.ensures c.in-Well.ensures c.value_at-go.result c.value_at-state.result c.value_at-control.result c.value_at-go.ensures c.value_at-state.ensures c.value_at-control.ensures c.in_turns.result s
