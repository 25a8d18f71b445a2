use Rattle.lua_meaning.specs.Levels.{level}
use Rattle.lua_commands.proofs.ValueTurns.{no_list, list_returned, list_too_long}
use Rattle.lua_commands.proofs.returns.give_all.Goals as goal

pub returns-in-Failed : goal.returns-in-Failed
returns-in-Failed g c =
    let a = c.args in
    no_list a.p.now (level a.p.now a.b.now.level) a.f.now a.es.now a.m.now c.list.new.m c.list.new.m c.requires.fits c.len-at.result c.len-at.ensures c.in-Failed.ensures

pub returns-in-Well-limited : goal.returns-in-Well-limited
returns-in-Well-limited g c =
    let a = c.args in
    list_returned a.p.now (level a.p.now a.b.now.level) a.f.now a.es.now a.m.now c.list.new.m c.limited.new.m c.requires.fits c.len-at.result c.len-at.ensures c.in-Well.ensures c.in-Well-limited.ensures

pub returns-in-Failed-limited : goal.returns-in-Failed-limited
returns-in-Failed-limited g c =
    let a = c.args in
    list_too_long a.p.now (level a.p.now a.b.now.level) a.f.now a.es.now a.m.now c.list.new.m c.limited.new.m c.requires.fits c.len-at.result c.len-at.ensures c.in-Well.ensures c.in-Failed-limited.ensures
