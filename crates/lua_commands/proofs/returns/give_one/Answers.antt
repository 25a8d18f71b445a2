use Rattle.lua_meaning.specs.Levels.{level}
use Rattle.lua_commands.proofs.ValueTurns.{one_failed, one_returned, many_returned, many_too_long}
use Rattle.lua_commands.proofs.returns.give_one.Goals as goal

pub returns-in-One : goal.returns-in-One
returns-in-One g c =
    let a = c.args in
    one_returned a.p.now (level a.p.now a.b.now.level) a.f.now a.e.now a.m.now c.many.new.m c.many.new.m c.requires.fits c.len-at.result c.len-at.ensures c.in-One.ensures

pub returns-in-Well : goal.returns-in-Well
returns-in-Well g c =
    let a = c.args in
    many_returned a.p.now (level a.p.now a.b.now.level) a.f.now a.e.now a.m.now c.many.new.m c.limited.new.m c.requires.fits c.len-at.result c.len-at.ensures c.in-Many.ensures c.in-Well.ensures

pub returns-in-Failed-limited : goal.returns-in-Failed-limited
returns-in-Failed-limited g c =
    let a = c.args in
    many_too_long a.p.now (level a.p.now a.b.now.level) a.f.now a.e.now a.m.now c.many.new.m c.limited.new.m c.requires.fits c.len-at.result c.len-at.ensures c.in-Many.ensures c.in-Failed-limited.ensures

pub returns-in-Failed : goal.returns-in-Failed
returns-in-Failed g c =
    let a = c.args in
    one_failed a.p.now (level a.p.now a.b.now.level) a.f.now a.e.now a.m.now c.many.new.m c.many.new.m c.requires.fits c.len-at.result c.len-at.ensures c.in-Failed.ensures
