use Rattle.std.proofs.Common.{ap, refl}
use Rattle.lua_meaning.specs.Run.{here}
use Rattle.lua_meaning.specs.Levels.{level}
use Rattle.lua_meaning.specs.Statements.{otherwise}
use Rattle.lua_machine.specs.Does.{frame, world}
use Rattle.lua_machine.proofs.Leads.{from}
use Rattle.lua_machine.proofs.Frames.{around_same}
use Rattle.lua_statements.proofs.choice.otherwise.Goals as goal

pub returns-in-None : goal.returns-in-None
returns-in-None g c =
    let m = c.args.m.now in
    record {
      leads = λ k. from (ap (λ s. otherwise c.args.p.now (level c.args.p.now c.args.b.now.level) s (frame c.args.f.now m.stack) (world m) k) c.in-None.is) here;
      stack = around_same c.args.f.now m.stack m.stack c.requires.fits refl;
    }
