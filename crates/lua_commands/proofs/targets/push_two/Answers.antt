use Rattle.lua_meaning.specs.Run.{lost}
use Rattle.lua_commands.proofs.PushTurns.{two_held}
use Rattle.lua_commands.proofs.targets.push_two.Goals as goal

pub returns-in-Failed : goal.returns-in-Failed
returns-in-Failed g c = λ of. record { leads = λ k. rw c.in-Failed.ensures lost; stack = tt; count = tt }

pub returns : goal.returns
returns g c = λ of. two_held c.args.m.now c.push.new.self c.push-2.new.self c.args.first c.args.second c.in-Well.ensures of c.push-2.result c.push-2.ensures
