use Rattle.std.proofs.Common.{ap, arith}
use Rattle.lua_machine.proofs.Places.{put_well, put_failed}
use Rattle.lua_machine.proofs.machine.Machine.put.Goals as goal

pub returns-then-i-f : goal.returns-then-i-f
returns-then-i-f g c = put_well g.H.Host.asked c.args.self.now _ c.args.f.now c.args.i c.requires c.if-i-f.true (ap (λ x. record c.args.self.now { stack = x }) c.put.ensures)

pub returns : goal.returns
returns g c = put_failed g.H.Host.asked c.args.self.now c.broken.new.self c.args.f.now c.args.i c.requires (λ h. omega (arith, h, c.if-i-f.false)) c.broken.ensures
