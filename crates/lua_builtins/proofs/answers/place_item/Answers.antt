use Rattle.std.proofs.Common.{subst}
use Rattle.lanes_lib.specs.Face.{root_piece}
use Rattle.lua_meaning.specs.Library as spec
use Rattle.lua_machine.specs.Does.{OneOf, world}
use Rattle.lua_builtins.proofs.answers.place_item.Goals as goal

pub returns-in-Some : goal.returns-in-Some
returns-in-Some g c = λ l.
    subst (λ r. OneOf g.H.Host.asked (spec.place_piece c.args.p.now l c.args.site (root_piece r) (world c.args.m.now)) c.args.m.now c.place_root.result c.place_root.new.m) c.in-Some.ensures (c.place_root.ensures l)
