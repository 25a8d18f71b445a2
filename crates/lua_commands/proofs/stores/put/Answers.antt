use Rattle.std.proofs.Common.{ap, arith, drop, ◌+◌, ◌∙◌}
use Rattle.std.proofs.lemmas.List.{drop-set-lt}
use Rattle.lua_machine.proofs.Places.{put_well, put_failed}
use Rattle.lua_commands.proofs.stores.put.Goals as goal

pub returns-then-i-f-clause-locals : goal.returns-then-i-f-clause-locals
returns-then-i-f-clause-locals g c = put_well g.H.Host.asked c.args.m.now _ c.args.f.now c.args.i c.requires c.if-i-f.true (ap (λ x. record c.args.m.now { stack = x }) c.put.ensures)

pub returns-then-i-f-clause-past : goal.returns-then-i-f-clause-past
returns-then-i-f-clause-past g c =
    let f = c.args.f.now in
    ap (λ s. drop (f.base + f.size) s.values) c.put.ensures ∙ drop-set-lt (f.base + f.size) c.args.m.now.stack.values (f.base + c.args.i) c.args.m.now.value (omega arith)

pub returns-clause-locals : goal.returns-clause-locals
returns-clause-locals g c = put_failed g.H.Host.asked c.args.m.now c.broken.new.self c.args.f.now c.args.i c.requires (λ h. omega (arith, h, c.if-i-f.false)) c.broken.ensures
