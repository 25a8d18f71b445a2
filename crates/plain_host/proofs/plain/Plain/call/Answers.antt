use Rattle.std.proofs.Common.{refl, arith}
use Rattle.plain_host.proofs.Banks.{none_ready, answered}
use Rattle.plain_host.proofs.plain.Plain.call.Goals as goal

pub returns-in-Some : goal.returns-in-Some
returns-in-Some g c seconds =
    let m = c.args.self.now in
    answered (g.O.Sink.taken m.output) (g.O.Sink.faults m.output) m.failed m.lindas.items c.args.call.now c.in-Some.linda.now c.answer_of.new.linda seconds
    (omega (arith, m.lindas.ok, c.in-Some.ensures.variant.0 refl)) c.in-Some.ensures.item.1 c.answer_of.result c.answer_of.ensures

pub returns-in-None : goal.returns-in-None
returns-in-None g c seconds =
    let m = c.args.self.now in
    (none_ready m.lindas.items c.args.call.now.linda c.args.call.now.op (λ h. c.in-None.ensures.variant.1 (omega (arith, m.lindas.ok, h))), refl)
