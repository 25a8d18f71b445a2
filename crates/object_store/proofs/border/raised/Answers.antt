use Rattle.std.proofs.Common.{arith}
use Rattle.object_store.proofs.BorderLemmas.{border_at_max}
use Rattle.object_store.proofs.RunLemmas.{length-joined}
use Rattle.object_store.proofs.border.raised.Goals as goal

pub returns : goal.returns
returns c = border_at_max _ _ c.loop-n.invariant (omega (arith, length-joined c.args.run.now c.args.rest.now.entries, c.loop-n-test.false, c.len.ensures.len))
