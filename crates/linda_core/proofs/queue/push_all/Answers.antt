use Rattle.linda_core.proofs.LoopLemmas.{room_for_one}
use Rattle.linda_core.proofs.queue.push_all.Goals as goal

pub push_one-requires : goal.push_one-requires
push_one-requires c =
    room_for_one c.loop-value.ring.items c.loop-value.values.items c.pop_front.new.self.items c.args.ring.now.items c.args.values.items c.in-Some.value c.loop-value.ring.capacity c.args.ring.now.capacity
    c.loop-value.invariant.0 c.in-Some.ensures.items c.requires c.loop-value.invariant.1
