use Rattle.std.proofs.Common.{sym}
use Rattle.indexmap.proofs.CallerLemmas.{keys-with_value_at}
use Rattle.linda_core.proofs.ContentLemmas.{seen-set_same, room_at}
use Rattle.linda_core.proofs.queues.reserve_at.Goals as goal

pub returns-in-Some-clause-keys : goal.returns-in-Some-clause-keys
returns-in-Some-clause-keys c = keys-with_value_at c.args.queues.now c.args.place c.reserve.new.self

pub returns-in-Some-clause-seen : goal.returns-in-Some-clause-seen
returns-in-Some-clause-seen c =
    seen-set_same c.args.queues.now.entries c.args.place c.in-Some.queue.now c.reserve.new.self (sym c.in-Some.ensures.value)
    (λ i. record { queue = c.reserve.ensures.items i; limit = c.reserve.ensures.limit i })

pub returns-in-Some-clause-room : goal.returns-in-Some-clause-room
returns-in-Some-clause-room c =
    room_at c.args.queues.now.entries c.args.place c.args.more c.in-Some.queue.now c.reserve.new.self (sym c.in-Some.ensures.value) c.reserve.ensures.items _ c.reserve.ensures.room
