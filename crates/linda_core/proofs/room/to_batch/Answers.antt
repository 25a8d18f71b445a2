use Rattle.std.proofs.Common.{refl, sym}
use Rattle.linda_core.proofs.LoopLemmas.{unknown_of}
use Rattle.linda_core.proofs.RoomLemmas.{batch_values, batch_reply, batch_keys, none_enough}
use Rattle.linda_core.proofs.room.to_batch.Goals as goal

pub returns-in_ok-key-in-Some : goal.returns-in_ok-key-in-Some
returns-in_ok-key-in-Some c =
    let es = c.args.queues.now.entries in
    let key = c.args.key.now in
    let place = c.in-Some.place in
    let found = sym c.in-Some.ensures.index in
    let count = c.length_at_most-count.result in
    let least = c.length_at_most-count.ensures in
    record {
      usable =
          (batch_values es key place found count c.args.max least, c.in_ok-values-in-Some.ensures.capacity, c.in_ok-values-in-Some.ensures.items);
      serves = λ fit. record {
        reply = batch_reply es key place found c.in_ok-key-in-Some.key count c.args.max c.in_ok-key-in-Some.ensures least;
        keys = batch_keys es key place found count c.args.max least;
        gate = λ gate. refl;
      };
    }

pub returns-in-None : goal.returns-in-None
returns-in-None c =
    record {
      usable = tt;
      serves = λ fit. none_enough c.args.queues.now.entries c.args.key.now c.args.min c.requires (unknown_of _ c.in-None.ensures.found) fit;
    }
