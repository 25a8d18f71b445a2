use Rattle.std.proofs.Common.{refl, sym}
use Rattle.linda_core.proofs.RoomLemmas.{receive_values, receive_reply, receive_keys}
use Rattle.linda_core.proofs.room.to_receive.Goals as goal

pub returns-in_ok-key-in-Some : goal.returns-in_ok-key-in-Some
returns-in_ok-key-in-Some c =
    let es = c.args.queues.now.entries in
    let key = c.in-Some.key.now in
    let first = sym c.in-Some.ensures.key in
    record {
      usable =
          (receive_values es c.args.keys.now key first c.in-Some.place c.in-Some.ensures.place, c.in_ok-values-in-Some.ensures.capacity, c.in_ok-values-in-Some.ensures.items);
      serves = λ fit. record {
        reply = receive_reply es c.args.keys.now key first c.in-Some.place c.in-Some.ensures.place c.in_ok-key-in-Some.key c.in_ok-key-in-Some.ensures;
        keys = receive_keys es c.args.keys.now key first c.in-Some.place c.in-Some.ensures.place;
        gate = λ gate. refl;
      };
    }
