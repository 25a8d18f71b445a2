use Rattle.std.proofs.Common.{refl, sym, ap, subst, ◌∙◌, length, position, None}
use Rattle.std.specs.Map.{lookup}
use Rattle.linda_core.specs.SequentialLinda.{key_eq}
use Rattle.linda_core.specs.Rooms.{HasRoomAt}
use Rattle.linda_core.proofs.LoopLemmas.{unknown_of}
use Rattle.linda_core.proofs.RoomLemmas.{sends, sends_new}
use Rattle.linda_core.proofs.room.to_send.Goals as goal

pub returns-in_ok-reserve_at-in-Some-clause-room : goal.returns-in_ok-reserve_at-in-Some-clause-room
returns-in_ok-reserve_at-in-Some-clause-room c =
    let es = c.reserve_at.new.queues.entries in
    let found = ap (position (key_eq c.args.key.now)) c.reserve_at.ensures.keys ∙ sym c.in-Some.ensures.index in
    let copied = c.from_vec-copies.ensures.items ∙ c.in_ok-copy_items.ensures in
    record {
      usable = subst (λ n. HasRoomAt es c.in-Some.place n) (sym (ap length copied)) c.in_ok-reserve_at-in-Some.ensures.room;
      serves = λ fit. record {
        reply = refl;
        keys = sends es c.args.key.now c.in-Some.place found c.from_vec-copies.result.items c.args.values.now copied;
        gate = λ gate. refl;
      };
    }

pub returns-in_ok-key-in-None-clause-room : goal.returns-in_ok-key-in-None-clause-room
returns-in_ok-key-in-None-clause-room c =
    let new = c.in_ok-key-in-None in
    let unknown = ap (lookup (key_eq c.args.key.now)) new.ensures.same ∙ unknown_of (lookup (key_eq c.args.key.now) c.args.queues.now.entries) c.in-None.ensures.found in
    record {
      usable = new.ensures.room;
      serves = λ fit. record {
        reply = refl;
        keys =
            sends_new c.to_begin.new.queues.entries c.args.key.now new.key _ c.from_vec-copies.result.items c.args.values.now None new.ensures.key new.ensures.queue unknown refl
            (c.from_vec-copies.ensures.items ∙ c.in_ok-copy_items.ensures);
        gate = λ gate. refl;
      };
    }
