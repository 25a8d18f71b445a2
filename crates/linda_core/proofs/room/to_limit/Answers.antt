use Rattle.std.proofs.Common.{refl, sym, ap, ◌∙◌, []}
use Rattle.std.specs.Map.{lookup}
use Rattle.linda_core.specs.declared.call.LindaReply.TheVariants.{Room}
use Rattle.linda_core.specs.SequentialLinda.{key_eq}
use Rattle.linda_core.specs.Rooms.{bounded}
use Rattle.linda_core.proofs.ContentLemmas.{place_within, changed-held}
use Rattle.linda_core.proofs.LoopLemmas.{unknown_of}
use Rattle.linda_core.proofs.RoomLemmas.{limits_new, no_new_room}
use Rattle.linda_core.proofs.room.to_limit.Goals as goal

pub returns-in-Some-clause-room : goal.returns-in-Some-clause-room
returns-in-Some-clause-room c =
    let es = c.args.queues.now.entries in
    let found = sym c.in-Some.ensures.index in
    record {
      usable = place_within es c.args.key.now c.in-Some.place found;
      serves = λ fit. record {
        reply = ap Room c.makes_room.ensures;
        keys = changed-held es c.args.key.now c.in-Some.place found (bounded c.args.limit);
        gate = λ gate. refl;
      };
    }

pub returns-in_ok-key-in-None-clause-room : goal.returns-in_ok-key-in-None-clause-room
returns-in_ok-key-in-None-clause-room c =
    let new = c.in_ok-key-in-None in
    let es = c.to_begin.new.queues.entries in
    let unknown = ap (lookup (key_eq c.args.key.now)) new.ensures.same ∙ unknown_of (lookup (key_eq c.args.key.now) c.args.queues.now.entries) c.in-None.ensures.found in
    record {
      usable = new.ensures.room;
      serves = λ fit. record {
        reply = no_new_room es c.args.key.now c.args.limit unknown;
        keys = limits_new es c.args.key.now new.key _ c.new.result.items [] c.args.limit new.ensures.key new.ensures.queue unknown c.new.ensures.items;
        gate = λ gate. refl;
      };
    }
