use Rattle.std.proofs.Common.{refl, sym, ap, ◌∙◌, None}
use Rattle.std.specs.Map.{lookup}
use Rattle.linda_core.specs.SequentialLinda.{key_eq}
use Rattle.linda_core.proofs.ContentLemmas.{place_within}
use Rattle.linda_core.proofs.LoopLemmas.{unknown_of}
use Rattle.linda_core.proofs.RoomLemmas.{sets, sets_new}
use Rattle.linda_core.proofs.room.to_set.Goals as goal

pub returns-in_ok-ring-in-Some-clause-room : goal.returns-in_ok-ring-in-Some-clause-room
returns-in_ok-ring-in-Some-clause-room c =
    let es = c.args.queues.now.entries in
    let found = sym c.in-Some.ensures.index in
    let copied = c.in_ok-ring-in-Some.ensures ∙ c.from_vec-copies.ensures.items ∙ c.in_ok-copy_items.ensures in
    record {
      usable = place_within es c.args.key.now c.in-Some.place found;
      serves = λ fit. record {
        reply = refl;
        keys = sets es c.args.key.now c.in-Some.place found c.in_ok-ring-in-Some.ring.items c.args.values.now copied;
        gate = λ gate. refl;
      };
    }

pub returns-in_ok-key-in-None-clause-room : goal.returns-in_ok-key-in-None-clause-room
returns-in_ok-key-in-None-clause-room c =
    let new = c.in_ok-key-in-None in
    let unknown = ap (lookup (key_eq c.args.key.now)) new.ensures.same ∙ unknown_of (lookup (key_eq c.args.key.now) c.args.queues.now.entries) c.in-None.ensures.found in
    record {
      usable = new.ensures.room;
      serves = λ fit. record {
        reply = refl;
        keys =
            sets_new c.to_begin.new.queues.entries c.args.key.now new.key _ c.from_vec-copies.result.items c.args.values.now None new.ensures.key new.ensures.queue unknown refl
            (c.from_vec-copies.ensures.items ∙ c.in_ok-copy_items.ensures);
        gate = λ gate. refl;
      };
    }
