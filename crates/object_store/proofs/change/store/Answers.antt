use Rattle.std.proofs.Common.{◌≡◌, ◌∙◌, ℕ, if◌then◌else◌, ◌+◌, ◌++◌, ◌∷◌, [], List, length, ap, arith, filter}
use Rattle.object_store.specs.declared.value.Value.{Value}
use Rattle.object_store.specs.Run.{joined}
use Rattle.object_store.specs.Pairs.{is_live}
use Rattle.object_store.proofs.PairLemmas.{dead_there, recounted_is, same_length, dead-le-length, added, added_dead, purged_added, purged_added_dead, length-one_more, length-filter_le}
use Rattle.object_store.proofs.RunLemmas.{length-joined, joined_same}
use Rattle.object_store.proofs.RoomLemmas.{room_used, room_there, room_due}
use Rattle.object_store.proofs.change.store.Goals as goal

pub recounted-requires-clause-there : goal.recounted-requires-clause-there
recounted-requires-clause-there c = dead_there _ c.args.key c.in-Some.old c.args.dead c.requires.counted c.in-Some.ensures.old

pub returns-in-Some-clause-dead : goal.returns-in-Some-clause-dead
returns-in-Some-clause-dead c = recounted_is _ c.args.key c.in-Some.old c.args.dead c.requires.counted c.in-Some.ensures.old _ c.args.value c.recounted.result c.in-Some.ensures.present c.recounted.ensures

pub returns-in-Some-clause-few : goal.returns-in-Some-clause-few
returns-in-Some-clause-few c = omega (arith, same_length _ _ c.args.key c.args.value c.in-Some.ensures.present, c.requires.few)

pub overflow_sub-all : goal.overflow_sub-all
overflow_sub-all c =
    let same = joined_same _ _ _ _ c.in_default.ensures.absent_run c.in_default.ensures.absent_rest in
    omega (arith, c.requires.counted, dead-le-length (joined c.args.run.now.items c.args.rest.now.entries), ap (λ (l : List (Value × Value)). length l) same, length-joined c.replace.new.run.items c.replace.new.rest.entries, c.len.ensures, c.len-2.ensures.len)

pub returns-then-all-dead-clause-pairs : goal.returns-then-all-dead-clause-pairs
returns-then-all-dead-clause-pairs c =
    let same = joined_same _ _ _ _ c.in_default.ensures.absent_run c.in_default.ensures.absent_rest in
    let sized : c.len.result + c.len-2.result ≡ length (joined c.args.run.now.items c.args.rest.now.entries) = omega (arith, ap (λ (l : List (Value × Value)). length l) same, length-joined c.replace.new.run.items c.replace.new.rest.entries, c.len.ensures, c.len-2.ensures.len) in
    let made = c.in_ok-purge_and_add.ensures.pairs ∙ ap (λ l. filter is_live l ++ (c.args.key, c.args.value) ∷ []) same in
    purged_added _ c.args.key c.args.value c.args.dead (c.len.result + c.len-2.result) c.requires.counted sized c.requires.live c.in_default.ensures.old _ c.if-all-dead.true made

pub returns-then-all-dead-clause-dead : goal.returns-then-all-dead-clause-dead
returns-then-all-dead-clause-dead c =
    let same = joined_same _ _ _ _ c.in_default.ensures.absent_run c.in_default.ensures.absent_rest in
    let sized : c.len.result + c.len-2.result ≡ length (joined c.args.run.now.items c.args.rest.now.entries) = omega (arith, ap (λ (l : List (Value × Value)). length l) same, length-joined c.replace.new.run.items c.replace.new.rest.entries, c.len.ensures, c.len-2.ensures.len) in
    let made = c.in_ok-purge_and_add.ensures.pairs ∙ ap (λ l. filter is_live l ++ (c.args.key, c.args.value) ∷ []) same in
    purged_added_dead _ c.args.key c.args.value c.args.dead (c.len.result + c.len-2.result) c.requires.counted sized c.requires.live c.in_default.ensures.old _ made

pub returns-then-all-dead-clause-few : goal.returns-then-all-dead-clause-few
returns-then-all-dead-clause-few c =
    let same = joined_same _ _ _ _ c.in_default.ensures.absent_run c.in_default.ensures.absent_rest in
    let sized : c.len.result + c.len-2.result ≡ length (joined c.args.run.now.items c.args.rest.now.entries) = omega (arith, ap (λ (l : List (Value × Value)). length l) same, length-joined c.replace.new.run.items c.replace.new.rest.entries, c.len.ensures, c.len-2.ensures.len) in
    let made = c.in_ok-purge_and_add.ensures.pairs ∙ ap (λ l. filter is_live l ++ (c.args.key, c.args.value) ∷ []) same in
    omega (arith, sized, length-one_more _ _ _ made, length-filter_le (joined c.args.run.now.items c.args.rest.now.entries), c.if-all-ge-MOST_PAIRS.false)

pub returns-clause-pairs : goal.returns-clause-pairs
returns-clause-pairs c =
    let same = joined_same _ _ _ _ c.in_default.ensures.absent_run c.in_default.ensures.absent_rest in
    let sized : c.len.result + c.len-2.result ≡ length (joined c.args.run.now.items c.args.rest.now.entries) = omega (arith, ap (λ (l : List (Value × Value)). length l) same, length-joined c.replace.new.run.items c.replace.new.rest.entries, c.len.ensures, c.len-2.ensures.len) in
    let made = c.in_ok-add.ensures.pairs ∙ ap (λ l. l ++ (c.args.key, c.args.value) ∷ []) same in
    added _ c.args.key c.args.value c.args.dead (c.len.result + c.len-2.result) c.requires.counted sized c.requires.live c.in_default.ensures.old _ c.if-all-dead.false made

pub returns-clause-dead : goal.returns-clause-dead
returns-clause-dead c =
    let same = joined_same _ _ _ _ c.in_default.ensures.absent_run c.in_default.ensures.absent_rest in
    let sized : c.len.result + c.len-2.result ≡ length (joined c.args.run.now.items c.args.rest.now.entries) = omega (arith, ap (λ (l : List (Value × Value)). length l) same, length-joined c.replace.new.run.items c.replace.new.rest.entries, c.len.ensures, c.len-2.ensures.len) in
    let made = c.in_ok-add.ensures.pairs ∙ ap (λ l. l ++ (c.args.key, c.args.value) ∷ []) same in
    added_dead _ c.args.key c.args.value c.args.dead (c.len.result + c.len-2.result) c.requires.counted sized c.requires.live c.in_default.ensures.old _ made

pub returns-clause-few : goal.returns-clause-few
returns-clause-few c =
    let same = joined_same _ _ _ _ c.in_default.ensures.absent_run c.in_default.ensures.absent_rest in
    let sized : c.len.result + c.len-2.result ≡ length (joined c.args.run.now.items c.args.rest.now.entries) = omega (arith, ap (λ (l : List (Value × Value)). length l) same, length-joined c.replace.new.run.items c.replace.new.rest.entries, c.len.ensures, c.len-2.ensures.len) in
    let made = c.in_ok-add.ensures.pairs ∙ ap (λ l. l ++ (c.args.key, c.args.value) ∷ []) same in
    omega (arith, sized, length-one_more _ _ _ made, c.if-all-ge-MOST_PAIRS.false)

pub returns-in-Some-clause-room : goal.returns-in-Some-clause-room
returns-in-Some-clause-room c =
    room_used c.args.dead (length (joined c.args.run.now.items c.args.rest.now.entries)) c.args.rest.now.room c.recounted.result _ c.replace.new.rest.room
    (omega (arith, c.recounted.ensures, ap {B = ℕ} (λ b. if b then 1 else 0) c.requires.live))
    (omega (arith, same_length _ _ c.args.key c.args.value c.in-Some.ensures.present)) (omega (arith, same_length _ _ c.args.key c.args.value c.in-Some.ensures.present)) (omega (arith, c.replace.ensures.room))

pub returns-then-all-ge-MOST_PAIRS-clause-succeeds : goal.returns-then-all-ge-MOST_PAIRS-clause-succeeds
returns-then-all-ge-MOST_PAIRS-clause-succeeds c = λ h.
    let same = joined_same _ _ _ _ c.in_default.ensures.absent_run c.in_default.ensures.absent_rest in
    let sized : c.len.result + c.len-2.result ≡ length (joined c.args.run.now.items c.args.rest.now.entries) = omega (arith, ap (λ (l : List (Value × Value)). length l) same, length-joined c.replace.new.run.items c.replace.new.rest.entries, c.len.ensures, c.len-2.ensures.len) in
    let few = (room_there c.args.dead _ c.args.rest.now.room h).few in
    absurd (omega (arith, few, sized, c.if-all-ge-MOST_PAIRS.true))

pub returns-in_err-purge_and_add-clause-succeeds : goal.returns-in_err-purge_and_add-clause-succeeds
returns-in_err-purge_and_add-clause-succeeds c = λ h.
    let same = joined_same _ _ _ _ c.in_default.ensures.absent_run c.in_default.ensures.absent_rest in
    let sized : c.len.result + c.len-2.result ≡ length (joined c.args.run.now.items c.args.rest.now.entries) = omega (arith, ap (λ (l : List (Value × Value)). length l) same, length-joined c.replace.new.run.items c.replace.new.rest.entries, c.len.ensures, c.len-2.ensures.len) in
    let rest = (room_there c.args.dead _ c.args.rest.now.room h).not_due in
    absurd (omega (arith, rest, sized, c.if-all-dead.true))

pub returns-then-all-dead-clause-room : goal.returns-then-all-dead-clause-room
returns-then-all-dead-clause-room c =
    let same = joined_same _ _ _ _ c.in_default.ensures.absent_run c.in_default.ensures.absent_rest in
    let sized : c.len.result + c.len-2.result ≡ length (joined c.args.run.now.items c.args.rest.now.entries) = omega (arith, ap (λ (l : List (Value × Value)). length l) same, length-joined c.replace.new.run.items c.replace.new.rest.entries, c.len.ensures, c.len-2.ensures.len) in
    room_due c.args.dead _ c.args.rest.now.room _ (omega (arith, sized, c.if-all-dead.true))
