-- The content of a map of queues, look-up by look-up and write by write.
use Rattle.std.proofs.Common.{◌≡◌, ◌+◌, ◌≤◌, ◌<◌, position, is_some, ℕ, zero, suc, Bool, true, false, cond, if◌then◌else◌, List, [], ◌∷◌, length, slice_get, Option, None, Some, Result, Ok, Err, IsOk, OnOk, refl, ap, sym, ◌∙◌, true≢false, arith}
use Rattle.std.specs.Map.{lookup, keys_of, values_of}
use Rattle.std.specs.Option.{unwrap_or, option_map}
use Rattle.indexmap.specs.IndexMap.{insert_entry, set_value_at}
use Rattle.indexmap.proofs.MapLemmas.{insert_entry-first, Found-position}
use Rattle.linda_core.specs.declared.key.Key.{Key}
use Rattle.linda_core.specs.Queue.{Queued}
use Rattle.linda_core.specs.declared.content.Known.{Known}
use Rattle.linda_core.specs.SequentialLinda.{key_eq, held_by, queue_of, with_held, nothing}
use Rattle.linda_core.specs.Holding.{known_of, seen}
use Rattle.linda_core.specs.Rooms.{HasRoomAt, HasValuesAt, changed_at, queue_at}

-- a look-up
lookup_step : (b : Bool) (q : Queued) (r : Option Known) (s : Option Queued) → r ≡ option_map known_of s → cond b (Some (known_of q)) r ≡ option_map known_of (cond b (Some q) s)
lookup_step true q r s h = refl
lookup_step false q r s h = h

pub lookup-seen : (test : Key → Bool) (es : List (Key × Queued)) → lookup test (seen es) ≡ option_map known_of (lookup test es)
lookup-seen test [] = refl
lookup-seen test (e ∷ es) = lookup_step (test e.0) e.1 (lookup test (seen es)) (lookup test es) (lookup-seen test es)

pub held_by-known : (es : List (Key × Queued)) (key : Key) (q : Queued) → lookup (key_eq key) es ≡ Some q → held_by (seen es) key ≡ known_of q
held_by-known es key q h = ap (λ r. unwrap_or r nothing) (lookup-seen (key_eq key) es ∙ ap (option_map known_of) h)

pub held_by-unknown : (es : List (Key × Queued)) (key : Key) → lookup (key_eq key) es ≡ None → held_by (seen es) key ≡ nothing
held_by-unknown es key h = ap (λ r. unwrap_or r nothing) (lookup-seen (key_eq key) es ∙ ap (option_map known_of) h)

-- the keys
pub keys_of-seen : (es : List (Key × Queued)) → keys_of (seen es) ≡ keys_of es
keys_of-seen [] = refl
keys_of-seen (e ∷ es) = ap (λ keys. e.0 ∷ keys) (keys_of-seen es)

-- writes
pub seen-set_value_at : (es : List (Key × Queued)) (i : ℕ) (q : Queued) → seen (set_value_at es i q) ≡ set_value_at (seen es) i (known_of q)
seen-set_value_at [] i q = refl
seen-set_value_at (e ∷ es) zero q = refl
seen-set_value_at (e ∷ es) (suc i) q = ap (λ rest. (e.0, known_of e.1) ∷ rest) (seen-set_value_at es i q)

insert_step : (b : Bool) (e : Key × Queued) (es : List (Key × Queued)) (key : Key) (q : Queued) (rest : List (Key × Queued)) (more : List (Key × Known)) → more ≡ seen rest
    → (if b then (e.0, known_of q) ∷ seen es else (e.0, known_of e.1) ∷ more) ≡ seen (if b then (e.0, q) ∷ es else e ∷ rest)
insert_step true e es key q rest more h = refl
insert_step false e es key q rest more h = ap (λ l. (e.0, known_of e.1) ∷ l) h

pub seen-insert_entry : (es : List (Key × Queued)) (key : Key) (q : Queued) → insert_entry key_eq (seen es) key (known_of q) ≡ seen (insert_entry key_eq es key q)
seen-insert_entry [] key q = refl
seen-insert_entry (e ∷ es) key q = insert_step (key_eq key e.0) e es key q (insert_entry key_eq es key q) _ (seen-insert_entry es key q)

-- a queue that shows the same, written back, changes nothing
pub seen-set_same : (es : List (Key × Queued)) (i : ℕ) (old new : Queued) → slice_get (values_of es) i ≡ Some old → known_of new ≡ known_of old → seen (set_value_at es i new) ≡ seen es
seen-set_same [] i old new there same = refl
seen-set_same (e ∷ es) zero old new there same =
    let first : e.1 ≡ old = cc in
    ap (λ known. (e.0, known) ∷ seen es) (same ∙ ap known_of (sym first))
seen-set_same (e ∷ es) (suc i) old new there same = ap (λ rest. (e.0, known_of e.1) ∷ rest) (seen-set_same es i old new there same)

-- what was written at a place stands there
pub values_of-set_value_at : (es : List (Key × Queued)) (i : ℕ) (old new : Queued) → slice_get (values_of es) i ≡ Some old → slice_get (values_of (set_value_at es i new)) i ≡ Some new
values_of-set_value_at [] i old new there = absurd (cc)
values_of-set_value_at (e ∷ es) zero old new there = refl
values_of-set_value_at (e ∷ es) (suc i) old new there = values_of-set_value_at es i old new there

-- a fact of each success, where there is one
pub on_ok : {T E : Type 0} (r : Result T E) (P : Type 0) → IsOk r → OnOk r P → P
on_ok (Ok x) P ok p = p
on_ok (Err e) P ok p = absurd (true≢false (sym ok))

-- room that was made at a place is there
pub room_at : {E : Type 0} (es : List (Key × Queued)) (i more : ℕ) (old new : Queued) → slice_get (values_of es) i ≡ Some old → new.items ≡ old.items
    → (r : Result (Unit {0}) E) → OnOk r (length old.items + more ≤ new.capacity) → OnOk r (HasRoomAt (set_value_at es i new) i more)
room_at es i more old new there same (Err e) h = h
room_at es i more old new there same (Ok u) h = record {
  queue = new;
  there = values_of-set_value_at es i old new there;
  room = omega (arith, h, ap length same);
}

-- ---- changes at a place

pub seen-changed : (es : List (Key × Queued)) (i : ℕ) (change : Known → Known) (old new : Queued) → slice_get (values_of es) i ≡ Some old → known_of new ≡ change (known_of old) → seen (set_value_at es i new) ≡ changed_at i change (seen es)
seen-changed [] i change old new there made = refl
seen-changed (e ∷ es) zero change old new there made =
    let first : e.1 ≡ old = cc in
    ap (λ known. (e.0, known) ∷ seen es) (made ∙ ap (λ q. change (known_of q)) (sym first))
seen-changed (e ∷ es) (suc i) change old new there made = ap (λ rest. (e.0, known_of e.1) ∷ rest) (seen-changed es i change old new there made)

changed-is-set : (es : List (Key × Queued)) (i : ℕ) (change : Known → Known) (old : Queued) → slice_get (values_of es) i ≡ Some old → changed_at i change (seen es) ≡ set_value_at (seen es) i (change (known_of old))
changed-is-set [] i change old there = refl
changed-is-set (e ∷ es) zero change old there =
    let first : e.1 ≡ old = cc in
    ap (λ q. (e.0, change (known_of q)) ∷ seen es) first
changed-is-set (e ∷ es) (suc i) change old there = ap (λ rest. (e.0, known_of e.1) ∷ rest) (changed-is-set es i change old there)

pub queue_at-seen : (es : List (Key × Queued)) (i : ℕ) (queue : Queued) → slice_get (values_of es) i ≡ Some queue → queue_at i (seen es) ≡ queue.items
queue_at-seen [] i queue there = absurd (cc)
queue_at-seen (e ∷ es) zero queue there =
    let first : e.1 ≡ queue = cc in
    ap (λ q. q.items) first
queue_at-seen (e ∷ es) (suc i) queue there = queue_at-seen es i queue there

-- ---- the place of a key

some_value : (es : List (Key × Queued)) (i : ℕ) → i < length es → (queue : Queued) × (slice_get (values_of es) i ≡ Some queue)
some_value [] i within = absurd (omega (arith, within))
some_value (e ∷ es) zero within = (e.1, refl)
some_value (e ∷ es) (suc i) within = some_value es i (omega arith)

module _ (es : List (Key × Queued)) (key : Key) (place : ℕ) (found : position (key_eq key) (keys_of es) ≡ Some place) where
  pub place_within : place < length es
  place_within = (Found-position (key_eq key) es place found).within

  lookup_at : lookup (key_eq key) es ≡ slice_get (values_of es) place
  lookup_at = (Found-position (key_eq key) es place found).value

  queue_there : (queue : Queued) × (slice_get (values_of es) place ≡ Some queue)
  queue_there = some_value es place place_within

  pub held_at : (queue : Queued) → slice_get (values_of es) place ≡ Some queue → held_by (seen es) key ≡ known_of queue
  held_at queue there = held_by-known es key queue (lookup_at ∙ there)

  pub is_known : is_some (lookup (key_eq key) (seen es)) ≡ true
  is_known = ap is_some (lookup-seen (key_eq key) es ∙ ap (option_map known_of) (lookup_at ∙ queue_there.1))

  -- a change at its place is one of what it has
  pub changed-held : (change : Known → Known) → changed_at place change (seen es) ≡ with_held (seen es) key (change (held_by (seen es) key))
  changed-held change =
      changed-is-set es place change queue_there.0 queue_there.1
      ∙ sym (insert_entry-first key_eq key (change (known_of queue_there.0)) (seen es) place (Found-position (key_eq key) (seen es) place (ap (position (key_eq key)) (keys_of-seen es) ∙ found)).first)
      ∙ ap (λ held. with_held (seen es) key (change held)) (sym (held_at queue_there.0 queue_there.1))

  pub queue_at-held : queue_at place (seen es) ≡ queue_of (seen es) key
  queue_at-held = queue_at-seen es place queue_there.0 queue_there.1 ∙ sym (ap (λ held. held.queue) (held_at queue_there.0 queue_there.1))

  -- with so many values
  pub values_at : (count : ℕ) → count ≤ length (queue_of (seen es) key) → HasValuesAt es place count
  values_at count enough = record {
    queue = queue_there.0;
    there = queue_there.1;
    some = let same : length (queue_of (seen es) key) ≡ length queue_there.0.items = ap (λ held. length held.queue) (held_at queue_there.0 queue_there.1) in omega (arith, enough, same);
  }
