-- The room that was reserved in a linda for an operation, and what it does when it is used.
use Rattle.std.specs.Prelude.{◌≡◌, ◌≤◌, ◌<◌, ◌+◌, ℕ, zero, suc, true, List, [], ◌∷◌, ◌++◌, length, take, drop, slice_get, Some, Option}
use Rattle.std.specs.Map.{values_of}
use Rattle.std.specs.Option.{option_map_or}
use Rattle.std.specs.Vec.{vec_capacity}
use Rattle.linda_core.specs.declared.item.Item.{Item}
use Rattle.linda_core.specs.declared.key.Key.{Key}
use Rattle.linda_core.specs.declared.call.Side.{Side}
use Rattle.linda_core.specs.declared.call.LindaOp.{LindaOp}
use Rattle.linda_core.specs.declared.call.LindaReply.{LindaReply}
use Rattle.linda_core.specs.declared.call.LindaReply.TheVariants as reply
use Rattle.linda_core.specs.declared.content.Known.{Known}
use Rattle.linda_core.specs.declared.content.Content.{Content}
use Rattle.linda_core.specs.declared.room.Room.{Room}
use Rattle.linda_core.specs.declared.prepared.Prepared.{Prepared}
use Rattle.linda_core.specs.declared.prepared.Prepared.TheVariants.{Replies, Appends, Begins, Takes, Bounds, Replaces, Opens}
use Rattle.linda_core.specs.Queue.{Queued}
use Rattle.linda_core.specs.SequentialLinda.{Keys, fits, fits_keys, reply_of, reply_of_keys, after_call, keys_after, gate_after, with_held}
use Rattle.linda_core.specs.Holding.{Holding, content, known_of, seen}

-- ---- what used room does

-- with these values last, without the first ones, with this limit, and with these values alone
abbrev pub appended : List Item → Known → Known
appended values known = record { queue = known.queue ++ values; limit = known.limit }

abbrev pub shortened : ℕ → Known → Known
shortened count known = record { queue = drop count known.queue; limit = known.limit }

abbrev pub bounded : Option ℕ → Known → Known
bounded limit known = record { queue = known.queue; limit = limit }

abbrev pub replaced : List Item → Known → Known
replaced values known = record { queue = values; limit = known.limit }

-- what the key at a place has is changed
abbrev pub changed_at : ℕ → (Known → Known) → Keys → Keys
changed_at place change [] = []
changed_at zero change (entry ∷ keys) = (entry.0, change entry.1) ∷ keys
changed_at (suc place) change (entry ∷ keys) = entry ∷ changed_at place change keys

-- the queue of the key at a place
abbrev pub queue_at : ℕ → Keys → List Item
queue_at place keys = option_map_or (λ known. known.queue) (slice_get (values_of keys) place) []

abbrev pub reply_with : Prepared → Keys → LindaReply
reply_with (Replies answer) keys = answer
reply_with (Appends place values) keys = reply.Sent
reply_with (Begins key queue answer) keys = answer
reply_with (Takes place count key values) keys = reply.Got key (take count (queue_at place keys))
reply_with (Bounds place limit room) keys = reply.Room room
reply_with (Replaces place ring) keys = reply.Done
reply_with (Opens side) keys = reply.Done

abbrev pub keys_with : Prepared → Keys → Keys
keys_with (Appends place values) keys = changed_at place (appended values.items) keys
keys_with (Begins key queue answer) keys = with_held keys key (known_of queue)
keys_with (Takes place count key values) keys = changed_at place (shortened count) keys
keys_with (Bounds place limit room) keys = changed_at place (bounded limit) keys
keys_with (Replaces place ring) keys = changed_at place (replaced ring.items) keys
keys_with prepared keys = keys

abbrev pub gate_with : Prepared → Side → Side
gate_with (Opens side) gate = side
gate_with prepared gate = gate

-- ---- which room can be used without a refusal

-- at this place there is a queue in which so many more values fit
pub record HasRoomAt (queues : List (Key × Queued)) (place more : ℕ) : Type 0 where
  pub queue : Queued
  pub there : slice_get (values_of queues) place ≡ Some queue
  pub room : length queue.items + more ≤ queue.capacity

-- at this place there is a queue with so many values
pub record HasValuesAt (queues : List (Key × Queued)) (place count : ℕ) : Type 0 where
  pub queue : Queued
  pub there : slice_get (values_of queues) place ≡ Some queue
  pub some : count ≤ length queue.items

abbrev pub IsUsable : List (Key × Queued) → ℕ → Prepared → Type 0
IsUsable queues spare (Appends place values) = HasRoomAt queues place (length values.items)
IsUsable queues spare (Begins key queue answer) = 0 < spare
IsUsable queues spare (Takes place count key values) =
    HasValuesAt queues place count × (count ≤ vec_capacity values) × (values.items ≡ [])
IsUsable queues spare (Bounds place limit room) = place < length queues
IsUsable queues spare (Replaces place ring) = place < length queues
IsUsable queues spare prepared = Unit {0}

-- ---- the room for an operation

-- used for this operation, which isn't barred, it does what the sequential linda does
pub record Serves (before : Keys) (op : LindaOp) (prepared : Prepared) : Type 0 where
  pub reply : reply_with prepared before ≡ reply_of_keys before op
  pub keys : keys_with prepared before ≡ keys_after before op
  pub gate : (gate : Side) → gate_with prepared gate ≡ gate_after gate op

pub record IsPreparedFor (queues : List (Key × Queued)) (spare : ℕ) (op : LindaOp)
    (prepared : Prepared) : Type 0 where
  pub usable : IsUsable queues spare prepared
  pub serves : fits_keys (seen queues) op ≡ true → Serves (seen queues) op prepared

-- the linda in which the room was used
abbrev pub linda_with : Prepared → Content → Content
linda_with prepared linda = record {
  gate = gate_with prepared linda.gate;
  keys = keys_with prepared linda.keys;
}

-- the room was reserved for this operation in this linda
pub record IsRoomFor (holding : Holding) (op : LindaOp) (room : Room) : Type 0 where
  pub usable : IsUsable holding.queues holding.spare room.prepared
  pub reply : fits (content holding) op ≡ true →
      reply_with room.prepared (seen holding.queues) ≡ reply_of (content holding) op
  pub after : fits (content holding) op ≡ true →
      linda_with room.prepared (content holding) ≡ after_call (content holding) op
