-- The sequential linda, after the keyed queues of Lua Lanes: which operations fit, what each
-- replies, and the linda after it.
use Rattle.std.specs.Prelude.{◌≡◌, ◌+◌, ℕ, Bool, true, false, ◌&&◌, ◌||◌, not, nat_le, nat_lt, if◌then◌else◌, List, [], ◌∷◌, ◌++◌, length, take, drop, map, filter, find, Option, None, Some, is_some}
use Rattle.std.specs.Option.{unwrap_or}
use Rattle.std.specs.List.{list_any, filter_map}
use Rattle.std.specs.Map.{lookup}
use Rattle.indexmap.specs.IndexMap.{insert_entry}
use Rattle.desk_object.specs.declared.ending.Ending.{Ending}
use Rattle.desk_object.specs.declared.ending.Ending.TheVariants.{Served, GaveUp, Withdrawn as Called_off}
use Rattle.desk_object.specs.Endings.{MayEnd}
use Rattle.linda_core.specs.declared.item.Item.{Item}
use Rattle.linda_core.specs.declared.key.Key.{Key}
use Rattle.linda_core.specs.declared.call.Side.{Side}
use Rattle.linda_core.specs.declared.call.Side.TheVariants.{Neither, Read, Write, Both}
use Rattle.linda_core.specs.declared.call.LindaOp.{LindaOp}
use Rattle.linda_core.specs.declared.call.LindaOp.TheVariants.{Send, Receive, Batch, Limit, Set, Get, Count, Gate}
use Rattle.linda_core.specs.declared.call.LindaReply.{LindaReply}
use Rattle.linda_core.specs.declared.call.LindaReply.TheVariants.{Sent, Full, Got, Short, Values, Room, Counts, Done, Withdrawn, Barred}
use Rattle.linda_core.specs.declared.content.Known.{Known}
use Rattle.linda_core.specs.declared.content.Content.{Content}
use Rattle.linda_core.specs.contracts.key.KeyPartialEq.TheImpl.{eq-value}

-- whether two keys are one: the same kind and the same content
abbrev pub key_eq : Key → Key → Bool
key_eq = eq-value.it

-- the known keys of a linda with what each has, in the order in which they became known
abbrev pub Keys : Type 0
Keys = List (Key × Known)

abbrev pub empty_linda : Content
empty_linda = record { gate = Neither; keys = [] }

-- what a key has; a key that is not known has nothing
abbrev pub nothing : Known
nothing = record { queue = []; limit = None }

abbrev pub held_by : Keys → Key → Known
held_by keys key = unwrap_or (lookup (key_eq key) keys) nothing

abbrev pub queue_of : Keys → Key → List Item
queue_of keys key = (held_by keys key).queue

-- the keys where this one has this; one that was not known is last
abbrev pub with_held : Keys → Key → Known → Keys
with_held keys key known = insert_entry key_eq keys key known

-- at most the limit, where there is one
abbrev pub is_within : Option ℕ → ℕ → Bool
is_within None count = true
is_within (Some most) count = nat_le count most

abbrev pub has_value : Keys → Key → Bool
has_value keys key = nat_lt 0 (length (queue_of keys key))

-- ---- which operations the gate bars

abbrev pub bars_reading : Side → Bool
bars_reading Read = true
bars_reading Both = true
bars_reading side = false

abbrev pub bars_writing : Side → Bool
bars_writing Write = true
bars_writing Both = true
bars_writing side = false

-- a Send is barred from writing, a Receive and a Batch from reading
abbrev pub is_barred : Side → LindaOp → Bool
is_barred gate (Send key values) = bars_writing gate
is_barred gate (Receive keys) = bars_reading gate
is_barred gate (Batch key min max) = bars_reading gate
is_barred gate op = false

-- ---- which operations fit

-- where they are not barred
abbrev pub fits_keys : Keys → LindaOp → Bool
fits_keys keys (Send key values) =
    is_within (held_by keys key).limit (length (queue_of keys key) + length values)
fits_keys keys (Receive listed) = list_any (has_value keys) listed
fits_keys keys (Batch key min max) = nat_le min (length (queue_of keys key))
fits_keys keys op = true

-- a barred operation fits, since it has its reply at once
abbrev pub fits : Content → LindaOp → Bool
fits linda op = is_barred linda.gate op || fits_keys linda.keys op

-- ---- what a served operation replies

-- the first value of the first listed key that has one
abbrev pub got_first : Keys → Option Key → LindaReply
got_first keys None = Short
got_first keys (Some key) = Got key (take 1 (queue_of keys key))

-- a key that was at its old limit has room under its new one
abbrev pub has_new_room : Option ℕ → Option ℕ → ℕ → Bool
has_new_room None new count = false
has_new_room (Some old) None count = nat_le old count
has_new_room (Some old) (Some new) count = nat_le old count && nat_lt count new

-- each key once, at its first place
abbrev pub once : List Key → List Key
once [] = []
once (key ∷ keys) = key ∷ filter (λ other. not (key_eq key other)) (once keys)

abbrev pub count_of : Keys → Key → Option (Key × ℕ)
count_of keys key =
    if is_some (lookup (key_eq key) keys) then Some (key, length (queue_of keys key)) else None

-- the known ones among the listed keys, or all where none is listed
abbrev pub counts_of : Keys → List Key → List (Key × ℕ)
counts_of keys [] = map (λ entry. (entry.0, length entry.1.queue)) keys
counts_of keys (key ∷ listed) = filter_map (count_of keys) (once (key ∷ listed))

abbrev pub reply_of_keys : Keys → LindaOp → LindaReply
reply_of_keys keys (Send key values) = Sent
reply_of_keys keys (Receive listed) = got_first keys (find (has_value keys) listed)
reply_of_keys keys (Batch key min max) = Got key (take max (queue_of keys key))
reply_of_keys keys (Limit key limit) =
    Room (has_new_room (held_by keys key).limit limit (length (queue_of keys key)))
reply_of_keys keys (Set key values) = Done
reply_of_keys keys (Get key count) = Values (take count (queue_of keys key))
reply_of_keys keys (Count listed) = Counts (counts_of keys listed)
reply_of_keys keys (Gate side) = Done

abbrev pub reply_of : Content → LindaOp → LindaReply
reply_of linda op = if is_barred linda.gate op then Barred else reply_of_keys linda.keys op

-- ---- the linda after a served operation

-- the key's queue is this; its limit stays
abbrev pub with_queue : Keys → Key → List Item → Keys
with_queue keys key queue =
    with_held keys key (record { queue = queue; limit = (held_by keys key).limit })

abbrev pub without_first : Keys → Option Key → Keys
without_first keys None = keys
without_first keys (Some key) = with_queue keys key (drop 1 (queue_of keys key))

abbrev pub keys_after : Keys → LindaOp → Keys
keys_after keys (Send key values) = with_queue keys key (queue_of keys key ++ values)
keys_after keys (Receive listed) = without_first keys (find (has_value keys) listed)
keys_after keys (Batch key min max) = with_queue keys key (drop max (queue_of keys key))
keys_after keys (Limit key limit) =
    with_held keys key (record { queue = queue_of keys key; limit = limit })
keys_after keys (Set key values) = with_queue keys key values
keys_after keys op = keys

abbrev pub gate_after : Side → LindaOp → Side
gate_after gate (Gate side) = side
gate_after gate op = gate

-- a barred operation changes nothing
abbrev pub after_call : Content → LindaOp → Content
after_call linda op =
    if is_barred linda.gate op then linda
    else record { gate = gate_after linda.gate op; keys = keys_after linda.keys op }

-- ---- a call with its ending

abbrev pub gave_up_reply : LindaOp → LindaReply
gave_up_reply (Send key values) = Full
gave_up_reply op = Short

-- a call that gave up and one that was withdrawn change nothing
abbrev pub reply_to : Content → LindaOp → Ending → LindaReply
reply_to linda op Served = reply_of linda op
reply_to linda op GaveUp = gave_up_reply op
reply_to linda op Called_off = Withdrawn

abbrev pub linda_after : Content → LindaOp → Ending → Content
linda_after linda op Served = after_call linda op
linda_after linda op ending = linda

-- A served call fits. One that gave up does not.
abbrev pub Steps : Content → LindaOp → Ending → LindaReply → Content → Type 0
Steps linda op ending reply after =
    MayEnd ending (fits linda op)
    × (reply ≡ reply_to linda op ending)
    × (after ≡ linda_after linda op ending)
