-- The definitions of the sequential linda, computed on examples.
use Rattle.std.proofs.Common.{◌≡◌, true, false, [], ◌∷◌, pos, Some, refl}
use Rattle.parcel.specs.declared.leaf.Leaf.TheVariants.{Int}
use Rattle.linda_core.specs.declared.item.Item.{Item}
use Rattle.linda_core.specs.Items.{leaf_item}
use Rattle.linda_core.specs.declared.key.Key.{Key}
use Rattle.linda_core.specs.declared.key.Key.TheVariants.{Bool, Int as Number}
use Rattle.linda_core.specs.declared.call.Side.TheVariants.{Neither, Read as Reading}
use Rattle.linda_core.specs.declared.call.LindaOp.TheVariants.{Send, Receive, Batch, Limit, Set, Get, Count, Gate}
use Rattle.linda_core.specs.declared.call.LindaReply.TheVariants.{Got, Room, Values, Counts, Barred, Done}
use Rattle.linda_core.specs.declared.content.Content.{Content}
use Rattle.linda_core.specs.SequentialLinda.{empty_linda, fits, reply_of, after_call}

abbrev a : Key
a = Bool true

abbrev b : Key
b = Number (pos 7)

abbrev one : Item
one = leaf_item (Int (pos 1))

abbrev two : Item
two = leaf_item (Int (pos 2))

abbrev three : Item
three = leaf_item (Int (pos 3))

-- first in, first out, and the other key is not touched
abbrev sent : Content
sent = after_call (after_call (after_call empty_linda (Send a (one ∷ two ∷ []))) (Send b (three ∷ []))) (Send a (three ∷ []))

oldest_first : reply_of sent (Receive (a ∷ [])) ≡ Got a (one ∷ [])
oldest_first = refl

then_next : reply_of (after_call sent (Receive (a ∷ []))) (Receive (a ∷ b ∷ [])) ≡ Got a (two ∷ [])
then_next = refl

-- the first listed key that has a value, in the order of the list
first_listed : reply_of (after_call empty_linda (Send b (one ∷ []))) (Receive (a ∷ b ∷ [])) ≡ Got b (one ∷ [])
first_listed = refl

-- a Receive of an empty key does not fit, a Send without a limit does
nothing_there : fits empty_linda (Receive (a ∷ b ∷ [])) ≡ false
nothing_there = refl

-- a Send fits whole or not at all
abbrev limited : Content
limited = after_call empty_linda (Limit a (Some 2))

too_many : fits limited (Send a (one ∷ two ∷ three ∷ [])) ≡ false
too_many = refl

just_enough : fits (after_call limited (Limit a (Some 3))) (Send a (one ∷ two ∷ three ∷ [])) ≡ true
just_enough = refl

-- a Batch waits for its least number and takes at most its greatest
too_few : fits (after_call empty_linda (Send a (one ∷ []))) (Batch a 2 5) ≡ false
too_few = refl

at_most : reply_of sent (Batch a 1 2) ≡ Got a (one ∷ two ∷ [])
at_most = refl

left_over : reply_of (after_call sent (Batch a 1 2)) (Get a 9) ≡ Values (three ∷ [])
left_over = refl

-- a Set empties a key, which stays known, and does not look at its limit
counted : reply_of (after_call sent (Set a [])) (Count []) ≡ Counts ((a, 0) ∷ (b, 1) ∷ [])
counted = refl

-- a key at its limit has room again under a greater one
abbrev full : Content
full = after_call (after_call empty_linda (Limit a (Some 1))) (Set a (one ∷ two ∷ []))

room_again : reply_of full (Limit a (Some 3)) ≡ Room true
room_again = refl

no_room : reply_of full (Limit a (Some 2)) ≡ Room false
no_room = refl

-- listed keys count once, in the order of their first places, where they are known
listed_once : reply_of sent (Count (b ∷ a ∷ Bool false ∷ b ∷ [])) ≡ Counts ((b, 1) ∷ (a, 3) ∷ [])
listed_once = refl

-- a gate bars a side until it is opened
abbrev closed : Content
closed = after_call sent (Gate Reading)

barred : reply_of closed (Receive (a ∷ [])) ≡ Barred
barred = refl

not_barred : reply_of closed (Set a []) ≡ Done
not_barred = refl

open_again : reply_of (after_call (after_call closed (Receive (a ∷ []))) (Gate Neither)) (Receive (a ∷ [])) ≡ Got a (one ∷ [])
open_again = refl
