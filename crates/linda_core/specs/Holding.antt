-- What contracts see of a linda: its content, and how much more fits in it without a refusal.
use Rattle.std.specs.Prelude.{ℕ, List, map}
use Rattle.linda_core.specs.declared.key.Key.{Key}
use Rattle.linda_core.specs.declared.call.Side.{Side}
use Rattle.linda_core.specs.declared.content.Known.{Known}
use Rattle.linda_core.specs.declared.content.Content.{Content}
use Rattle.linda_core.specs.Queue.{Queued}
use Rattle.linda_core.specs.SequentialLinda.{Keys}

-- the gate, the known keys with their queues, and how many more keys fit
pub record Holding : Type 0 where
  pub gate : Side
  pub queues : List (Key × Queued)
  pub spare : ℕ

-- without the room
abbrev pub known_of : Queued → Known
known_of queue = record { queue = queue.items; limit = queue.limit }

abbrev pub seen : List (Key × Queued) → Keys
seen queues = map (λ entry. (entry.0, known_of entry.1)) queues

abbrev pub content : Holding → Content
content holding = record { gate = holding.gate; keys = seen holding.queues }
