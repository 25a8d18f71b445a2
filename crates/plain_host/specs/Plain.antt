-- The host of one lane alone: an output, and a bank of lindas. What it answers to an ask, and what
-- the output and the bank are then.
use Rattle.std.specs.Prelude.{◌≡◌, ◌≤◌, ◌++◌, ◌∷◌, [], ℕ, List, length, map, Bool, true, false, ◌&&◌, slice_get, slice_set, is_ok, Option, Some, None}
use Rattle.std.specs.Io.KnownBytes.{Appends}
use Rattle.linda_core.specs.declared.call.BankCall.{BankCall}
use Rattle.linda_core.specs.declared.call.LindaOp.{LindaOp}
use Rattle.linda_core.specs.declared.call.LindaReply.{LindaReply}
use Rattle.linda_core.specs.declared.content.Content.{Content}
use Rattle.linda_core.specs.Holding.{Holding, content}
use Rattle.linda_core.specs.Lawful.{fault_of}
use Rattle.linda_core.specs.SequentialLinda.{Steps, empty_linda, fits}
use Rattle.desk_object.specs.declared.ending.Ending.TheVariants.{Served}
use Rattle.lanes_lib.specs.declared.ask.Ask.{Ask}
use Rattle.lanes_lib.specs.declared.ask.Ask.TheVariants as ask
use Rattle.lanes_lib.specs.declared.ask.Answer.{Answer}
use Rattle.lanes_lib.specs.declared.ask.Answer.TheVariants as answer
use Rattle.outside.specs.Faults.{Rose}
use Rattle.plain_host.specs.Writing.{AppendsPart}

-- what the output has taken, how many of its writes failed, whether one did for this host, and the
-- lindas by number
pub record Seen : Type 0 where
  pub taken : Option (List ℕ)
  pub faults : ℕ
  pub failed : Bool
  pub lindas : List Content

-- a linda is ready for a call where there is one of this number, and the operation is lawful and
-- fits it
abbrev pub is_ready : Option Content → LindaOp → Bool
is_ready None op = false
is_ready (Some linda) op = is_ok (fault_of op) && fits linda op

-- a ready call was served, as the sequential linda has it
pub record Serves (before after : List Content) (call : BankCall) (reply : LindaReply) :
    Type 0 where
  pub linda : Content
  pub next : Content
  pub found : slice_get before call.linda ≡ Some linda
  pub step : Steps linda call.op Served reply next
  pub changed : after ≡ slice_set before call.linda next

-- The host answered an ask so. A line that is printed was taken whole, or in part where a write
-- failed. A linda has the next number. A call that isn't ready is not built. Want of memory may
-- answer everything, and changes nothing.
abbrev pub Answers : Seen → Ask → Answer → Seen → Type 0
Answers h (ask.Print text) answer.Printed h1 =
    Appends h.taken h1.taken text
    × (h1 ≡ record h { taken = h1.taken })
Answers h (ask.Print text) answer.WriteFault h1 =
    AppendsPart h.taken h1.taken text × (h.faults ≤ h1.faults) × Rose h.faults h1.faults
    × (h1 ≡ record h { taken = h1.taken; faults = h1.faults; failed = true })
Answers h ask.NewLinda (answer.Linda n) h1 =
    (n ≡ length h.lindas) × (h1 ≡ record h { lindas = h.lindas ++ empty_linda ∷ [] })
Answers h (ask.Linda call seconds) (answer.Reply reply) h1 =
    Serves h.lindas h1.lindas call reply × (h1 ≡ record h { lindas = h1.lindas })
Answers h (ask.Linda call seconds) answer.NotBuilt h1 =
    (is_ready (slice_get h.lindas call.linda) call.op ≡ false) × (h1 ≡ h)
Answers h a answer.Memory h1 = h1 ≡ h
Answers h a r h1 = ⊥

-- what contracts see of a host with this output and these lindas
abbrev pub seen_of : Option (List ℕ) → ℕ → Bool → List Holding → Seen
seen_of taken faults failed lindas =
    record { taken = taken; faults = faults; failed = failed; lindas = map content lindas }

-- what one linda answers to an operation
abbrev pub AnswersOne : Content → LindaOp → Answer → Content → Type 0
AnswersOne linda op (answer.Reply reply) next = Steps linda op Served reply next
AnswersOne linda op answer.NotBuilt next = (is_ready (Some linda) op ≡ false) × (next ≡ linda)
AnswersOne linda op answer.Memory next = next ≡ linda
AnswersOne linda op r next = ⊥
