-- Histories of a bank: which are legal, and what it means that queues are first in, first out.
use Rattle.std.specs.Prelude.{◌≡◌, ℕ, nat_eq, List, [], ◌∷◌, ◌++◌, Option, Some, None, if◌then◌else◌}
use Rattle.desk_object.specs.declared.ending.Ending.{Ending}
use Rattle.desk_object.specs.declared.ending.Ending.TheVariants.{Served}
use Rattle.desk_object.specs.declared.entry.Entry.{Entry}
use Rattle.desk_object.specs.declared.entry.Entry.TheVariants.{Made, Close}
use Rattle.linda_core.specs.declared.item.Item.{Item}
use Rattle.linda_core.specs.declared.key.Key.{Key}
use Rattle.linda_core.specs.declared.call.BankCall.{BankCall}
use Rattle.linda_core.specs.declared.call.LindaOp.{LindaOp}
use Rattle.linda_core.specs.declared.call.LindaOp.TheVariants.{Send, Set}
use Rattle.linda_core.specs.declared.call.LindaReply.{LindaReply}
use Rattle.linda_core.specs.declared.call.LindaReply.TheVariants.{Sent, Got}
use Rattle.linda_core.specs.declared.content.Content.{Content}
use Rattle.linda_core.specs.SequentialLinda.{Steps, empty_linda, key_eq}

-- an entry is a caller, its call on a linda, the ending and the reply, or the close of the history
abbrev pub History : Type 0
History = List (Entry BankCall LindaReply)

-- a call on one linda, how it ended, and what it replied
pub record Call : Type 0 where
  pub op : LindaOp
  pub ending : Ending
  pub reply : LindaReply

-- the calls on one linda, in order
abbrev pub calls_on : ℕ → History → List Call
calls_on number [] = []
calls_on number (Made caller call ending reply ∷ history) =
    if nat_eq number call.linda
    then record { op = call.op; ending = ending; reply = reply } ∷ calls_on number history
    else calls_on number history
calls_on number (Close caller ∷ history) = calls_on number history

-- these calls in their order take one linda to another
abbrev pub IsRun : Content → List Call → Content → Type 0
IsRun before [] after = after ≡ before
IsRun before (call ∷ calls) after =
    (next : Content) × Steps before call.op call.ending call.reply next × IsRun next calls after

-- nothing follows a Close
abbrev pub ClosesLast : History → Type 0
ClosesLast [] = Unit {0}
ClosesLast (Made caller call ending reply ∷ history) = ClosesLast history
ClosesLast (Close caller ∷ history) = history ≡ []

-- the calls on each linda are a run from the empty linda
pub record IsLegal (history : History) : Type 0 where
  pub closed : ClosesLast history
  pub runs : (number : ℕ) → (after : Content) × IsRun empty_linda (calls_on number history) after

-- ---- first in, first out

-- the values that a call sent to the key
abbrev pub sent_by : Key → LindaOp → Ending → LindaReply → List Item
sent_by key (Send to values) Served Sent = if key_eq key to then values else []
sent_by key op ending reply = []

-- the values that a call took from the key
abbrev pub taken_by : Key → LindaReply → List Item
taken_by key (Got from values) = if key_eq key from then values else []
taken_by key reply = []

-- the values that a call made the key's queue, where it did
abbrev pub set_by : Key → LindaOp → Ending → Option (List Item)
set_by key (Set to values) Served = if key_eq key to then Some values else None
set_by key op ending = None

-- the same for calls one after the other
abbrev pub sent_to : Key → List Call → List Item
sent_to key [] = []
sent_to key (call ∷ calls) = sent_by key call.op call.ending call.reply ++ sent_to key calls

abbrev pub taken_from : Key → List Call → List Item
taken_from key [] = []
taken_from key (call ∷ calls) = taken_by key call.reply ++ taken_from key calls

-- no call replaces the key's queue
abbrev pub KeepsQueue : Key → List Call → Type 0
KeepsQueue key [] = Unit {0}
KeepsQueue key (call ∷ calls) = (set_by key call.op call.ending ≡ None) × KeepsQueue key calls

abbrev pub IsPrefix : List Item → List Item → Type 0
IsPrefix values all = (rest : List Item) × (all ≡ values ++ rest)

-- From the first call on, and from each replacement of the key's queue on, up to the next
-- replacement: the values taken from the key are the first of those that the replacement put there
-- and that were sent after it, in that order.
pub record IsFifoAt (key : Key) (calls : List Call) : Type 0 where
  pub opening : (between after : List Call) → calls ≡ between ++ after → KeepsQueue key between →
      IsPrefix (taken_from key between) (sent_to key between)
  pub later : (before : List Call) (call : Call) (between after : List Call) (values : List Item) →
      calls ≡ before ++ call ∷ (between ++ after) → set_by key call.op call.ending ≡ Some values →
      KeepsQueue key between →
      IsPrefix (taken_from key between) (values ++ sent_to key between)

-- so at each linda and each key
abbrev pub IsFifo : History → Type 0
IsFifo history = (number : ℕ) (key : Key) → IsFifoAt key (calls_on number history)
