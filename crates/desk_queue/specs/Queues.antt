-- What the calls of a queue mean.
use Rattle.std.specs.Prelude.{◌≡◌, ℕ, ◌<◌, Bool, true, false, List, [], ◌∷◌, ◌++◌}
use Rattle.std.proofs.Common.{sym, ◌∙◌}
use Rattle.desk_object.specs.declared.ending.Ending.{Ending}
use Rattle.desk_object.specs.declared.ending.Ending.TheVariants.{Served, GaveUp, Withdrawn}
use Rattle.desk_object.specs.Meaning.{Meaning, IsDetermined}
use Rattle.desk_queue.specs.declared.Op.{Op}
use Rattle.desk_queue.specs.declared.Op.TheVariants.{Send, Receive}
use Rattle.desk_queue.specs.declared.Reply.{Reply}
use Rattle.desk_queue.specs.declared.Reply.TheVariants.{Sent, Got, Short, TakenBack}

-- a Receive fits where there is a number
abbrev pub queue_fits : List ℕ → Op → Bool
queue_fits numbers (Send number) = true
queue_fits [] Receive = false
queue_fits (first ∷ numbers) Receive = true

abbrev pub reply_to : List ℕ → Op → Ending → Reply
reply_to numbers op GaveUp = Short
reply_to numbers op Withdrawn = TakenBack
reply_to numbers (Send number) Served = Sent
reply_to [] Receive Served = Short
reply_to (first ∷ numbers) Receive Served = Got first

abbrev pub numbers_after : List ℕ → Op → Ending → List ℕ
numbers_after numbers op GaveUp = numbers
numbers_after numbers op Withdrawn = numbers
numbers_after numbers (Send number) Served = numbers ++ number ∷ []
numbers_after [] Receive Served = []
numbers_after (first ∷ numbers) Receive Served = numbers

abbrev pub queue_means : Meaning (List ℕ) Op Reply
queue_means = record {
  opening = [];
  lawful = λ op. Unit {0};
  fits = queue_fits;
  steps = λ numbers op ending reply after.
      (reply ≡ reply_to numbers op ending) × (after ≡ numbers_after numbers op ending);
}

-- room for the number of a Send
abbrev pub HasRoom : ℕ → ℕ → Op → Type 0
HasRoom length capacity (Send number) = length < capacity
HasRoom length capacity Receive = Unit {0}

pub determined_steps : IsDetermined queue_means
determined_steps before call ending reply other after next p q = (p.0 ∙ sym q.0, p.1 ∙ sym q.1)
