-- A bank maps numbers to lindas. What the calls on it mean.
use Rattle.std.specs.Prelude.{◌≡◌, ℕ, List, [], nat_eq, Ok}
use Rattle.std.proofs.Common.{sym, ◌∙◌}
use Rattle.std.specs.Option.{unwrap_or}
use Rattle.std.specs.Map.{lookup}
use Rattle.indexmap.specs.IndexMap.{insert_entry}
use Rattle.desk_object.specs.declared.ending.Ending.{Ending}
use Rattle.desk_object.specs.declared.ending.Ending.TheVariants.{Served}
use Rattle.desk_object.specs.Meaning.{Meaning, IsDetermined}
use Rattle.linda_core.specs.declared.call.BankCall.{BankCall}
use Rattle.linda_core.specs.declared.call.LindaReply.{LindaReply}
use Rattle.linda_core.specs.declared.content.Content.{Content}
use Rattle.linda_core.specs.SequentialLinda.{empty_linda, fits, reply_to, linda_after}
use Rattle.linda_core.specs.Lawful.{fault_of}

-- the lindas on which a call was served, by number, in the order of their first such calls
abbrev pub Bank : Type 0
Bank = List (ℕ × Content)

-- a number that was never used stands for an empty linda
abbrev pub linda_at : Bank → ℕ → Content
linda_at bank number = unwrap_or (lookup (nat_eq number) bank) empty_linda

abbrev pub with_linda : Bank → ℕ → Content → Bank
with_linda bank number linda = insert_entry nat_eq bank number linda

-- only a served call changes a bank, and then its own linda alone
abbrev pub bank_after : Bank → BankCall → Ending → Bank
bank_after bank call Served =
    with_linda bank call.linda (linda_after (linda_at bank call.linda) call.op Served)
bank_after bank call ending = bank

abbrev pub bank_means : Meaning Bank BankCall LindaReply
bank_means = record {
  opening = [];
  lawful = λ call. fault_of call.op ≡ Ok tt;
  fits = λ bank call. fits (linda_at bank call.linda) call.op;
  steps = λ bank call ending reply after.
      (reply ≡ reply_to (linda_at bank call.linda) call.op ending)
      × (after ≡ bank_after bank call ending);
}

pub determined_steps : IsDetermined bank_means
determined_steps before call ending reply other after next p q = (p.0 ∙ sym q.0, p.1 ∙ sym q.1)
