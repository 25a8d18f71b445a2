-- A bank in which one linda answered.
use Rattle.std.proofs.Common.{◌≡◌, ◌∙◌, ℕ, ◌<◌, ◌≤◌, Bool, true, false, List, map, length, get_or, slice_get, slice_set, Option, Some, None, ap, sym, refl, nat_lt, true≢false}
use borrow.Author.Tests.{ltb-true, ltb-false}
use Rattle.std.specs.Option.{option_map}
use Rattle.std.proofs.lemmas.List.{map-set}
use Rattle.std.proofs.Math.Seq.{map-set_same}
use Rattle.std.proofs.lemmas.Option.{slice_get-map, slice_get_past, slice_get-get_or}
use Rattle.linda_core.specs.declared.call.BankCall.{BankCall}
use Rattle.linda_core.specs.declared.call.LindaOp.{LindaOp}
use Rattle.linda_core.specs.Holding.{Holding, content}
use Rattle.lanes_lib.specs.declared.ask.Ask.TheVariants as ask
use Rattle.lanes_lib.specs.declared.ask.Answer.{Answer}
use Rattle.lanes_lib.specs.declared.ask.Answer.TheVariants as answer
use Rattle.plain_host.specs.Plain.{Answers, AnswersOne, is_ready, seen_of}

-- no linda of this number is ready
pub none_ready : (lindas : List Holding) (n : ℕ) (op : LindaOp) → (n < length lindas → false ≡ true) → is_ready (slice_get (map content lindas) n) op ≡ false
none_ready lindas n op past =
    let none : slice_get lindas n ≡ None = slice_get_past lindas n (not_within n (length lindas) past) in
    ap (λ o. is_ready o op) (slice_get-map content lindas n ∙ ap (option_map content) none)
  where
    not_within : (n m : ℕ) → (n < m → false ≡ true) → m ≤ n
    not_within n m h = by (nat_lt n m) refl
      where
        by : (b : Bool) → nat_lt n m ≡ b → m ≤ n
        by true e = absurd (true≢false (sym (h (ltb-true n m e))))
        by false e = ltb-false n m e

module _ (taken : Option (List ℕ)) (faults : ℕ) (failed : Bool) (lindas : List Holding) (call : BankCall) (linda next : Holding) (seconds : Option ℕ) (within : call.linda < length lindas) (there : linda ≡ get_or lindas call.linda linda) where
  found : slice_get (map content lindas) call.linda ≡ Some (content linda)
  found =
      slice_get-map content lindas call.linda ∙ ap (option_map content) (slice_get-get_or lindas call.linda linda within)
      ∙ ap (λ x. Some (content x)) (sym there)

  unchanged : content next ≡ content linda → seen_of taken faults failed (slice_set lindas call.linda next) ≡ seen_of taken faults failed lindas
  unchanged e = ap (λ l. record { taken = taken; faults = faults; failed = failed; lindas = l }) (map-set_same content lindas call.linda next linda (e ∙ ap content there))

  -- what one linda answers, its bank does
  pub answered : (r : Answer) → AnswersOne (content linda) call.op r (content next) → Answers (seen_of taken faults failed lindas) (ask.Linda call seconds) r (seen_of taken faults failed (slice_set lindas call.linda next))
  answered (answer.Reply reply) h = (record { linda = content linda; next = content next; found = found; step = h; changed = map-set content lindas call.linda next }, refl)
  answered answer.NotBuilt h = (ap (λ o. is_ready o call.op) found ∙ h.0, unchanged h.1)
  answered answer.Memory h = unchanged h
  answered answer.Printed h = h
  answered answer.WriteFault h = h
  answered (answer.Linda n) h = h
  answered answer.TooManyLindas h = h
