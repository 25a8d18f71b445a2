-- Values leave a queue in the order in which they came.
use Rattle.std.proofs.Common.{◌≡◌, ℕ, Bool, true, false, cond, if◌then◌else◌, List, [], ◌∷◌, ◌++◌, take, drop, find, Option, None, Some, refl, ap, sym, subst, ◌∙◌, append_assoc}
use Rattle.std.proofs.lemmas.List.{take-append-drop}
use Rattle.desk_object.specs.declared.ending.Ending.{Ending}
use Rattle.desk_object.specs.declared.ending.Ending.TheVariants.{Served, GaveUp, Withdrawn as Called_off}
use Rattle.linda_core.specs.declared.item.Item.{Item}
use Rattle.linda_core.specs.declared.key.Key.{Key}
use Rattle.linda_core.specs.declared.call.LindaOp.{LindaOp}
use Rattle.linda_core.specs.declared.call.LindaOp.TheVariants.{Send, Receive, Batch, Limit, Set, Get, Count, Gate}
use Rattle.linda_core.specs.declared.call.LindaReply.{LindaReply}
use Rattle.linda_core.specs.declared.call.LindaReply.TheVariants.{Barred}
use Rattle.linda_core.specs.declared.content.Known.{Known}
use Rattle.linda_core.specs.declared.content.Content.{Content}
use Rattle.linda_core.specs.SequentialLinda.{Keys, Steps, key_eq, held_by, queue_of, with_held, with_queue, is_barred, has_value, reply_of_keys, keys_after, after_call, reply_of, empty_linda, gave_up_reply}
use Rattle.linda_core.specs.History.{Call, History, IsRun, IsLegal, IsFifo, IsFifoAt, KeepsQueue, calls_on, sent_by, sent_to, taken_by, taken_from, set_by}
use Rattle.linda_core.proofs.KeyLemmas.{key_eq-same, held_by-with_held}

with_none : (xs : List Item) → xs ++ [] ≡ xs
with_none [] = refl
with_none (x ∷ xs) = ap (λ l. x ∷ l) (with_none xs)

-- the queue of one key, once another or the same has this
queue_with : (keys : Keys) (to key : Key) (known : Known) → queue_of (with_held keys to known) key ≡ (if key_eq key to then known.queue else queue_of keys key)
queue_with keys to key known = ap (λ held. held.queue) (held_by-with_held keys to key known) ∙ by (key_eq key to)
  where
    by : (b : Bool) → (cond b known (held_by keys key)).queue ≡ cond b known.queue (queue_of keys key)
    by true = refl
    by false = refl

module _ (keys : Keys) (key to : Key) where
  -- values are put last
  puts : (values : List Item) → queue_of keys key ++ (if key_eq key to then values else []) ≡ queue_of (with_queue keys to (queue_of keys to ++ values)) key
  puts values = by (key_eq key to) refl ∙ sym (queue_with keys to key _)
    where
      by : (b : Bool) → key_eq key to ≡ b → queue_of keys key ++ cond b values [] ≡ cond b (queue_of keys to ++ values) (queue_of keys key)
      by true e = ap (λ k. queue_of keys k ++ values) (key_eq-same key to e)
      by false e = with_none (queue_of keys key)

  -- the first values are taken
  takes : (n : ℕ) → queue_of keys key ++ [] ≡ (if key_eq key to then take n (queue_of keys to) else []) ++ queue_of (with_queue keys to (drop n (queue_of keys to))) key
  takes n = by (key_eq key to) refl ∙ ap (λ rest. (if key_eq key to then take n (queue_of keys to) else []) ++ rest) (sym (queue_with keys to key _))
    where
      by : (b : Bool) → key_eq key to ≡ b → queue_of keys key ++ [] ≡ cond b (take n (queue_of keys to)) [] ++ cond b (drop n (queue_of keys to)) (queue_of keys key)
      by true e = with_none (queue_of keys key) ∙ ap (queue_of keys) (key_eq-same key to e) ∙ sym (take-append-drop n (queue_of keys to))
      by false e = with_none (queue_of keys key)

  -- the queue stays
  bounds : (limit : Option ℕ) → queue_of keys key ++ [] ≡ queue_of (with_held keys to (record { queue = queue_of keys to; limit = limit })) key
  bounds limit = with_none (queue_of keys key) ∙ by (key_eq key to) refl ∙ sym (queue_with keys to key _)
    where
      by : (b : Bool) → key_eq key to ≡ b → queue_of keys key ≡ cond b (queue_of keys to) (queue_of keys key)
      by true e = ap (queue_of keys) (key_eq-same key to e)
      by false e = refl

  -- another key is replaced
  spares : (values : List Item) → ◌≡◌ {A = Option (List Item)} (if key_eq key to then Some values else None) None → queue_of keys key ++ [] ≡ queue_of (with_queue keys to values) key
  spares values other = with_none (queue_of keys key) ∙ by (key_eq key to) other ∙ sym (queue_with keys to key _)
    where
      by : (b : Bool) → ◌≡◌ {A = Option (List Item)} (cond b (Some values) None) None → queue_of keys key ≡ cond b values (queue_of keys key)
      by true e = absurd (cc)
      by false e = refl

  -- this key is replaced
  replaces : (values put : List Item) → ◌≡◌ {A = Option (List Item)} (if key_eq key to then Some put else None) (Some values) → queue_of (with_queue keys to put) key ≡ values
  replaces values put same = queue_with keys to key _ ∙ by (key_eq key to) same
    where
      by : (b : Bool) → ◌≡◌ {A = Option (List Item)} (cond b (Some put) None) (Some values) → cond b put (queue_of keys key) ≡ values
      by true e = cc
      by false e = absurd (cc)

module _ (key : Key) where
  -- what is in the queue and what is sent is what is taken and what is in the queue then
  abbrev Moves : Keys → LindaOp → Ending → LindaReply → Keys → Type 0
  Moves before op ending reply after = queue_of before key ++ sent_by key op ending reply ≡ taken_by key reply ++ queue_of after key

  receives : (keys : Keys) (listed : List Key) (found : Option Key) → find (has_value keys) listed ≡ found → Moves keys (Receive listed) Served (reply_of_keys keys (Receive listed)) (keys_after keys (Receive listed))
  receives keys listed None e = rw e (with_none (queue_of keys key))
  receives keys listed (Some first) e = rw e (takes keys key first 1)

  -- a call that is not barred
  opened : (keys : Keys) (op : LindaOp) → set_by key op Served ≡ None → Moves keys op Served (reply_of_keys keys op) (keys_after keys op)
  opened keys (Send to values) kept = puts keys key to values
  opened keys (Receive listed) kept = receives keys listed (find (has_value keys) listed) refl
  opened keys (Batch from min max) kept = takes keys key from max
  opened keys (Limit to limit) kept = bounds keys key to limit
  opened keys (Set to values) kept = spares keys key to values kept
  opened keys (Get from count) kept = with_none (queue_of keys key)
  opened keys (Count listed) kept = with_none (queue_of keys key)
  opened keys (Gate side) kept = with_none (queue_of keys key)

  -- nothing is sent by a barred call, by one that gave up and by one that was withdrawn
  barred : (op : LindaOp) → sent_by key op Served Barred ≡ []
  barred (Send to values) = refl
  barred (Receive listed) = refl
  barred (Batch from min max) = refl
  barred (Limit to limit) = refl
  barred (Set to values) = refl
  barred (Get from count) = refl
  barred (Count listed) = refl
  barred (Gate side) = refl

  gave_up : (op : LindaOp) (reply : LindaReply) → sent_by key op GaveUp reply ≡ []
  gave_up (Send to values) reply = refl
  gave_up (Receive listed) reply = refl
  gave_up (Batch from min max) reply = refl
  gave_up (Limit to limit) reply = refl
  gave_up (Set to values) reply = refl
  gave_up (Get from count) reply = refl
  gave_up (Count listed) reply = refl
  gave_up (Gate side) reply = refl

  called_off : (op : LindaOp) (reply : LindaReply) → sent_by key op Called_off reply ≡ []
  called_off (Send to values) reply = refl
  called_off (Receive listed) reply = refl
  called_off (Batch from min max) reply = refl
  called_off (Limit to limit) reply = refl
  called_off (Set to values) reply = refl
  called_off (Get from count) reply = refl
  called_off (Count listed) reply = refl
  called_off (Gate side) reply = refl

  none_taken : (op : LindaOp) → taken_by key (gave_up_reply op) ≡ []
  none_taken (Send to values) = refl
  none_taken (Receive listed) = refl
  none_taken (Batch from min max) = refl
  none_taken (Limit to limit) = refl
  none_taken (Set to values) = refl
  none_taken (Get from count) = refl
  none_taken (Count listed) = refl
  none_taken (Gate side) = refl

  served : (linda : Content) (op : LindaOp) (b : Bool) → is_barred linda.gate op ≡ b → set_by key op Served ≡ None → Moves linda.keys op Served (reply_of linda op) (after_call linda op).keys
  served linda op true e kept = rw e (ap (λ sent. queue_of linda.keys key ++ sent) (barred op) ∙ with_none (queue_of linda.keys key))
  served linda op false e kept = rw e (opened linda.keys op kept)

  nothing_moves : (keys : Keys) (sent taken : List Item) → sent ≡ [] → taken ≡ [] → queue_of keys key ++ sent ≡ taken ++ queue_of keys key
  nothing_moves keys sent taken s t = ap (λ l. queue_of keys key ++ l) s ∙ with_none (queue_of keys key) ∙ ap (λ l. l ++ queue_of keys key) (sym t)

  moved : (before after : Content) (op : LindaOp) (ending : Ending) (reply : LindaReply) → set_by key op ending ≡ None → Steps before op ending reply after → Moves before.keys op ending reply after.keys
  moved before after op Served reply kept s =
      rw (s.1, s.2) (served before op (is_barred before.gate op) refl kept)
  moved before after op GaveUp reply kept s =
      rw (s.1, s.2) (nothing_moves before.keys _ _ (gave_up op (gave_up_reply op)) (none_taken op))
  moved before after op Called_off reply kept s =
      rw (s.1, s.2) (nothing_moves before.keys _ _ (called_off op _) refl)

  pub run_moves : (before after : Content) (calls : List Call) → IsRun before calls after → KeepsQueue key calls → queue_of before.keys key ++ sent_to key calls ≡ taken_from key calls ++ queue_of after.keys key
  run_moves before after [] run kept = with_none (queue_of before.keys key) ∙ ap (λ linda. queue_of linda.keys key) (sym run)
  run_moves before after (call ∷ calls) run kept =
      sym (append_assoc (queue_of before.keys key) (sent_by key call.op call.ending call.reply) (sent_to key calls))
      ∙ ap (λ l. l ++ sent_to key calls) (moved before run.0 call.op call.ending call.reply kept.0 run.1)
      ∙ append_assoc (taken_by key call.reply) (queue_of run.0.keys key) (sent_to key calls)
      ∙ ap (λ l. taken_by key call.reply ++ l) (run_moves run.0 after calls run.2 kept.1)
      ∙ sym (append_assoc (taken_by key call.reply) (taken_from key calls) (queue_of after.keys key))

  -- the queue after a replacement
  put : (before after : Content) (op : LindaOp) (ending : Ending) (reply : LindaReply) (values : List Item) → set_by key op ending ≡ Some values → Steps before op ending reply after → queue_of after.keys key ≡ values
  put before after (Set to vs) Served reply values set s = rw s.2 (replaces before.keys key to values vs set)
  put before after (Set to vs) GaveUp reply values set s = absurd (cc)
  put before after (Set to vs) Called_off reply values set s = absurd (cc)
  put before after (Send to vs) ending reply values set s = absurd (cc)
  put before after (Receive listed) ending reply values set s = absurd (cc)
  put before after (Batch from min max) ending reply values set s = absurd (cc)
  put before after (Limit to limit) ending reply values set s = absurd (cc)
  put before after (Get from count) ending reply values set s = absurd (cc)
  put before after (Count listed) ending reply values set s = absurd (cc)
  put before after (Gate side) ending reply values set s = absurd (cc)

-- a run in two parts
pub run_split : (before after : Content) (first last : List Call) → IsRun before (first ++ last) after → (middle : Content) × IsRun before first middle × IsRun middle last after
run_split before after [] last run = (before, refl, run)
run_split before after (call ∷ first) last run =
    let parts = run_split run.0 after first last run.2 in (parts.0, (run.0, run.1, parts.1), parts.2)

fifo_at : (key : Key) (calls : List Call) (end : Content) → IsRun empty_linda calls end → IsFifoAt key calls
fifo_at key calls end run = record {
  opening = λ between after same kept.
      let parts = run_split empty_linda end between after (subst (λ l. IsRun empty_linda l end) same run) in
      (queue_of parts.0.keys key, run_moves key empty_linda parts.0 between parts.1 kept);
  later = λ before call between after values same set kept.
      let parts = run_split empty_linda end before (call ∷ (between ++ after)) (subst (λ l. IsRun empty_linda l end) same run) in
      let rest = run_split parts.2.0 end between after parts.2.2 in (
        queue_of rest.0.keys key,
        ap (λ l. l ++ sent_to key between) (sym (put key parts.0 parts.2.0 call.op call.ending call.reply values set parts.2.1))
            ∙ run_moves key parts.2.0 rest.0 between rest.1 kept,
      );
}

pub fifo : (history : History) → IsLegal history → IsFifo history
fifo history legal number key = fifo_at key (calls_on number history) (legal.runs number).0 (legal.runs number).1
