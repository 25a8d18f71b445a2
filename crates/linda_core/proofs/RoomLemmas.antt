-- What used room does is what the sequential linda does.
use Rattle.std.proofs.Common.{◌≡◌, ℕ, zero, suc, ◌<◌, ◌≤◌, true, false, List, [], ◌∷◌, ◌++◌, length, take, drop, min, position, find, nat_lt, nat_le, Option, None, Some, refl, ap, sym, ◌∙◌, true≢false, is_some, arith}
use native.Mathlib.Numerals.{unary_clauses}
use Rattle.std.specs.List.{list_any}
use Rattle.std.specs.Map.{lookup, keys_of}
use Rattle.std.proofs.lemmas.Bool.Decides.{nat_tests}
use Rattle.linda_core.specs.declared.item.Item.{Item}
use Rattle.linda_core.specs.declared.key.Key.{Key}
use Rattle.linda_core.specs.declared.call.LindaReply.TheVariants.{Got, Room}
use Rattle.linda_core.specs.declared.content.Known.{Known}
use Rattle.linda_core.specs.Queue.{Queued}
use Rattle.linda_core.specs.SequentialLinda.{key_eq, has_value, held_by, has_new_room, queue_of, nothing, with_held, with_queue, got_first, without_first}
use Rattle.linda_core.specs.Holding.{seen}
use Rattle.linda_core.specs.Rooms.{appended, shortened, bounded, replaced, changed_at, queue_at, HasValuesAt}
use Rattle.linda_core.proofs.ContentLemmas.{held_by-unknown, changed-held, queue_at-held, values_at}
use Rattle.linda_core.proofs.ReadyLemmas.{find-passes, is_some-find}

-- the first ones of a list, by a number that may be greater than its length
take_none : (n : ℕ) → take {A = Item} n [] ≡ []
take_none zero = refl
take_none (suc n) = refl

drop_none : (n : ℕ) → drop {A = Item} n [] ≡ []
drop_none zero = refl
drop_none (suc n) = refl

pub take-min : (xs : List Item) (n : ℕ) → take (min n (length xs)) xs ≡ take n xs
take-min [] n = take_none (min n 0) ∙ sym (take_none n)
take-min (x ∷ xs) zero = simp unary_clauses
take-min (x ∷ xs) (suc n) = simp unary_clauses (ap (λ l. x ∷ l) (take-min xs n))

pub drop-min : (xs : List Item) (n : ℕ) → drop (min n (length xs)) xs ≡ drop n xs
drop-min [] n = drop_none (min n 0) ∙ sym (drop_none n)
drop-min (x ∷ xs) zero = simp unary_clauses
drop-min (x ∷ xs) (suc n) = simp unary_clauses (drop-min xs n)

module _ (es : List (Key × Queued)) (key : Key) where
  -- ---- a key that becomes known

  pub begins_as : (change : Known → Known) (first : Key) (known : Known) → first ≡ key → known ≡ change nothing → lookup (key_eq key) es ≡ None
      → with_held (seen es) first known ≡ with_held (seen es) key (change (held_by (seen es) key))
  begins_as change first known named made unknown =
      (λ i. with_held (seen es) (named i) (made i)) ∙ ap (λ held. with_held (seen es) key (change held)) (sym (held_by-unknown es key unknown))

  module _ (first : Key) (known : Known) (copies values : List Item) (limit : Option ℕ) (named : first ≡ key) (made : known ≡ record { queue = copies; limit = limit }) (unknown : lookup (key_eq key) es ≡ None) where
    pub sends_new : limit ≡ None → copies ≡ values → with_held (seen es) first known ≡ with_queue (seen es) key (queue_of (seen es) key ++ values)
    sends_new none copied = begins_as (appended values) first known named (made ∙ (λ i. record { queue = copied i; limit = none i })) unknown

    pub sets_new : limit ≡ None → copies ≡ values → with_held (seen es) first known ≡ with_queue (seen es) key values
    sets_new none copied = begins_as (replaced values) first known named (made ∙ (λ i. record { queue = copied i; limit = none i })) unknown

    pub limits_new : copies ≡ [] → with_held (seen es) first known ≡ with_held (seen es) key (record { queue = queue_of (seen es) key; limit = limit })
    limits_new empty = begins_as (bounded limit) first known named (made ∙ (λ i. record { queue = empty i; limit = limit })) unknown

  pub no_new_room : (limit : Option ℕ) → lookup (key_eq key) es ≡ None → Room false ≡ Room (has_new_room (held_by (seen es) key).limit limit (length (queue_of (seen es) key)))
  no_new_room limit unknown = ap (λ held. Room (has_new_room held.limit limit (length held.queue))) (sym (held_by-unknown es key unknown))

  pub none_enough : {X : Type 0} (least : ℕ) → 0 < least → lookup (key_eq key) es ≡ None → nat_le least (length (queue_of (seen es) key)) ≡ true → X
  none_enough least some unknown enough =
      let no : nat_le least 0 ≡ true = sym (ap (λ held. nat_le least (length held.queue)) (held_by-unknown es key unknown)) ∙ enough in
      absurd (none least some no)
    where
      none : (n : ℕ) → 0 < n → nat_le n 0 ≡ true → ⊥
      none n h e = grind (arith, nat_tests)

  -- ---- a known key

  module _ (place : ℕ) (found : position (key_eq key) (keys_of es) ≡ Some place) where
    pub sends : (copies values : List Item) → copies ≡ values → changed_at place (appended copies) (seen es) ≡ with_queue (seen es) key (queue_of (seen es) key ++ values)
    sends copies values copied =
        changed-held es key place found (appended copies) ∙ ap (λ items. with_queue (seen es) key (queue_of (seen es) key ++ items)) copied

    pub sets : (copies values : List Item) → copies ≡ values → changed_at place (replaced copies) (seen es) ≡ with_queue (seen es) key values
    sets copies values copied = changed-held es key place found (replaced copies) ∙ ap (with_queue (seen es) key) copied

    pub batch_reply : (name : Key) (count most : ℕ) → name ≡ key → count ≡ min most (length (queue_of (seen es) key)) → Got name (take count (queue_at place (seen es))) ≡ Got key (take most (queue_of (seen es) key))
    batch_reply name count most named least =
        (λ i. Got (named i) (take (least i) (queue_at-held es key place found i))) ∙ ap (Got key) (take-min (queue_of (seen es) key) most)

    pub batch_keys : (count most : ℕ) → count ≡ min most (length (queue_of (seen es) key)) → changed_at place (shortened count) (seen es) ≡ with_queue (seen es) key (drop most (queue_of (seen es) key))
    batch_keys count most least =
        changed-held es key place found (shortened count)
        ∙ ap (λ items. with_queue (seen es) key items) (ap (λ n. drop n (queue_of (seen es) key)) least ∙ drop-min (queue_of (seen es) key) most)

    pub batch_values : (count most : ℕ) → count ≡ min most (length (queue_of (seen es) key)) → HasValuesAt es place count
    batch_values count most least = values_at es key place found count (omega (arith, least))

-- ---- a Receive

module _ (es : List (Key × Queued)) (listed : List Key) where
  pub none_found : {X : Type 0} → find (has_value (seen es)) listed ≡ None → list_any (has_value (seen es)) listed ≡ true → X
  none_found none some = absurd (true≢false (sym some ∙ sym (is_some-find (has_value (seen es)) listed) ∙ ap is_some none))

  module _ (key : Key) (first : find (has_value (seen es)) listed ≡ Some key) (place : ℕ) (found : position (key_eq key) (keys_of es) ≡ Some place) where
    pub receive_values : HasValuesAt es place 1
    receive_values =
        let has : nat_lt 0 (length (queue_of (seen es) key)) ≡ true = find-passes (has_value (seen es)) listed key first in
        values_at es key place found 1 (more (length (queue_of (seen es) key)) has)
      where
        more : (n : ℕ) → nat_lt 0 n ≡ true → 1 ≤ n
        more n h = grind (arith, nat_tests)

    pub receive_reply : (name : Key) → name ≡ key → Got name (take 1 (queue_at place (seen es))) ≡ got_first (seen es) (find (has_value (seen es)) listed)
    receive_reply name named =
        (λ i. Got (named i) (take 1 (queue_at-held es key place found i))) ∙ ap (got_first (seen es)) (sym first)

    pub receive_keys : changed_at place (shortened 1) (seen es) ≡ without_first (seen es) (find (has_value (seen es)) listed)
    receive_keys = changed-held es key place found (shortened 1) ∙ ap (without_first (seen es)) (sym first)
