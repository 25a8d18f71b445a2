-- A bank in which a linda changes, and a map whose values are seen in another form.
use Rattle.std.proofs.Common.{◌≡◌, ℕ, zero, suc, Bool, true, false, cond, if◌then◌else◌, nat_eq, List, [], ◌∷◌, map, position, slice_get, Option, None, Some, Result, Ok, Err, IfOk, refl, ap, sym, ◌∙◌}
use Rattle.std.specs.Map.{lookup, keys_of, values_of}
use Rattle.std.specs.Option.{unwrap_or, option_map}
use Rattle.indexmap.specs.IndexMap.{insert_entry, set_value_at}
use Rattle.indexmap.proofs.MapLemmas.{insert_entry-first, Found-position}
use Rattle.desk_object.specs.declared.ending.Ending.{Ending}
use Rattle.desk_object.specs.declared.ending.Ending.TheVariants.{Served, GaveUp, Withdrawn}
use Rattle.linda_core.specs.declared.call.BankCall.{BankCall}
use Rattle.linda_core.specs.SequentialLinda.{empty_linda, linda_after}
use Rattle.linda_core.specs.declared.room.Room.{Room}
use Rattle.linda_core.specs.Rooms.{IsRoomFor}
use Rattle.linda_core.specs.Holding.{Holding, content}
use Rattle.linda_core.specs.BankMeaning.{bank_after, linda_at, with_linda}
use Rattle.linda_core.specs.BankHolding.{StandsAt, seen_bank}

lookup_step : {V W : Type 0} (f : V → W) (b : Bool) (v : V) (r : Option W) (s : Option V) → r ≡ option_map f s → cond b (Some (f v)) r ≡ option_map f (cond b (Some v) s)
lookup_step f true v r s h = refl
lookup_step f false v r s h = h

module _ {K V W : Type 0} (f : V → W) where
  abbrev shown : List (K × V) → List (K × W)
  shown es = map (λ e. (e.0, f e.1)) es

  lookup-shown : (test : K → Bool) (es : List (K × V)) → lookup test (shown es) ≡ option_map f (lookup test es)
  lookup-shown test [] = refl
  lookup-shown test (e ∷ es) = lookup_step f (test e.0) e.1 (lookup test (shown es)) (lookup test es) (lookup-shown test es)

  keys_of-shown : (es : List (K × V)) → keys_of (shown es) ≡ keys_of es
  keys_of-shown [] = refl
  keys_of-shown (e ∷ es) = ap (λ keys. e.0 ∷ keys) (keys_of-shown es)

  shown-set_value_at : (es : List (K × V)) (i : ℕ) (v : V) → shown (set_value_at es i v) ≡ set_value_at (shown es) i (f v)
  shown-set_value_at [] i v = refl
  shown-set_value_at (e ∷ es) zero v = refl
  shown-set_value_at (e ∷ es) (suc i) v = ap (λ rest. (e.0, f e.1) ∷ rest) (shown-set_value_at es i v)

  shown-set_same : (es : List (K × V)) (i : ℕ) (old new : V) → slice_get (values_of es) i ≡ Some old → f new ≡ f old → shown (set_value_at es i new) ≡ shown es
  shown-set_same [] i old new there same = refl
  shown-set_same (e ∷ es) zero old new there same =
      let first : e.1 ≡ old = cc in
      ap (λ w. (e.0, w) ∷ shown es) (same ∙ ap f (sym first))
  shown-set_same (e ∷ es) (suc i) old new there same = ap (λ rest. (e.0, f e.1) ∷ rest) (shown-set_same es i old new there same)

  module _ (eq : K → K → Bool) where
    insert_step : (b : Bool) (e : K × V) (es : List (K × V)) (v : V) (rest : List (K × V)) (more : List (K × W)) → more ≡ shown rest
        → (if b then (e.0, f v) ∷ shown es else (e.0, f e.1) ∷ more) ≡ shown (if b then (e.0, v) ∷ es else e ∷ rest)
    insert_step true e es v rest more h = refl
    insert_step false e es v rest more h = ap (λ l. (e.0, f e.1) ∷ l) h

    shown-insert_entry : (es : List (K × V)) (k : K) (v : V) → insert_entry eq (shown es) k (f v) ≡ shown (insert_entry eq es k v)
    shown-insert_entry [] k v = refl
    shown-insert_entry (e ∷ es) k v = insert_step (eq k e.0) e es v (insert_entry eq es k v) _ (shown-insert_entry es k v)

    written_at : (es : List (K × V)) (k : K) (place : ℕ) (v : V) → position (eq k) (keys_of es) ≡ Some place → shown (set_value_at es place v) ≡ insert_entry eq (shown es) k (f v)
    written_at es k place v found =
        shown-set_value_at es place v
        ∙ sym (insert_entry-first eq k (f v) (shown es) place (Found-position (eq k) (shown es) place (ap (position (eq k)) (keys_of-shown es) ∙ found)).first)

-- ---- the linda of a number

pub linda_at-known : (es : List (ℕ × Holding)) (number : ℕ) (linda : Holding) → lookup (nat_eq number) es ≡ Some linda → linda_at (seen_bank es) number ≡ content linda
linda_at-known es number linda h = ap (λ r. unwrap_or r empty_linda) (lookup-shown content (nat_eq number) es ∙ ap (option_map content) h)

pub linda_at-none : (es : List (ℕ × Holding)) (number : ℕ) → lookup (nat_eq number) es ≡ None → linda_at (seen_bank es) number ≡ empty_linda
linda_at-none es number h = ap (λ r. unwrap_or r empty_linda) (lookup-shown content (nat_eq number) es ∙ ap (option_map content) h)

pub linda_at-stands : (es : List (ℕ × Holding)) (number place : ℕ) (linda : Holding) → StandsAt es number place linda → linda_at (seen_bank es) number ≡ content linda
linda_at-stands es number place linda s =
    linda_at-known es number linda ((Found-position (nat_eq number) es place s.found).value ∙ s.there)

-- a linda that shows the same
pub seen_bank-same : (es : List (ℕ × Holding)) (place : ℕ) (old new : Holding) → slice_get (values_of es) place ≡ Some old → content new ≡ content old → seen_bank (set_value_at es place new) ≡ seen_bank es
seen_bank-same es place old new there same = shown-set_same content es place old new there same

-- ---- a call ends

module _ (es : List (ℕ × Holding)) (call : BankCall) where
  pub ended_at : (place : ℕ) (old new : Holding) (ending : Ending) → StandsAt es call.linda place old → content new ≡ linda_after (content old) call.op ending
      → seen_bank (set_value_at es place new) ≡ bank_after (seen_bank es) call ending
  ended_at place old new Served s h =
      written_at content nat_eq es call.linda place new s.found
      ∙ ap (with_linda (seen_bank es) call.linda) (h ∙ ap (λ linda. linda_after linda call.op Served) (sym (linda_at-stands es call.linda place old s)))
  ended_at place old new GaveUp s h = seen_bank-same es place old new s.there h
  ended_at place old new Withdrawn s h = seen_bank-same es place old new s.there h

  pub begun_with : (after : List (ℕ × Holding)) (old new : Holding) → lookup (nat_eq call.linda) es ≡ None → content old ≡ empty_linda → content new ≡ linda_after (content old) call.op Served
      → after ≡ insert_entry nat_eq es call.linda new → seen_bank after ≡ bank_after (seen_bank es) call Served
  begun_with after old new unknown empty h made =
      ap seen_bank made ∙ sym (shown-insert_entry content nat_eq es call.linda new)
      ∙ ap (with_linda (seen_bank es) call.linda) (h ∙ ap (λ linda. linda_after linda call.op Served) (empty ∙ sym (linda_at-none es call.linda unknown)))

-- ---- room in a linda that the bank has

pub known_room : {E : Type 0} (es : List (ℕ × Holding)) (place : ℕ) (call : BankCall) (old new : Holding) (r : Result Room E) → position (nat_eq call.linda) (keys_of es) ≡ Some place → slice_get (values_of es) place ≡ Some old → IfOk r (IsRoomFor new call.op)
    → IfOk r (λ room. (linda : Holding) × StandsAt (set_value_at es place new) call.linda place linda × IsRoomFor linda call.op room)
known_room es place call old new (Err e) found there h = h
known_room es place call old new (Ok room) found there h =
    (new, record { found = ap (position (nat_eq call.linda)) (keys-set es place new) ∙ found; there = value-set es place old new there }, h)
  where
    keys-set : (es : List (ℕ × Holding)) (i : ℕ) (v : Holding) → keys_of (set_value_at es i v) ≡ keys_of es
    keys-set [] i v = refl
    keys-set (e ∷ es) zero v = refl
    keys-set (e ∷ es) (suc i) v = ap (λ keys. e.0 ∷ keys) (keys-set es i v)

    value-set : (es : List (ℕ × Holding)) (i : ℕ) (old new : Holding) → slice_get (values_of es) i ≡ Some old → slice_get (values_of (set_value_at es i new)) i ≡ Some new
    value-set [] i old new there = absurd (cc)
    value-set (e ∷ es) zero old new there = refl
    value-set (e ∷ es) (suc i) old new there = value-set es i old new there
