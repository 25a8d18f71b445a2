-- What each step at a desk's table tells the pass that makes it.
use Rattle.std.specs.Prelude.{◌≡◌, ℕ, ◌+◌, ◌<◌, ◌≤◌, ◌^◌, ◌==◌, Bool, true, false, List, [], ◌∷◌, ◌++◌, length, MatchBool}
use mathlib.Core.List.{IsPrefix}
use Rattle.atomic_table.specs.Table.{Me, Step, rest}
use Rattle.desk_object.specs.declared.ending.Ending.{Ending}
use Rattle.desk_object.specs.declared.entry.Entry.{Entry}
use Rattle.desk_object.specs.declared.entry.Entry.TheVariants.{Made, Close}
use Rattle.desk_object.specs.Meaning.{Meaning}
use Rattle.desk_object.specs.History.{calls_by, is_closed}
use Rattle.history_desk.specs.declared.known.Known.{Known}
use Rattle.history_desk.specs.declared.known.View.{View}
use Rattle.history_desk.specs.declared.known.Place.{Place}
use Rattle.history_desk.specs.declared.known.Place.TheVariants.{Here, Turned, Out}
use Rattle.history_desk.specs.Passes.{has, AreDistinct, carries, newcomer, met, Looked, IsSound, IsWhole}
use Rattle.history_desk.specs.Rule.{idle, holding, Rests}

abbrev pub head_of : List ℕ → ℕ
head_of [] = 0
head_of (x ∷ xs) = x

abbrev pub tail_of : List ℕ → List ℕ
tail_of [] = []
tail_of (x ∷ xs) = xs

module _ {P A R : Type 0} where
  abbrev pub IsIdle : Me P (View A R) → Type 0
  IsIdle me = me ≡ (idle me.0.known, [])

  -- its holder has the lock, and this in the slot
  abbrev pub IsHolding : Me P (View A R) → P → Type 0
  IsHolding me p = me ≡ (holding me.0.known, (0, p) ∷ [])

module _ {A R : Type 0} where
  -- with one entry more
  abbrev pub with_entry : Known A R → Entry A R → Known A R
  with_entry k entry = record {
    number = k.number;
    carried = k.carried;
    enrolled = k.enrolled;
    given = k.given;
    looks = k.looks;
    seen = k.seen ++ entry ∷ [];
  }

  -- with the next number in hand, which it knows since it has the lock
  abbrev pub drawn : Known A R → Known A R
  drawn k = record {
    number = k.number;
    carried = k.given ∷ k.carried;
    enrolled = k.given ∷ k.enrolled;
    given = k.given + 1;
    looks = k.looks;
    seen = k.seen;
  }

  -- after that number went to a pass of its own
  abbrev pub enroller : Known A R → Known A R
  enroller k = record {
    number = k.number;
    carried = k.carried;
    enrolled = k.given ∷ k.enrolled;
    given = k.given + 1;
    looks = k.looks;
    seen = k.seen;
  }

  -- the first number in hand is cut off
  abbrev pub cut : View A R → View A R
  cut v = record {
    known = record {
      number = v.known.number;
      carried = tail_of v.known.carried;
      enrolled = v.known.enrolled;
      given = v.known.given;
      looks = v.known.looks;
      seen = v.known.seen;
    };
    met = [];
    busy = v.busy;
  }

  abbrev pub cut_off : View A R → View A R
  cut_off v = idle (record {
    number = head_of v.known.carried;
    carried = head_of v.known.carried ∷ [];
    enrolled = [];
    given = v.known.given;
    looks = 0;
    seen = v.known.seen;
  })

  -- two passes put together, and what is left of the second
  abbrev pub glued : View A R → View A R → View A R
  glued v o = record { known = met v.known o.known; met = v.known ∷ o.known ∷ []; busy = v.busy }

  abbrev pub nobody : View A R
  nobody =
      idle (record { number = 0; carried = []; enrolled = []; given = 0; looks = 0; seen = [] })

  -- a pass that was taken in: what it had seen is a prefix, and nothing of its numbers is new
  abbrev pub IsTakenIn : Known A R → Known A R → Type 0
  IsTakenIn k p = length p.seen ≤ length k.seen
      → IsPrefix p.seen k.seen
      × ((n : ℕ) → carries p n ≡ true → calls_by n k.seen ≡ calls_by n p.seen)

  abbrev pub AreTakenIn : Known A R → List (Known A R) → Type 0
  AreTakenIn k [] = Unit {0}
  AreTakenIn k (p ∷ ps) = IsTakenIn k p × AreTakenIn k ps

module _ {T Q W A R : Type 0} (call_data : Q → A) (reply_data : W → R) where
  -- the entry that the slot's value asks for
  abbrev pub entry_of : ℕ → Place T Q W → Entry A R
  entry_of n (Here object) = Close n
  entry_of n (Turned object call ending reply) = Made n (call_data call) ending (reply_data reply)
  entry_of n Out = Close n

module _ {T Q W : Type 0} where
  -- the value that was taken last
  abbrev pub front : List (ℕ × Place T Q W) → Place T Q W
  front [] = Out
  front (x ∷ xs) = x.1

module _ {T Q W C A R : Type 0} (m : Meaning C A R) (content : T → C) where
  -- the lock was taken, with what lay behind it, and the history was seen
  pub record Taken (k : Known A R) (after : Me (Place T Q W) (View A R)) : Type 0 where
    pub looked : Looked k after.0.known
    pub sound : IsSound m after.0.known
    pub slot : Place T Q W
    pub holding : IsHolding after slot
    pub rests : Rests m content after.0.known.seen slot

  abbrev pub Takes : Step (Place T Q W) → Me (Place T Q W) (View A R) → ℕ
      → Me (Place T Q W) (View A R) → Type 0
  Takes step before found after =
      MatchBool (found == 0) (Taken before.0.known after) (after ≡ before)

  abbrev pub Looks : Step (Place T Q W) → Me (Place T Q W) (View A R) → ℕ
      → Me (Place T Q W) (View A R) → Type 0
  Looks step before found after =
      Looked before.0.known after.0.known × IsSound m after.0.known × IsIdle after
      × (found ≡ length after.0.known.seen)

module _ {P A R : Type 0} where
  abbrev pub Frees : Step P → Me P (View A R) → ℕ → Me P (View A R) → Type 0
  Frees step before found after = after ≡ (idle before.0.known, rest before.1)

  -- the history's length, under the lock
  abbrev pub Measures : Step P → Me P (View A R) → ℕ → Me P (View A R) → Type 0
  Measures step before found after =
      (after ≡ before) × (found ≡ length before.0.known.seen)
      × (is_closed before.0.known.seen ≡ false → found ≤ 2 ^ 62)

  -- the next number, under the lock
  abbrev pub Asks : Step P → Me P (View A R) → ℕ → Me P (View A R) → Type 0
  Asks step before found after =
      (after ≡ before) × (found ≡ before.0.known.given) × (found ≤ 2 ^ 62)

  abbrev pub Draws : Step P → Me P (View A R) → ℕ → Me P (View A R) → Type 0
  Draws step before found after =
      (after ≡ (holding (drawn before.0.known), before.1)) × (found ≡ before.0.known.given)

  -- what was put together is compared
  abbrev pub Settles : Step P → Me P (View A R) → ℕ → Me P (View A R) → Type 0
  Settles step before found after =
      (after ≡ (idle before.0.known, before.1)) × AreTakenIn before.0.known before.0.met
      × AreDistinct before.0.known.carried
      × (IsWhole before.0.known → carries before.0.known 0 ≡ true
      → (n : ℕ) → n < before.0.known.given → carries before.0.known n ≡ true)

module _ {T Q W A R : Type 0} (call_data : Q → A) (reply_data : W → R) where
  abbrev pub Adds : Step (Place T Q W) → Me (Place T Q W) (View A R) → ℕ
      → Me (Place T Q W) (View A R) → Type 0
  Adds step before found after =
      after ≡ (
        holding (with_entry before.0.known
            (entry_of call_data reply_data before.0.known.number (front before.1))),
        before.1,
      )
