-- The steps, for a seat that is known to be idle or to have the lock.
use Rattle.std.proofs.Common.{◌≡◌, ℕ, ◌+◌, ◌%◌, ◌^◌, ◌<◌, ◌≤◌, Bool, true, false, List, [], ◌∷◌, ◌++◌, length, refl, ap, sym, ◌∙◌, subst, arith}
use mathlib.Core.Option.{none}
use Rattle.atomic_table.specs.Table.{State, Me, Step, step, Allows, Splits, Joins}
use Rattle.desk_object.specs.declared.ending.Ending.{Ending}
use Rattle.desk_object.specs.declared.entry.Entry.{Entry}
use Rattle.desk_object.specs.declared.entry.Entry.TheVariants.{Made, Close}
use Rattle.desk_object.specs.Meaning.{Meaning}
use Rattle.history_desk.specs.declared.known.Known.{Known}
use Rattle.history_desk.specs.declared.known.View.{View}
use Rattle.history_desk.specs.declared.known.Place.{Place}
use Rattle.history_desk.specs.declared.known.Place.TheVariants.{Here, Turned, Out}
use Rattle.history_desk.specs.Passes.{carries}
use Rattle.history_desk.specs.Rule.{idle, holding, Rests, Kept}
use Rattle.history_desk.specs.Steps.{IsIdle, IsHolding, Taken, Takes, Looks, Frees, Measures, Asks, Draws, Settles, Adds, drawn, cut, cut_off, glued, nobody, with_entry, entry_of, front}
use Rattle.history_desk.proofs.Moves.{takes_step, frees_step, looks_step, measures_step, asks_step, settles_step}
use Rattle.history_desk.proofs.Appending.{MayAppend, adds_step}
use Rattle.history_desk.proofs.Numbering.{draws_step, splits_step, joins_step}

-- a step of which nothing is read
abbrev pub some_step : {P : Type 0} → Step P
some_step = step 0 0 0 0 none

module _ {T Q W C A R : Type 0} (m : Meaning C A R) (content : T → C) where
  pub takes_at : (id slots : ℕ) (me : Me (Place T Q W) (View A R)) → IsIdle me → carries me.0.known me.0.known.number ≡ true
      → Allows (Kept {T = T} {Q = Q} {W = W} m content) slots id me 1 (λ _. 1) (Takes m content some_step me)
  takes_at id slots me is own = subst (λ (u : Me (Place T Q W) (View A R)). Allows (Kept {T = T} {Q = Q} {W = W} m content) slots id u 1 (λ _. 1) (Takes m content some_step u)) (sym is) (takes_step m content id slots me.0.known some_step own)

  pub looks_at : (id slots : ℕ) (me : Me (Place T Q W) (View A R)) → IsIdle me → carries me.0.known me.0.known.number ≡ true
      → Allows (Kept {T = T} {Q = Q} {W = W} m content) slots id me 0 (λ n. n) (Looks m content some_step me)
  looks_at id slots me is own = subst (λ (u : Me (Place T Q W) (View A R)). Allows (Kept {T = T} {Q = Q} {W = W} m content) slots id u 0 (λ n. n) (Looks m content some_step u)) (sym is) (looks_step m content id slots me.0.known some_step own)

  pub frees_at : (id slots : ℕ) (me : Me (Place T Q W) (View A R)) (p : Place T Q W) → IsHolding me p → Rests m content me.0.known.seen p → 0 < slots
      → Allows (Kept {T = T} {Q = Q} {W = W} m content) slots id me 1 (λ _. 0) (λ _. Frees some_step me 0)
  frees_at id slots me p is rests one_slot = subst (λ (u : Me (Place T Q W) (View A R)). Allows (Kept {T = T} {Q = Q} {W = W} m content) slots id u 1 (λ _. 0) (λ _. Frees some_step u 0)) (sym is) (frees_step m content id slots me.0.known p some_step rests one_slot)

  pub measures_at : (id slots : ℕ) (me : Me (Place T Q W) (View A R)) (p : Place T Q W) → IsHolding me p
      → Allows (Kept {T = T} {Q = Q} {W = W} m content) slots id me 0 (λ n. n) (Measures some_step me)
  measures_at id slots me p is = subst (λ (u : Me (Place T Q W) (View A R)). Allows (Kept {T = T} {Q = Q} {W = W} m content) slots id u 0 (λ n. n) (Measures some_step u)) (sym is) (measures_step m content id slots me.0.known ((0, p) ∷ []) some_step)

  pub asks_at : (id slots : ℕ) (me : Me (Place T Q W) (View A R)) (p : Place T Q W) → IsHolding me p
      → Allows (Kept {T = T} {Q = Q} {W = W} m content) slots id me 2 (λ n. n) (Asks some_step me)
  asks_at id slots me p is = subst (λ (u : Me (Place T Q W) (View A R)). Allows (Kept {T = T} {Q = Q} {W = W} m content) slots id u 2 (λ n. n) (Asks some_step u)) (sym is) (asks_step m content id slots me.0.known ((0, p) ∷ []) some_step)

  pub draws_at : (id slots : ℕ) (me : Me (Place T Q W) (View A R)) (p : Place T Q W) → IsHolding me p → carries me.0.known me.0.known.number ≡ true → me.0.known.given < 2 ^ 62
      → Allows (Kept {T = T} {Q = Q} {W = W} m content) slots id me 2 (λ n. (n + 1) % 2 ^ 64) (Draws some_step me)
  draws_at id slots me p is own few = subst (λ (u : Me (Place T Q W) (View A R)). Allows (Kept {T = T} {Q = Q} {W = W} m content) slots id u 2 (λ n. (n + 1) % 2 ^ 64) (Draws some_step u)) (sym is) (draws_step m content id slots me.0.known ((0, p) ∷ []) some_step own few)

  pub adds_at : (call_data : Q → A) (reply_data : W → R) (id slots : ℕ) (me : Me (Place T Q W) (View A R)) (p : Place T Q W) → IsHolding me p
      → MayAppend m me.0.known (entry_of call_data reply_data me.0.known.number p)
      → Allows (Kept {T = T} {Q = Q} {W = W} m content) slots id me 0 (λ n. (n + 1) % 2 ^ 64) (Adds call_data reply_data some_step me)
  adds_at call_data reply_data id slots me p is may = subst (λ (u : Me (Place T Q W) (View A R)). Allows (Kept {T = T} {Q = Q} {W = W} m content) slots id u 0 (λ n. (n + 1) % 2 ^ 64) (Adds call_data reply_data some_step u)) (sym is) (adds_step m content call_data reply_data id slots me.0.known ((0, p) ∷ []) some_step (entry_of call_data reply_data me.0.known.number p) refl may)

  pub settles_at : (id slots : ℕ) (me : Me (Place T Q W) (View A R)) → me.0.busy ≡ false
      → Allows (Kept {T = T} {Q = Q} {W = W} m content) slots id me 0 (λ n. n) (Settles some_step me)
  settles_at id slots me free = settles_step m content id slots me.0 me.1 some_step free

  pub splits_at : (id : ℕ) (me : Me (Place T Q W) (View A R)) (h : Known A R) (c : List (ℕ × Place T Q W)) → me ≡ (holding (drawn h), c)
      → Splits (Kept {T = T} {Q = Q} {W = W} m content) id me.0 (cut me.0) (cut_off me.0)
  splits_at id me h c is = subst (λ (u : Me (Place T Q W) (View A R)). Splits (Kept {T = T} {Q = Q} {W = W} m content) id u.0 (cut u.0) (cut_off u.0)) (sym is) (splits_step m content id h)

  pub joins_at : (id : ℕ) (me : Me (Place T Q W) (View A R)) (oid : ℕ) (other : Me (Place T Q W) (View A R)) → IsIdle me → IsIdle other
      → Joins (Kept {T = T} {Q = Q} {W = W} m content) id me.0 oid other.0 (glued me.0 other.0) nobody
  joins_at id me oid other is at = joins_step m content id me.0 oid other.0 (ap (λ (u : Me (Place T Q W) (View A R)). u.0.busy) is) (ap (λ (u : Me (Place T Q W) (View A R)). u.0.busy) at)

-- ---- what is in the slot

abbrev first_or : {P : Type 0} → P → List (ℕ × P) → P
first_or d [] = d
first_or d (x ∷ xs) = x.1

module _ {P A R : Type 0} where
  -- a seat has one value in its slot
  pub same_slot : (me : Me P (View A R)) (p q : P) → IsHolding me p → IsHolding me q → p ≡ q
  same_slot me p q is at = ap (λ (u : Me P (View A R)). first_or p u.1) (sym is ∙ at)
