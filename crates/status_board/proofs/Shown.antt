-- What follows for a seat from the rule: what it shows agrees, stands once, and a whole seat with lane 0 has all numbers.
use Rattle.std.proofs.Common.{◌≡◌, ℕ, zero, suc, ◌<◌, ◌≤◌, ◌==◌, ◌≢◌, ⊎_elim, Bool, true, false, true≢false, List, length, refl, ap, sym, ◌∙◌, subst, arith, ltb, ◌&&◌, eq-eqb, ne_eqb}
use Rattle.std.proofs.lemmas.Bool.{lt-ltb, ltb-true, eqb-true, and_from, and_parts, and_right}
use Rattle.status_board.proofs.Entries.{nat_dec}
use Rattle.status_board.specs.declared.view.LaneFacts.{LaneFacts}
use Rattle.status_board.specs.declared.view.DrawnFacts.{DrawnFacts}
use Rattle.status_board.specs.declared.view.View.{View}
use Rattle.status_board.specs.Views.{is_filled, first_or, new_lane, new_drawn, lanes_at, drawn_at, has_lane, lane_of, has_drawn, drawn_of, IsWhole, HasAllNumbers}
use Rattle.status_board.specs.Agreement.{IsAgreed, Agrees}
use Rattle.status_board.specs.Rule.{Past, holds_lane, holds_number, only, Shows, IsPast}
use Rattle.status_board.specs.Steps.{IsOnce}

module _ {X : Type 0} where
  filled_only : (b : Bool) (d x : X) (xs : List X) → xs ≡ only b x → is_filled xs ≡ true → (b ≡ true) × (first_or d xs ≡ x)
  filled_only true d x xs e h = (refl, ap (first_or d) e)
  filled_only false d x xs e h = absurd (true≢false (sym (sym (ap is_filled e) ∙ h)))

  only_filled : (b : Bool) (d x : X) (xs : List X) → xs ≡ only b x → b ≡ true → (is_filled xs ≡ true) × (first_or d xs ≡ x)
  only_filled true d x xs e h = (ap is_filled e, ap (first_or d) e)
  only_filled false d x xs e h = absurd (true≢false (sym h))

  only_empty : (b : Bool) (x : X) (xs : List X) → xs ≡ only b x → b ≡ false → is_filled xs ≡ false
  only_empty true x xs e h = absurd (true≢false h)
  only_empty false x xs e h = ap is_filled e

  only_once : (b : Bool) (x : X) (xs : List X) → xs ≡ only b x → length xs ≤ 1
  only_once true x xs e = (let n = ap length e in omega (arith, n))
  only_once false x xs e = (let n = ap length e in omega (arith, n))

module _ (past : Past) (place : ℕ) (v : View) (f : Shows past place v) where
  pub shown_lane : (l : ℕ) → has_lane v l ≡ true → (holds_lane past place l ≡ true) × (lane_of v l ≡ (past.lane l).own)
  shown_lane l h = filled_only (holds_lane past place l) (new_lane l) (past.lane l).own (lanes_at v l) (f.lanes l) h

  pub lane_not_shown : (l : ℕ) → holds_lane past place l ≡ false → has_lane v l ≡ false
  lane_not_shown l h = only_empty (holds_lane past place l) (past.lane l).own (lanes_at v l) (f.lanes l) h

  pub shown_number : (n : ℕ) → has_drawn v n ≡ true → (holds_number past place n ≡ true) × (drawn_of v n ≡ (past.lane n).drawn)
  shown_number n h = filled_only (holds_number past place n) (new_drawn n) (past.lane n).drawn (drawn_at v n) (f.drawn n) h

  pub number_shown : (n : ℕ) → holds_number past place n ≡ true → (has_drawn v n ≡ true) × (drawn_of v n ≡ (past.lane n).drawn)
  number_shown n h = only_filled (holds_number past place n) (new_drawn n) (past.lane n).drawn (drawn_at v n) (f.drawn n) h

  pub number_not_shown : (n : ℕ) → holds_number past place n ≡ false → has_drawn v n ≡ false
  number_not_shown n h = only_empty (holds_number past place n) (past.lane n).drawn (drawn_at v n) (f.drawn n) h

  pub shown_once : IsOnce v
  shown_once = record {
    lanes = λ l. only_once (holds_lane past place l) (past.lane l).own (lanes_at v l) (f.lanes l);
    drawn = λ n. only_once (holds_number past place n) (past.lane n).drawn (drawn_at v n) (f.drawn n);
  }

-- a view has a lane: it has a seat, and this view holds it
pub lane_parts : (past : Past) (place l : ℕ) → holds_lane past place l ≡ true → ((past.lane l).drawn.seated ≡ true) × (past.holder l ≡ place)
lane_parts past place l h = (let p = and_parts (past.lane l).drawn.seated (past.holder l == place) h in (p.0, eqb-true (past.holder l) place p.1))

pub lane_held : (past : Past) (place l : ℕ) → (past.lane l).drawn.seated ≡ true → past.holder l ≡ place → holds_lane past place l ≡ true
lane_held past place l seated here = and_from (past.lane l).drawn.seated (past.holder l == place) seated (eq-eqb (past.holder l) place here)

pub lane_elsewhere : (past : Past) (place l : ℕ) → past.holder l ≢ place → holds_lane past place l ≡ false
lane_elsewhere past place l apart = and_right (past.lane l).drawn.seated (past.holder l == place) (ne_eqb (past.holder l) place apart)

pub number_parts : (past : Past) (place n : ℕ) → holds_number past place n ≡ true → (0 < n) × (n < past.next) × (past.holder (past.drawer n) ≡ place)
number_parts past place n h =
    let p = and_parts (ltb 0 n && ltb n past.next) (past.holder (past.drawer n) == place) h in
    let q = and_parts (ltb 0 n) (ltb n past.next) p.0 in (
      ltb-true 0 n q.0,
      ltb-true n past.next q.1,
      eqb-true (past.holder (past.drawer n)) place p.1,
    )

pub number_held : (past : Past) (place n : ℕ) → 0 < n → n < past.next → past.holder (past.drawer n) ≡ place → holds_number past place n ≡ true
number_held past place n pos lt here = and_from (ltb 0 n && ltb n past.next) (past.holder (past.drawer n) == place) (and_from (ltb 0 n) (ltb n past.next) (lt-ltb 0 n pos) (lt-ltb n past.next lt)) (eq-eqb (past.holder (past.drawer n)) place here)

pub number_elsewhere : (past : Past) (place n : ℕ) → past.holder (past.drawer n) ≢ place → holds_number past place n ≡ false
number_elsewhere past place n apart = and_right (ltb 0 n && ltb n past.next) (past.holder (past.drawer n) == place) (ne_eqb (past.holder (past.drawer n)) place apart)

pub agrees_now : (past : Past) (words : List ℕ) (views : List View) → IsPast past words views → (place : ℕ) (v : View) → Shows past place v → Agrees v
agrees_now past words views k place v f = λ l lane drawn. (
    let a = shown_lane past place v f l lane in
    let b = shown_number past place v f l drawn in
    subst (λ (y : LaneFacts × DrawnFacts). IsAgreed y.0 y.1) (λ i. (sym a.1 i, sym b.1 i)) (k.lawful l).agreed)

-- by the lanes that drew them: each number was drawn by a lesser lane, which a whole seat with lane 0 has
pub all_numbers : (past : Past) (words : List ℕ) (views : List View) → IsPast past words views → (place : ℕ) (v : View) → Shows past place v → IsWhole v → has_lane v 0 ≡ true
    → (bound n : ℕ) → n < bound → 0 < n → n < past.next → holds_number past place n ≡ true
all_numbers past words views k place v f whole zero_lane zero n below pos lt = absurd (omega (arith, below))
all_numbers past words views k place v f whole zero_lane (suc bound) n below pos lt =
    let d = k.draws n pos lt in
    let lesser : past.drawer n < n = d.lesser in
    let here : past.holder (past.drawer n) ≡ place = ⊎_elim
    (λ (z : past.drawer n ≡ 0). ap past.holder z ∙ (lane_parts past place 0 (shown_lane past place v f 0 zero_lane).0).1)
    (λ (z : past.drawer n ≢ 0). (
    let rest = all_numbers past words views k place v f whole zero_lane bound (past.drawer n) (omega (arith, lesser, below)) (omega (arith, z)) (omega (arith, lesser, lt)) in
    let shown = number_shown past place v f (past.drawer n) rest in
    let seat = whole (past.drawer n) shown.0 (ap (λ (b : DrawnFacts). b.seated) shown.1 ∙ d.seated) in
    (lane_parts past place (past.drawer n) (shown_lane past place v f (past.drawer n) seat).0).1))
    (nat_dec (past.drawer n) 0) in
    number_held past place n pos lt here

pub numbers_now : (past : Past) (words : List ℕ) (views : List View) → IsPast past words views → (place : ℕ) (v : View) → Shows past place v → HasAllNumbers v
numbers_now past words views k place v f = λ whole zero_lane greatest n has pos le. (
    let top = (number_parts past place greatest (shown_number past place v f greatest has).0).1 in
    (number_shown past place v f n (all_numbers past words views k place v f whole zero_lane (suc n) n (omega arith) pos (omega (arith, top, le)))).0)
