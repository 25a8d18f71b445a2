-- For callers: what a seat shows after each call, by the equations of their contracts.
use Rattle.std.proofs.Common.{◌≡◌, ℕ, ◌==◌, ◌≢◌, ◌⊎◌, ⊎_elim, Bool, true, false, true≢false, List, [], ◌∷◌, ◌++◌, refl, ap, sym, ◌∙◌, cond, ltb, inl, inr}
use Rattle.std.proofs.lemmas.Bool.{eqb-true}
use Rattle.std.proofs.lemmas.List.Elements.{filter-append}
use Rattle.status_board.specs.declared.status.Status.{Status}
use Rattle.status_board.specs.declared.status.CancelKind.{CancelKind}
use Rattle.status_board.specs.declared.status.CancelKind.TheVariants.{Soft, Hard}
use Rattle.status_board.specs.declared.view.LaneFacts.{LaneFacts}
use Rattle.status_board.specs.declared.view.DrawnFacts.{DrawnFacts}
use Rattle.status_board.specs.declared.view.View.{View}
use Rattle.status_board.specs.Words.{most}
use Rattle.status_board.specs.Views.{is_filled, first_or, new_lane, new_drawn, lanes_at, drawn_at, has_lane, lane_of, has_drawn, drawn_of, own_lane, IsWhole}
use Rattle.status_board.specs.Changes.{with_lane, with_drawn, in_status, with_status, looked, with_look, asked_by, with_ask, with_seat, heard_both, with_bits, over, with_draw, met}
use Rattle.status_board.proofs.Entries.{nat_dec, at, at_renewed_same, at_renewed_other}

-- what is found under a key has it
pub first_at : {X : Type 0} (key : X → ℕ) (k : ℕ) (d : X) (xs : List X) → key d ≡ k → key (first_or d (at key k xs)) ≡ k
first_at key k d [] e = e
first_at key k d (x ∷ xs) e = elim (key x == k) as (λ b. (key x == k) ≡ b → key (first_or d (cond b (x ∷ at key k xs) (at key k xs))) ≡ k) [
  | true ↦ λ h. eqb-true (key x) k h
  | false ↦ λ h. first_at key k d xs e
] refl

pub own_name : (v : View) → (own_lane v).lane ≡ v.own
own_name v = first_at (λ (a : LaneFacts). a.lane) v.own (new_lane v.own) v.lanes refl

pub drawn_name : (v : View) (n : ℕ) → (drawn_of v n).number ≡ n
drawn_name v n = first_at (λ (b : DrawnFacts). b.number) n (new_drawn n) v.drawn refl

-- what is shown of a lane and of a number, renewed
pub lane_renewed : (v : View) (a : LaneFacts) (l : ℕ) → a.lane ≡ l → (has_lane (with_lane v a) l ≡ true) × (lane_of (with_lane v a) l ≡ a)
lane_renewed v a l e = (let r = at_renewed_same (λ (b : LaneFacts). b.lane) l a v.lanes e in (ap is_filled r, ap (first_or (new_lane l)) r))

pub drawn_renewed : (v : View) (b : DrawnFacts) (n : ℕ) → b.number ≡ n → (has_drawn (with_drawn v b) n ≡ true) × (drawn_of (with_drawn v b) n ≡ b)
drawn_renewed v b n e = (let r = at_renewed_same (λ (c : DrawnFacts). c.number) n b v.drawn e in (ap is_filled r, ap (first_or (new_drawn n)) r))

pub drawn_other : (v : View) (b : DrawnFacts) (n : ℕ) → b.number ≢ n → drawn_at (with_drawn v b) n ≡ drawn_at v n
drawn_other v b n e = at_renewed_other (λ (c : DrawnFacts). c.number) n b v.drawn e

pub lane_kept : (v : View) (a : LaneFacts) (l : ℕ) → has_lane v a.lane ≡ true → has_lane (with_lane v a) l ≡ has_lane v l
lane_kept v a l has = ⊎_elim
    (λ (h : a.lane ≡ l). (lane_renewed v a l h).0 ∙ sym (ap (has_lane v) (sym h) ∙ has))
    (λ (h : a.lane ≢ l). ap is_filled (at_renewed_other (λ (b : LaneFacts). b.lane) l a v.lanes h))
    (nat_dec a.lane l)

pub drawn_kept : (v : View) (b : DrawnFacts) (n : ℕ) → has_drawn v b.number ≡ true → has_drawn (with_drawn v b) n ≡ has_drawn v n
drawn_kept v b n has = ⊎_elim
    (λ (h : b.number ≡ n). (drawn_renewed v b n h).0 ∙ sym (ap (has_drawn v) (sym h) ∙ has))
    (λ (h : b.number ≢ n). ap is_filled (drawn_other v b n h))
    (nat_dec b.number n)

pub seated_kept : (v : View) (b : DrawnFacts) (n : ℕ) → b.seated ≡ (drawn_of v b.number).seated → (drawn_of (with_drawn v b) n).seated ≡ (drawn_of v n).seated
seated_kept v b n same = ⊎_elim
    (λ (h : b.number ≡ n). ap (λ (c : DrawnFacts). c.seated) (drawn_renewed v b n h).1 ∙ (same ∙ ap (λ m. (drawn_of v m).seated) h))
    (λ (h : b.number ≢ n). ap (λ bs. (first_or (new_drawn n) bs).seated) (drawn_other v b n h))
    (nat_dec b.number n)

-- what two views show together
pub lanes_met : (v w : View) (l : ℕ) → lanes_at (met v w) l ≡ lanes_at v l ++ lanes_at w l
lanes_met v w l = filter-append (λ (a : LaneFacts). a.lane == l) v.lanes w.lanes

pub drawn_met : (v w : View) (n : ℕ) → drawn_at (met v w) n ≡ drawn_at v n ++ drawn_at w n
drawn_met v w n = filter-append (λ (b : DrawnFacts). b.number == n) v.drawn w.drawn

-- after each call

pub own_lane-with_status : (v : View) (to : Status) (found : ℕ) → own_lane (with_status v to found) ≡ in_status (own_lane v) to found
own_lane-with_status v to found = (lane_renewed v (in_status (own_lane v) to found) v.own (own_name v)).1

pub own_lane-with_bits : (v : View) (soft hard : Bool) → own_lane (with_bits v soft hard) ≡ heard_both (own_lane v) soft hard
own_lane-with_bits v soft hard = (lane_renewed v (heard_both (own_lane v) soft hard) v.own (own_name v)).1

-- a draw leaves all of the seat's lane but the number that was too great
pub own_lane-with_draw : {X : Type 0} (part : LaneFacts → X) → ((a : LaneFacts) (n : ℕ) → part (record a { over = n }) ≡ part a) → (v : View) (n : ℕ) → part (own_lane (with_draw v n)) ≡ part (own_lane v)
own_lane-with_draw part same v n = elim (ltb n most) as (λ b. part (own_lane (with_drawn (cond b v (with_lane v (record (own_lane v) { over = n }))) (new_drawn n))) ≡ part (own_lane v)) [
  | true ↦ refl
  | false ↦ ap part (lane_renewed v (record (own_lane v) { over = n }) v.own (own_name v)).1 ∙ same (own_lane v) n
]

pub status-with_draw : (v : View) (n : ℕ) → (own_lane (with_draw v n)).status ≡ (own_lane v).status
status-with_draw v n = own_lane-with_draw (λ a. a.status) (λ a n. refl) v n

-- the number is drawn, and the others stay
over_drawn : (v : View) (n m : ℕ) → drawn_at (over v n) m ≡ drawn_at v m
over_drawn v n m = elim (ltb n most) as (λ b. drawn_at (cond b v (with_lane v (record (own_lane v) { over = n }))) m ≡ drawn_at v m) [ true ↦ refl | false ↦ refl ]

pub drawn-with_draw : (v : View) (n : ℕ) → (has_drawn (with_draw v n) n ≡ true) × (drawn_of (with_draw v n) n ≡ new_drawn n)
drawn-with_draw v n = drawn_renewed (over v n) (new_drawn n) n refl

pub others-with_draw : (v : View) (n m : ℕ) → n ≢ m → drawn_at (with_draw v n) m ≡ drawn_at v m
others-with_draw v n m apart = drawn_other (over v n) (new_drawn n) m apart ∙ over_drawn v n m

pub drawn_stays-with_draw : (v : View) (n m : ℕ) → has_drawn v m ≡ true → has_drawn (with_draw v n) m ≡ true
drawn_stays-with_draw v n m has = ⊎_elim
    (λ (h : n ≡ m). ap (has_drawn (with_draw v n)) (sym h) ∙ (drawn-with_draw v n).0)
    (λ (h : n ≢ m). ap is_filled (others-with_draw v n m h) ∙ has)
    (nat_dec n m)

-- a look, an ask and a new seat leave which numbers were drawn
pub drawn-with_look : (v : View) (lane : ℕ) (status : Status) (n : ℕ) → has_drawn v lane ≡ true → has_drawn (with_look v lane status) n ≡ has_drawn v n
drawn-with_look v lane status n has = drawn_kept v (looked (drawn_of v lane) status) n (ap (has_drawn v) (drawn_name v lane) ∙ has)

asked_name : (kind : CancelKind) (b : DrawnFacts) (found : ℕ) → (asked_by kind b found).number ≡ b.number
asked_name Soft b found = refl
asked_name Hard b found = refl

pub drawn-with_ask : (v : View) (lane : ℕ) (kind : CancelKind) (found n : ℕ) → has_drawn v lane ≡ true → has_drawn (with_ask v lane kind found) n ≡ has_drawn v n
drawn-with_ask v lane kind found n has = drawn_kept v (asked_by kind (drawn_of v lane) found) n (ap (has_drawn v) (asked_name kind (drawn_of v lane) found ∙ drawn_name v lane) ∙ has)

pub drawn-with_seat : (v : View) (lane n : ℕ) → has_drawn v lane ≡ true → has_drawn (with_seat v lane) n ≡ has_drawn v n
drawn-with_seat v lane n has = drawn_kept v (record (drawn_of v lane) { seated = true }) n (ap (has_drawn v) (drawn_name v lane) ∙ has)

-- of the lane that was looked at, asked and given a seat
pub looked_at : (v : View) (lane : ℕ) (status : Status) → drawn_of (with_look v lane status) lane ≡ looked (drawn_of v lane) status
looked_at v lane status = (drawn_renewed v (looked (drawn_of v lane) status) lane (drawn_name v lane)).1

pub asked_at : (v : View) (lane : ℕ) (kind : CancelKind) (found : ℕ) → drawn_of (with_ask v lane kind found) lane ≡ asked_by kind (drawn_of v lane) found
asked_at v lane kind found = (drawn_renewed v (asked_by kind (drawn_of v lane) found) lane (asked_name kind (drawn_of v lane) found ∙ drawn_name v lane)).1

pub seated_at : (v : View) (lane : ℕ) → (drawn_of (with_seat v lane) lane).seated ≡ true
seated_at v lane = ap (λ (b : DrawnFacts). b.seated) (drawn_renewed v (record (drawn_of v lane) { seated = true }) lane (drawn_name v lane)).1

-- a meet keeps what the seat had and adds what the other had
filled_first : {X : Type 0} (xs ys : List X) → is_filled xs ≡ true → is_filled (xs ++ ys) ≡ true
filled_first [] ys h = absurd (true≢false (sym h))
filled_first (x ∷ xs) ys h = refl

filled_second : {X : Type 0} (xs ys : List X) → is_filled ys ≡ true → is_filled (xs ++ ys) ≡ true
filled_second [] ys h = h
filled_second (x ∷ xs) ys h = refl

pub lane_stays-met : (v w : View) (l : ℕ) → has_lane v l ≡ true → has_lane (met v w) l ≡ true
lane_stays-met v w l h = ap is_filled (lanes_met v w l) ∙ filled_first (lanes_at v l) (lanes_at w l) h

pub lane_added-met : (v w : View) (l : ℕ) → has_lane w l ≡ true → has_lane (met v w) l ≡ true
lane_added-met v w l h = ap is_filled (lanes_met v w l) ∙ filled_second (lanes_at v l) (lanes_at w l) h

pub drawn_stays-met : (v w : View) (n : ℕ) → has_drawn v n ≡ true → has_drawn (met v w) n ≡ true
drawn_stays-met v w n h = ap is_filled (drawn_met v w n) ∙ filled_first (drawn_at v n) (drawn_at w n) h

pub drawn_added-met : (v w : View) (n : ℕ) → has_drawn w n ≡ true → has_drawn (met v w) n ≡ true
drawn_added-met v w n h = ap is_filled (drawn_met v w n) ∙ filled_second (drawn_at v n) (drawn_at w n) h

-- the joined seat is whole where the one has all seats but those that the other brings, and the other is whole
first_of_met : (v w : View) (n : ℕ) → ((has_drawn v n ≡ true) × (drawn_of (met v w) n ≡ drawn_of v n)) ⊎ (drawn_at (met v w) n ≡ drawn_at w n)
first_of_met v w n = elim (drawn_at v n) as (λ xs. drawn_at v n ≡ xs → ((has_drawn v n ≡ true) × (drawn_of (met v w) n ≡ drawn_of v n)) ⊎ (drawn_at (met v w) n ≡ drawn_at w n)) [
  | [] ↦ λ e. inr (drawn_met v w n ∙ ap (λ xs. xs ++ drawn_at w n) e)
  | (x ∷ xs) ↦ λ e. inl (ap is_filled e, ap (first_or (new_drawn n)) (drawn_met v w n ∙ ap (λ ys. ys ++ drawn_at w n) e) ∙ sym (ap (first_or (new_drawn n)) e))
] refl

pub IsWhole-met : (v w : View) → ((l : ℕ) → has_drawn v l ≡ true → (drawn_of v l).seated ≡ true → (has_lane v l ≡ true) ⊎ (has_lane w l ≡ true)) → IsWhole w → IsWhole (met v w)
IsWhole-met v w mine other = λ l drawn seated. ⊎_elim
    (λ (h : (has_drawn v l ≡ true) × (drawn_of (met v w) l ≡ drawn_of v l)). ⊎_elim
    (λ (z : has_lane v l ≡ true). lane_stays-met v w l z)
    (λ (z : has_lane w l ≡ true). lane_added-met v w l z)
    (mine l h.0 (ap (λ (b : DrawnFacts). b.seated) (sym h.1) ∙ seated)))
    (λ (h : drawn_at (met v w) l ≡ drawn_at w l). lane_added-met v w l (other l (ap is_filled (sym h) ∙ drawn) (ap (λ bs. (first_or (new_drawn l) bs).seated) (sym h) ∙ seated)))
    (first_of_met v w l)

pub IsWhole-with_draw : (v : View) (n : ℕ) → IsWhole v → (has_drawn v n ≡ false) → IsWhole (with_draw v n)
IsWhole-with_draw v n whole new = λ l drawn seated. ⊎_elim
    (λ (h : n ≡ l). absurd (true≢false (sym seated ∙ ap (λ m. (drawn_of (with_draw v n) m).seated) (sym h) ∙ ap (λ (b : DrawnFacts). b.seated) (drawn-with_draw v n).1)))
    (λ (h : n ≢ l). (
    let e = others-with_draw v n l h in
    over_has v n l (whole l (ap is_filled (sym e) ∙ drawn) (ap (λ bs. (first_or (new_drawn l) bs).seated) (sym e) ∙ seated))))
    (nat_dec n l)
  where
    over_has : (v : View) (n l : ℕ) → has_lane v l ≡ true → has_lane (over v n) l ≡ true
    over_has v n l h = elim (ltb n most) as (λ b. has_lane (cond b v (with_lane v (record (own_lane v) { over = n }))) l ≡ true) [
      | true ↦ h
      | false ↦ ⊎_elim
          (λ (z : (own_lane v).lane ≡ l). (lane_renewed v (record (own_lane v) { over = n }) l z).0)
          (λ (z : (own_lane v).lane ≢ l). ap is_filled (at_renewed_other (λ (a : LaneFacts). a.lane) l (record (own_lane v) { over = n }) v.lanes z) ∙ h)
          (nat_dec (own_lane v).lane l)
    ]

-- what a caller's proof takes from a call's equation
pub ruleset seat_steps = (own_lane-with_status, own_lane-with_bits, status-with_draw, drawn-with_draw, drawn_stays-with_draw, drawn-with_look, drawn-with_ask, drawn-with_seat, looked_at, asked_at, seated_at)
