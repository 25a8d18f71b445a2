-- What a seat keeps beside what it shows, after each change.
use Rattle.std.proofs.Common.{◌≡◌, ℕ, ◌≤◌, Bool, true, false, true≢false, List, [], ◌∷◌, ◌++◌, length, refl, ap, sym, ◌∙◌, subst, arith, cond}
use Rattle.std.proofs.lemmas.Bool.{le-ltb}
use Rattle.std.proofs.lemmas.List.{length-append}
use Rattle.status_board.specs.declared.status.Status.{Status}
use Rattle.status_board.specs.declared.view.LaneFacts.{LaneFacts}
use Rattle.status_board.specs.declared.view.DrawnFacts.{DrawnFacts}
use Rattle.status_board.specs.declared.view.View.{View}
use Rattle.status_board.specs.StatusLife.{may_follow, is_life}
use Rattle.status_board.specs.Words.{most}
use Rattle.status_board.specs.Views.{is_filled, first_or, new_lane, new_drawn, lanes_at, drawn_at, has_lane, lane_of, has_drawn, drawn_of, own_lane, HasAllNumbers}
use Rattle.status_board.specs.declared.status.CancelKind.{CancelKind}
use Rattle.status_board.specs.declared.status.CancelKind.TheVariants.{Soft, Hard}
use Rattle.status_board.specs.Changes.{with_lane, with_drawn, in_status, with_status, looked, with_look, asked_by, with_ask, with_seat, heard_both, with_bits, with_draw, met}
use Rattle.status_board.specs.Steps.{IsOnce}
use Rattle.status_board.specs.Standing.{Stands}
use Rattle.status_board.proofs.SeatLemmas.{own_name, drawn_name, lane_renewed, drawn_renewed, lane_kept, drawn_kept, seated_kept, lanes_met, drawn_met}
use Rattle.status_board.proofs.Lives.{life_goes_on}

-- a whole seat with lane 0 keeps all numbers
numbers_by_lane : (v : View) (a : LaneFacts) → has_lane v a.lane ≡ true → HasAllNumbers v → HasAllNumbers (with_lane v a)
numbers_by_lane v a has all = λ whole zero_lane. all (λ l drawn seated. sym (lane_kept v a l has) ∙ whole l drawn seated) (sym (lane_kept v a 0 has) ∙ zero_lane)

pub numbers_by_drawn : (v : View) (b : DrawnFacts) → has_drawn v b.number ≡ true → b.seated ≡ (drawn_of v b.number).seated → HasAllNumbers v → HasAllNumbers (with_drawn v b)
numbers_by_drawn v b has same all = λ whole zero_lane greatest n top pos le.
    drawn_kept v b n has ∙ all (λ l drawn seated. whole l (drawn_kept v b l has ∙ drawn) (seated_kept v b l same ∙ seated)) zero_lane greatest n (sym (drawn_kept v b greatest has) ∙ top) pos le

-- the seat that made another is not whole
numbers_by_seat : (v : View) (l : ℕ) → has_lane v l ≡ false → HasAllNumbers (with_seat v l)
numbers_by_seat v l absent = λ whole zero_lane greatest n top pos le. (
    let b : DrawnFacts = record (drawn_of v l) { seated = true } in
    let r = drawn_renewed v b l (drawn_name v l) in
    absurd (true≢false (sym (whole l r.0 (ap (λ (c : DrawnFacts). c.seated) r.1)) ∙ absent)))

stands_on_lane : (lane : ℕ) (old new : Status) (over : ℕ) (v : View) (a : LaneFacts) → Stands lane old over v → a.lane ≡ v.own → a.status ≡ new → is_life a.status a.before ≡ true → a.over ≡ over → Stands lane new over (with_lane v a)
stands_on_lane lane old new over v a s name status life same =
    let r = lane_renewed v a v.own name in
    record {
      own = s.own;
      low = s.low;
      held = (lane_renewed v a lane (name ∙ s.own)).0;
      status_is = ap (λ (b : LaneFacts). b.status) r.1 ∙ status;
      life = subst (λ (b : LaneFacts). is_life b.status b.before ≡ true) (sym r.1) life;
      over_is = ap (λ (b : LaneFacts). b.over) r.1 ∙ same;
      too_great = s.too_great;
      numbers = numbers_by_lane v a (ap (has_lane v) (name ∙ s.own) ∙ s.held) s.numbers;
    }

stands_on_drawn : (lane : ℕ) (status : Status) (over : ℕ) (v : View) (b : DrawnFacts) → Stands lane status over v → HasAllNumbers (with_drawn v b) → Stands lane status over (with_drawn v b)
stands_on_drawn lane status over v b s numbers = record {
  own = s.own;
  low = s.low;
  held = s.held;
  status_is = s.status_is;
  life = s.life;
  over_is = s.over_is;
  too_great = s.too_great;
  numbers = numbers;
}

-- after a look or an ask
pub stands_facts : (lane : ℕ) (status : Status) (over : ℕ) (v w : View) (b : DrawnFacts) → Stands lane status over v → w ≡ with_drawn v b → has_drawn v b.number ≡ true → b.seated ≡ (drawn_of v b.number).seated → Stands lane status over w
stands_facts lane status over v w b s is has same = subst (Stands lane status over) (sym is) (stands_on_drawn lane status over v b s (numbers_by_drawn v b has same s.numbers))

pub stands_seat : (lane : ℕ) (status : Status) (over : ℕ) (v w : View) (l : ℕ) → Stands lane status over v → w ≡ with_seat v l → has_lane v l ≡ false → Stands lane status over w
stands_seat lane status over v w l s is absent = subst (Stands lane status over) (sym is) (stands_on_drawn lane status over v (record (drawn_of v l) { seated = true }) s (numbers_by_seat v l absent))

pub stands_status : (lane : ℕ) (from to : Status) (over found : ℕ) (v w : View) → Stands lane from over v → may_follow (own_lane v).status to ≡ true → w ≡ with_status v to found → Stands lane to over w
stands_status lane from to over found v w s may is =
    subst (Stands lane to over) (sym is) (stands_on_lane lane from to over v (in_status (own_lane v) to found) s (own_name v) refl (life_goes_on (own_lane v).status to (own_lane v).before may s.life) s.over_is)

pub stands_bits : (lane : ℕ) (status : Status) (over : ℕ) (v w : View) (soft hard : Bool) → Stands lane status over v → w ≡ with_bits v soft hard → Stands lane status over w
stands_bits lane status over v w soft hard s is = subst (Stands lane status over) (sym is) (stands_on_lane lane status status over v (heard_both (own_lane v) soft hard) s (own_name v) s.status_is s.life s.over_is)

pub stands_over : (lane : ℕ) (status : Status) (none n : ℕ) (v w : View) → Stands lane status none v → most ≤ n → w ≡ with_draw v n → HasAllNumbers w → Stands lane status n w
stands_over lane status none n v w s high is numbers =
    let a : LaneFacts = record (own_lane v) { over = n } in
    let is' : w ≡ with_drawn (with_lane v a) (new_drawn n) = is ∙ ap (λ t. with_drawn (cond t v (with_lane v a)) (new_drawn n)) (le-ltb n most high) in
    let r = lane_renewed v a v.own (own_name v) in
    subst (Stands lane status n) (sym is') (record {
      own = s.own;
      low = s.low;
      held = (lane_renewed v a lane (own_name v ∙ s.own)).0;
      status_is = ap (λ (b : LaneFacts). b.status) r.1 ∙ s.status_is;
      life = subst (λ (b : LaneFacts). is_life b.status b.before ≡ true) (sym r.1) s.life;
      over_is = ap (λ (b : LaneFacts). b.over) r.1;
      too_great = λ _. high;
      numbers = subst HasAllNumbers is' numbers;
    })

module _ {X : Type 0} (d : X) where
  -- where the second list has an entry and both have one at most, the first has none
  only_second : (xs ys : List X) → length (xs ++ ys) ≤ 1 → is_filled ys ≡ true → (is_filled xs ≡ false) × (first_or d (xs ++ ys) ≡ first_or d ys)
  only_second [] ys le h = (refl, refl)
  only_second (x ∷ xs) [] le h = absurd (true≢false (sym h))
  only_second (x ∷ xs) (y ∷ ys) le h = (let n = length-append xs (y ∷ ys) in absurd (omega (arith, le, n)))

  first_stays : (xs ys : List X) → is_filled xs ≡ true → (is_filled (xs ++ ys) ≡ true) × (first_or d (xs ++ ys) ≡ first_or d xs)
  first_stays [] ys h = absurd (true≢false (sym h))
  first_stays (x ∷ xs) ys h = (refl, refl)

pub handed_lane : (v w u : View) → u ≡ met v w → IsOnce u → (l : ℕ) → has_lane w l ≡ true → (has_lane v l ≡ false) × (lane_of u l ≡ lane_of w l)
handed_lane v w u is once l h =
    let e : lanes_at u l ≡ lanes_at v l ++ lanes_at w l = ap (λ x. lanes_at x l) is ∙ lanes_met v w l in
    let r = only_second (new_lane l) (lanes_at v l) (lanes_at w l) (subst (λ xs. length xs ≤ 1) e (once.lanes l)) h in
    (r.0, ap (first_or (new_lane l)) e ∙ r.1)

pub handed_number : (v w u : View) → u ≡ met v w → IsOnce u → (n : ℕ) → has_drawn w n ≡ true → (has_drawn v n ≡ false) × (drawn_of u n ≡ drawn_of w n)
handed_number v w u is once n h =
    let e : drawn_at u n ≡ drawn_at v n ++ drawn_at w n = ap (λ x. drawn_at x n) is ∙ drawn_met v w n in
    let r = only_second (new_drawn n) (drawn_at v n) (drawn_at w n) (subst (λ xs. length xs ≤ 1) e (once.drawn n)) h in
    (r.0, ap (first_or (new_drawn n)) e ∙ r.1)

pub stands_met : (lane : ℕ) (status : Status) (over : ℕ) (v w u : View) → Stands lane status over v → u ≡ met v w → HasAllNumbers u → Stands lane status over u
stands_met lane status over v w u s is numbers =
    let own = first_stays (new_lane v.own) (lanes_at v v.own) (lanes_at w v.own) (ap (has_lane v) s.own ∙ s.held) in
    let held = first_stays (new_lane lane) (lanes_at v lane) (lanes_at w lane) s.held in
    let own_is : own_lane (met v w) ≡ own_lane v = ap (first_or (new_lane v.own)) (lanes_met v w v.own) ∙ own.1 in
    subst (Stands lane status over) (sym is) (record {
      own = s.own;
      low = s.low;
      held = ap is_filled (lanes_met v w lane) ∙ held.0;
      status_is = ap (λ (a : LaneFacts). a.status) own_is ∙ s.status_is;
      life = subst (λ (a : LaneFacts). is_life a.status a.before ≡ true) (sym own_is) s.life;
      over_is = ap (λ (a : LaneFacts). a.over) own_is ∙ s.over_is;
      too_great = s.too_great;
      numbers = subst HasAllNumbers is numbers;
    })

pub stands_looked : (lane : ℕ) (status : Status) (over : ℕ) (v w : View) (l : ℕ) (found : Status) → Stands lane status over v → w ≡ with_look v l found → has_drawn v l ≡ true → Stands lane status over w
stands_looked lane status over v w l found s is has =
    let e = drawn_name v l in
    stands_facts lane status over v w (looked (drawn_of v l) found) s is (ap (has_drawn v) e ∙ has) (ap (λ n. (drawn_of v n).seated) (sym e))

pub stands_asked : (lane : ℕ) (status : Status) (over : ℕ) (v w : View) (l : ℕ) (kind : CancelKind) (found : ℕ) → Stands lane status over v → w ≡ with_ask v l kind found → has_drawn v l ≡ true → Stands lane status over w
stands_asked lane status over v w l Soft found s is has =
    let e = drawn_name v l in
    stands_facts lane status over v w (asked_by Soft (drawn_of v l) found) s is (ap (has_drawn v) e ∙ has) (ap (λ n. (drawn_of v n).seated) (sym e))
stands_asked lane status over v w l Hard found s is has =
    let e = drawn_name v l in
    stands_facts lane status over v w (asked_by Hard (drawn_of v l) found) s is (ap (has_drawn v) e ∙ has) (ap (λ n. (drawn_of v n).seated) (sym e))
