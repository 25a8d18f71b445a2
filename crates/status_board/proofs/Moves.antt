-- The steps on a lane's words keep the rule.
use Rattle.std.proofs.Common.{◌≡◌, ℕ, ◌+◌, ◌-◌, ◌/◌, ◌%◌, ◌^◌, ◌<◌, ◌≤◌, true, false, true≢false, List, set, refl, ap, sym, ◌∙◌, subst, arith, cond, inl, inr}
use mathlib.Core.Option.{some, none}
use lib.ListN.{get_elem?}
use Rattle.std.specs.Prelude.{slice_index, bit_xor, bit_or}
use Rattle.atomic_table.specs.Table.{step, Allows}
use Rattle.atomic_table.specs.Table.Act.{keeps}
use Rattle.status_board.specs.declared.status.Status.{Status}
use Rattle.status_board.specs.declared.status.CancelKind.{CancelKind}
use Rattle.status_board.specs.declared.status.CancelKind.TheVariants.{Soft, Hard}
use Rattle.status_board.specs.declared.view.CancelReads.{CancelReads}
use Rattle.status_board.specs.declared.view.CancelAsks.{CancelAsks}
use Rattle.status_board.specs.declared.view.LaneFacts.{LaneFacts}
use Rattle.status_board.specs.declared.view.DrawnFacts.{DrawnFacts}
use Rattle.status_board.specs.declared.view.View.{View}
use Rattle.status_board.specs.StatusLife.{is_end, rank, may_follow}
use Rattle.status_board.specs.Words.{most, turn, status_place, cancel_place, word, code_of, status_of, bit_of, kind_of_bit, bits_of, soft_in, hard_in}
use Rattle.status_board.specs.Views.{has_lane, has_drawn, drawn_of, own_lane}
use Rattle.status_board.specs.Changes.{with_lane, with_drawn, in_status, with_status, looked, with_look, asked, asked_by, with_ask, heard, heard_both}
use Rattle.status_board.specs.Agreement.{IsAskedFor, IsAgreed}
use Rattle.status_board.specs.Rule.{Lane, IsLawful, Past, holds_lane, holds_number, Shows, IsPast, Kept}
use Rattle.status_board.specs.Steps.{Seated, Sets, Looks, Asks, Hears}
use Rattle.status_board.proofs.Entries.{each_set}
use Rattle.status_board.proofs.WordLemmas.{word_low, word_high, word_look, word_set, word_ask, lane_of_status_place, lane_of_cancel_place, code_small, status_of_code, xor_back, bits_small, soft_of_bits, hard_of_bits, kind_of_its_bit, soft_after, hard_after}
use Rattle.status_board.proofs.Lives.{no_end_before, rank_rises, life_goes_on}
use Rattle.status_board.proofs.Shown.{shown_lane, shown_number, lane_parts, lane_elsewhere, number_parts, number_elsewhere}
use Rattle.status_board.proofs.LaneSteps.{put_lane, shows_own_here, shows_own_elsewhere, shows_drawn_here, shows_drawn_elsewhere, lane_step}

-- what a seat that has its own lane knows of it, and what one that drew a lane knows of that
module _ (past : Past) (words : List ℕ) (views : List View) (k : IsPast past words views) (id : ℕ) (v : View) (at : get_elem? views id ≡ some v) where
  -- the views after a change of a lane that the seat has
  own_views : (l : ℕ) (x : Lane) → holds_lane past id l ≡ true → x.drawn ≡ (past.lane l).drawn → x.own.lane ≡ l
      → (place : ℕ) (u : View) → get_elem? (set views id (with_lane v x.own)) place ≡ some u → Shows (put_lane past l x) place u
  own_views l x has drawn name = each_set (Shows (put_lane past l x)) views id (with_lane v x.own)
      (λ j u apart e. shows_own_elsewhere past l x drawn j u (lane_elsewhere past j l (λ z. apart (sym z ∙ (lane_parts past id l has).1))) (k.shows j u e))
      (shows_own_here past l x drawn name id v has (k.shows id v at))

  -- and of a lane that it drew
  drawn_views : (l : ℕ) (x : Lane) → holds_number past id l ≡ true → x.own ≡ (past.lane l).own → x.drawn.seated ≡ (past.lane l).drawn.seated → x.drawn.number ≡ l
      → (place : ℕ) (u : View) → get_elem? (set views id (with_drawn v x.drawn)) place ≡ some u → Shows (put_lane past l x) place u
  drawn_views l x has own seated name = each_set (Shows (put_lane past l x)) views id (with_drawn v x.drawn)
      (λ j u apart e. shows_drawn_elsewhere past l x own seated j u (number_elsewhere past j l (λ z. apart (sym z ∙ (number_parts past id l has).2))) (k.shows j u e))
      (shows_drawn_here past l x own seated name id v has (k.shows id v at))

asked_after : (status : Status) (own : LaneFacts) (drawn : DrawnFacts) → may_follow own.status status ≡ true → (looks : ℕ) → IsAgreed own drawn
    → (is_end own.status ≡ false → drawn.looks ≡ looks) → IsAgreed (in_status own status (looks % turn)) drawn
asked_after status own drawn may looks agreed all = record {
  life = life_goes_on own.status status own.before may agreed.life;
  ranked = (let a = agreed.ranked in let b = rank_rises own.status status may in omega (arith, a, b));
  ended = λ h. absurd (true≢false (sym h ∙ (ap is_end (agreed.ended h) ∙ no_end_before own.status status may)));
  looks = λ h. ap (λ (n : ℕ). n % turn) (all (no_end_before own.status status may)) ∙ sym (ap (λ t. cond t (looks % turn) own.end_found) h);
  soft = agreed.soft;
  hard = agreed.hard;
}

-- the seat of a lane sets its status
pub sets_step : (id slots : ℕ) (v : View) (c : List (ℕ × Unit {0})) (from to : Status) → has_lane v v.own ≡ true → from ≡ (own_lane v).status → may_follow from to ≡ true
    → Allows Kept slots id (v, c) (status_place v.own) (λ n. bit_xor n (bit_xor (code_of from) (code_of to))) (Sets (step slots (status_place v.own) (bit_xor (code_of from) (code_of to)) 0 none) (v, c))
sets_step id slots v c from to there old may s kept len at lt =
    let past = kept.0 in
    let k = kept.1 in
    let l = v.own in
    let shown = shown_lane past id v (k.shows id v at) l there in
    let parts = lane_parts past id l shown.0 in
    let seat = k.seated l parts.0 in
    let o = past.lane l in
    let lawful = k.lawful l in
    let status : from ≡ o.own.status = old ∙ ap (λ (a : LaneFacts). a.status) shown.1 in
    let may' : may_follow o.own.status to ≡ true = subst (λ f. may_follow f to ≡ true) status may in
    let found = slice_index s.words (status_place l) in
    let is : found ≡ word o.looks (code_of o.own.status) = k.status_words l seat.low in
    let high : found / 256 ≡ o.looks % turn = ap (λ (n : ℕ). n / 256) is ∙ word_high o.looks (code_of o.own.status) (let z = code_small o.own.status in omega (arith, z)) in
    let x : Lane = record { own = in_status o.own to (o.looks % turn); drawn = o.drawn; looks = o.looks; cancel_looks = o.cancel_looks } in
    let mask = bit_xor (code_of from) (code_of to) in
    let told : with_lane v x.own ≡ with_status v (status_of (bit_xor (code_of (own_lane v).status) mask)) (found / 256) =
    (λ i. with_lane v (in_status (sym shown.1 i) ((sym (status_of_code to) ∙ (ap status_of (sym (xor_back (code_of from) (code_of to))) ∙ ap (λ (f : Status). status_of (bit_xor (code_of f) mask)) old)) i) (sym high i))) in (
      with_lane v x.own,
      keeps,
      tt,
      (
        put_lane past l x,
        lane_step past s.words s.views k id (with_lane v x.own) l x (status_place l) (bit_xor found mask) seat.low seat.drawn
            (inl (refl, ap (λ (n : ℕ). bit_xor n mask) is ∙ (ap (λ (f : Status). bit_xor (word o.looks (code_of o.own.status)) (bit_xor (code_of f) (code_of to))) status ∙ word_set o.looks o.own.status to), refl))
            (k.named l).0 (k.named l).1
            (record {
              agreed = asked_after to o.own o.drawn may' o.looks lawful.agreed lawful.looks;
              looks = λ _. lawful.looks (no_end_before o.own.status to may');
              soft = lawful.soft;
              hard = lawful.hard;
              unseated = λ h. absurd (true≢false (sym parts.0 ∙ h));
            })
            refl refl
            (own_views past s.words s.views k id v at l x shown.0 refl (k.named l).0),
      ),
      ap (λ (u : View). (u, c)) told,
    )

-- a look at the status of a lane that the seat drew
pub looks_step : (id slots : ℕ) (v : View) (c : List (ℕ × Unit {0})) (l : ℕ) → l < most → has_drawn v l ≡ true
    → Allows Kept slots id (v, c) (status_place l) (λ n. (n + 256) % 2 ^ 64) (Looks (step slots (status_place l) 256 0 none) (v, c))
looks_step id slots v c l low there s kept len at lt =
    let past = kept.0 in
    let k = kept.1 in
    let shown = shown_number past id v (k.shows id v at) l there in
    let parts = number_parts past id l shown.0 in
    let o = past.lane l in
    let lawful = k.lawful l in
    let five = code_small o.own.status in
    let found = slice_index s.words (status_place l) in
    let is : found ≡ word o.looks (code_of o.own.status) = k.status_words l low in
    let code : found % 256 ≡ code_of o.own.status = ap (λ (n : ℕ). n % 256) is ∙ word_low o.looks (code_of o.own.status) (omega (arith, five)) in
    let status : status_of (found % 256) ≡ o.own.status = ap status_of code ∙ status_of_code o.own.status in
    let x : Lane = record { own = o.own; drawn = looked o.drawn o.own.status; looks = o.looks + 1; cancel_looks = o.cancel_looks } in
    let Told : ℕ → Type 0 = λ q. (with_drawn v x.drawn ≡ with_look v q (status_of (found % 256))) × (rank (drawn_of v q).read ≤ rank (status_of (found % 256))) × (is_end (drawn_of v q).read ≡ true → (drawn_of v q).read ≡ status_of (found % 256)) in
    let told : Told l = (
      (λ i. with_drawn v (looked (sym shown.1 i) (sym status i))),
      (let r = lawful.agreed.ranked in subst (λ (y : DrawnFacts × Status). rank y.0.read ≤ rank y.1) (λ i. (sym shown.1 i, sym status i)) r),
      (let e = lawful.agreed.ended in subst (λ (y : DrawnFacts × Status). is_end y.0.read ≡ true → y.0.read ≡ y.1) (λ i. (sym shown.1 i, sym status i)) e),
    ) in
    let told' : Told ((status_place l - 1) / 2) = subst Told (sym (lane_of_status_place l)) told in (
      with_drawn v x.drawn,
      keeps,
      tt,
      (
        put_lane past l x,
        lane_step past s.words s.views k id (with_drawn v x.drawn) l x (status_place l) ((found + 256) % 2 ^ 64) low parts.1
            (inl (refl, ap (λ (n : ℕ). (n + 256) % 2 ^ 64) is ∙ word_look o.looks (code_of o.own.status) (omega (arith, five)), refl))
            (k.named l).0 (k.named l).1
            (record {
              agreed = record {
                life = lawful.agreed.life;
                ranked = omega arith;
                ended = λ _. refl;
                looks = λ h. ap (λ t. cond t o.drawn.looks (o.drawn.looks + 1) % turn) h ∙ lawful.agreed.looks h;
                soft = lawful.agreed.soft;
                hard = lawful.agreed.hard;
              };
              looks = λ h. ap (λ t. cond t o.drawn.looks (o.drawn.looks + 1)) h ∙ ap (λ (n : ℕ). n + 1) (lawful.looks h);
              soft = lawful.soft;
              hard = lawful.hard;
              unseated = lawful.unseated;
            })
            refl refl
            (drawn_views past s.words s.views k id v at l x shown.0 refl refl (k.named l).1),
      ),
      (ap (λ (u : View). (u, c)) told'.0, omega (arith, code, five), told'.1, told'.2),
    )

-- the first ask of a kind finds all looks so far
asked_for : (r : CancelReads) (q : CancelAsks) (looks : ℕ) → IsAskedFor r q → (q.asked ≡ false → r.unset ≡ looks) → IsAskedFor r (asked q (looks % turn))
asked_for r q looks before all = record {
  asked = λ _. refl;
  found = λ _. elim q.asked as (λ b. q.asked ≡ b → r.unset % turn ≡ cond b q.found (looks % turn)) [
    | true ↦ λ e. before.found e
    | false ↦ λ e. ap (λ (n : ℕ). n % turn) (all e)
  ] refl;
}

ask_lawful : (kind : CancelKind) (o : Lane) → IsLawful o → IsLawful (record o { drawn = asked_by kind o.drawn (o.cancel_looks % turn) })
ask_lawful Soft o lawful = record {
  agreed = record {
    life = lawful.agreed.life;
    ranked = lawful.agreed.ranked;
    ended = lawful.agreed.ended;
    looks = lawful.agreed.looks;
    soft = asked_for o.own.soft o.drawn.soft o.cancel_looks lawful.agreed.soft lawful.soft;
    hard = lawful.agreed.hard;
  };
  looks = lawful.looks;
  soft = λ h. absurd (true≢false h);
  hard = lawful.hard;
  unseated = lawful.unseated;
}
ask_lawful Hard o lawful = record {
  agreed = record {
    life = lawful.agreed.life;
    ranked = lawful.agreed.ranked;
    ended = lawful.agreed.ended;
    looks = lawful.agreed.looks;
    soft = lawful.agreed.soft;
    hard = asked_for o.own.hard o.drawn.hard o.cancel_looks lawful.agreed.hard lawful.hard;
  };
  looks = lawful.looks;
  soft = lawful.soft;
  hard = λ h. absurd (true≢false h);
  unseated = lawful.unseated;
}

ask_parts : (kind : CancelKind) (b : DrawnFacts) (found : ℕ) → ((asked_by kind b found).number ≡ b.number) × ((asked_by kind b found).seated ≡ b.seated) × ((asked_by kind b found).soft.asked ≡ soft_after kind b.soft.asked) × ((asked_by kind b found).hard.asked ≡ hard_after kind b.hard.asked)
ask_parts Soft b found = (refl, refl, refl, refl)
ask_parts Hard b found = (refl, refl, refl, refl)

-- the seat that drew a lane asks it to end
pub asks_step : (id slots : ℕ) (v : View) (c : List (ℕ × Unit {0})) (l : ℕ) (kind : CancelKind) → l < most → has_drawn v l ≡ true
    → Allows Kept slots id (v, c) (cancel_place l) (λ n. bit_or n (bit_of kind)) (Asks (step slots (cancel_place l) (bit_of kind) 0 none) (v, c))
asks_step id slots v c l kind low there s kept len at lt =
    let past = kept.0 in
    let k = kept.1 in
    let shown = shown_number past id v (k.shows id v at) l there in
    let parts = number_parts past id l shown.0 in
    let o = past.lane l in
    let three = bits_small o.drawn.soft.asked o.drawn.hard.asked in
    let found = slice_index s.words (cancel_place l) in
    let is : found ≡ word o.cancel_looks (bits_of o.drawn.soft.asked o.drawn.hard.asked) = k.cancel_words l low in
    let high : found / 256 ≡ o.cancel_looks % turn = ap (λ (n : ℕ). n / 256) is ∙ word_high o.cancel_looks (bits_of o.drawn.soft.asked o.drawn.hard.asked) (omega (arith, three)) in
    let x : Lane = record { own = o.own; drawn = asked_by kind o.drawn (o.cancel_looks % turn); looks = o.looks; cancel_looks = o.cancel_looks } in
    let p = ask_parts kind o.drawn (o.cancel_looks % turn) in
    let told : with_drawn v x.drawn ≡ with_ask v l (kind_of_bit (bit_of kind)) (found / 256) = λ i. with_drawn v (asked_by (sym (kind_of_its_bit kind) i) (sym shown.1 i) (sym high i)) in (
      with_drawn v x.drawn,
      keeps,
      tt,
      (
        put_lane past l x,
        lane_step past s.words s.views k id (with_drawn v x.drawn) l x (cancel_place l) (bit_or found (bit_of kind)) low parts.1
            (inr (refl, ap (λ (n : ℕ). bit_or n (bit_of kind)) is ∙ (word_ask o.cancel_looks kind o.drawn.soft.asked o.drawn.hard.asked ∙ (λ i. word o.cancel_looks (bits_of (sym p.2 i) (sym p.3 i)))), refl))
            (k.named l).0 (p.0 ∙ (k.named l).1)
            (ask_lawful kind o (k.lawful l))
            p.1 refl
            (drawn_views past s.words s.views k id v at l x shown.0 refl p.1 (p.0 ∙ (k.named l).1)),
      ),
      ap (λ (u : View). (u, c)) (subst (λ q. with_drawn v x.drawn ≡ with_ask v q (kind_of_bit (bit_of kind)) (found / 256)) (sym (lane_of_cancel_place l)) told),
    )

-- a look that gives the bit as it is
heard_for : (r : CancelReads) (q : CancelAsks) → IsAskedFor r q → IsAskedFor (heard r q.asked) q
heard_for r q before = record { asked = λ h. h; found = λ h. ap (λ t. cond t r.unset (r.unset + 1) % turn) h ∙ before.found h }

heard_all : (r : CancelReads) (q : CancelAsks) (looks : ℕ) → (q.asked ≡ false → r.unset ≡ looks) → q.asked ≡ false → (heard r q.asked).unset ≡ looks + 1
heard_all r q looks all h = ap (λ t. cond t r.unset (r.unset + 1)) h ∙ ap (λ (n : ℕ). n + 1) (all h)

-- the seat of a lane looks whether it was asked to end
pub hears_step : (id slots : ℕ) (v : View) (c : List (ℕ × Unit {0})) → has_lane v v.own ≡ true
    → Allows Kept slots id (v, c) (cancel_place v.own) (λ n. (n + 256) % 2 ^ 64) (Hears (step slots (cancel_place v.own) 256 0 none) (v, c))
hears_step id slots v c there s kept len at lt =
    let past = kept.0 in
    let k = kept.1 in
    let l = v.own in
    let shown = shown_lane past id v (k.shows id v at) l there in
    let parts = lane_parts past id l shown.0 in
    let seat = k.seated l parts.0 in
    let o = past.lane l in
    let lawful = k.lawful l in
    let soft = o.drawn.soft.asked in
    let hard = o.drawn.hard.asked in
    let three = bits_small soft hard in
    let found = slice_index s.words (cancel_place l) in
    let is : found ≡ word o.cancel_looks (bits_of soft hard) = k.cancel_words l seat.low in
    let code : found % 256 ≡ bits_of soft hard = ap (λ (n : ℕ). n % 256) is ∙ word_low o.cancel_looks (bits_of soft hard) (omega (arith, three)) in
    let soft_is : soft_in (found % 256) ≡ soft = ap soft_in code ∙ soft_of_bits soft hard in
    let hard_is : hard_in (found % 256) ≡ hard = ap hard_in code ∙ hard_of_bits soft hard in
    let x : Lane = record { own = heard_both o.own soft hard; drawn = o.drawn; looks = o.looks; cancel_looks = o.cancel_looks + 1 } in (
      with_lane v x.own,
      keeps,
      tt,
      (
        put_lane past l x,
        lane_step past s.words s.views k id (with_lane v x.own) l x (cancel_place l) ((found + 256) % 2 ^ 64) seat.low seat.drawn
            (inr (refl, ap (λ (n : ℕ). (n + 256) % 2 ^ 64) is ∙ word_look o.cancel_looks (bits_of soft hard) (omega (arith, three)), refl))
            (k.named l).0 (k.named l).1
            (record {
              agreed = record {
                life = lawful.agreed.life;
                ranked = lawful.agreed.ranked;
                ended = lawful.agreed.ended;
                looks = lawful.agreed.looks;
                soft = heard_for o.own.soft o.drawn.soft lawful.agreed.soft;
                hard = heard_for o.own.hard o.drawn.hard lawful.agreed.hard;
              };
              looks = lawful.looks;
              soft = heard_all o.own.soft o.drawn.soft o.cancel_looks lawful.soft;
              hard = heard_all o.own.hard o.drawn.hard o.cancel_looks lawful.hard;
              unseated = λ h. absurd (true≢false (sym parts.0 ∙ h));
            })
            refl refl
            (own_views past s.words s.views k id v at l x shown.0 refl (k.named l).0),
      ),
      (
        λ i. (with_lane v (heard_both (sym shown.1 i) (sym soft_is i) (sym hard_is i)), c),
        omega (arith, code, three),
        (let e = lawful.agreed.soft.asked in λ h. soft_is ∙ e (ap (λ (a : LaneFacts). a.soft.read) (sym shown.1) ∙ h)),
        (let e = lawful.agreed.hard.asked in λ h. hard_is ∙ e (ap (λ (a : LaneFacts). a.hard.read) (sym shown.1) ∙ h)),
      ),
    )

-- the same, as the code calls them

pub sets_at : (id slots : ℕ) (me : Seated) (lane : ℕ) (from to : Status) (a b : ℕ) → lane ≡ me.0.own → has_lane me.0 me.0.own ≡ true → from ≡ (own_lane me.0).status → may_follow from to ≡ true → a ≡ code_of from → b ≡ code_of to
    → Allows Kept slots id me (status_place lane) (λ n. bit_xor n (bit_xor a b)) (Sets (step slots (status_place lane) (bit_xor a b) 0 none) me)
sets_at id slots me lane from to a b own has is may a_is b_is =
    subst (λ (y : ℕ × ℕ). Allows Kept slots id me (status_place y.0) (λ n. bit_xor n y.1) (Sets (step slots (status_place y.0) y.1 0 none) me))
    (λ i. (sym own i, bit_xor (sym a_is i) (sym b_is i)))
    (sets_step id slots me.0 me.1 from to has is may)

pub hears_at : (id slots : ℕ) (me : Seated) (lane : ℕ) → lane ≡ me.0.own → has_lane me.0 me.0.own ≡ true
    → Allows Kept slots id me (cancel_place lane) (λ n. (n + 256) % 2 ^ 64) (Hears (step slots (cancel_place lane) 256 0 none) me)
hears_at id slots me lane own has =
    subst (λ l. Allows Kept slots id me (cancel_place l) (λ n. (n + 256) % 2 ^ 64) (Hears (step slots (cancel_place l) 256 0 none) me)) (sym own) (hears_step id slots me.0 me.1 has)

pub asks_at : (id slots : ℕ) (me : Seated) (lane : ℕ) (kind : CancelKind) (bit : ℕ) → bit ≡ bit_of kind → lane < most → has_drawn me.0 lane ≡ true
    → Allows Kept slots id me (cancel_place lane) (λ n. bit_or n bit) (Asks (step slots (cancel_place lane) bit 0 none) me)
asks_at id slots me lane kind bit is low has =
    subst (λ b. Allows Kept slots id me (cancel_place lane) (λ n. bit_or n b) (Asks (step slots (cancel_place lane) b 0 none) me)) (sym is) (asks_step id slots me.0 me.1 lane kind low has)
