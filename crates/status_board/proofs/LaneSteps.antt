-- One lane changes, one word of it, and what one seat shows of it.
use Rattle.std.proofs.Common.{◌≡◌, ℕ, ◌+◌, ◌*◌, ◌<◌, ◌==◌, ◌≢◌, ◌⊎◌, ⊎_elim, Bool, true, false, List, [], ◌∷◌, length, set, ap, sym, ◌∙◌, arith, ◌&&◌}
use mathlib.Core.Option.{some}
use lib.ListN.{get_elem?}
use Rattle.std.specs.Prelude.{slice_index, slice_set}
use Rattle.std.proofs.lemmas.List.{length-set, get_or-set_same, get_or-set_other}
use Rattle.status_board.specs.declared.view.LaneFacts.{LaneFacts}
use Rattle.status_board.specs.declared.view.DrawnFacts.{DrawnFacts}
use Rattle.status_board.specs.declared.view.View.{View}
use Rattle.status_board.specs.Words.{most, status_place, cancel_place}
use Rattle.status_board.specs.Changes.{with_lane, with_drawn}
use Rattle.status_board.specs.Rule.{Lane, status_word, cancel_word, IsLawful, Past, holds_lane, holds_number, only, Shows, IsPast}
use Rattle.status_board.proofs.Entries.{nat_dec, at_renewed_same, at_renewed_other, put, put_same, put_other, put_part, put_fact}

abbrev pub put_lane : Past → ℕ → Lane → Past
put_lane past l x = record past { lane = put past.lane l x }

-- the same lanes have seats
pub same_holds : (past : Past) (l : ℕ) (x : Lane) → x.drawn.seated ≡ (past.lane l).drawn.seated → (place k : ℕ) → holds_lane (put_lane past l x) place k ≡ holds_lane past place k
same_holds past l x seated place k = ap (λ b. b && (past.holder k == place)) (put_part (λ (y : Lane). y.drawn.seated) past.lane l x k seated)

only_false : {X : Type 0} (b : Bool) (x y : X) → b ≡ false → only b x ≡ only b y
only_false b x y e = ap (λ t. only t x) e ∙ sym (ap (λ t. only t y) e)

-- a view that doesn't have the lane shows the rest of it unchanged
pub shows_own_elsewhere : (past : Past) (l : ℕ) (x : Lane) → x.drawn ≡ (past.lane l).drawn → (place : ℕ) (v : View) → holds_lane past place l ≡ false → Shows past place v → Shows (put_lane past l x) place v
shows_own_elsewhere past l x drawn place v none f =
    let seated = ap (λ (b : DrawnFacts). b.seated) drawn in
    record {
      lanes = λ k. f.lanes k ∙ (⊎_elim
          (λ (h : k ≡ l). only_false (holds_lane past place k) (past.lane k).own (put past.lane l x k).own (ap (holds_lane past place) h ∙ none))
          (λ (h : k ≢ l). ap (λ (y : Lane). only (holds_lane past place k) y.own) (sym (put_other past.lane l x k h)))
          (nat_dec k l) ∙ ap (λ t. only t (put past.lane l x k).own) (sym (same_holds past l x seated place k)));
      drawn = λ n. f.drawn n ∙ ap (only (holds_number past place n)) (sym (put_part (λ (y : Lane). y.drawn) past.lane l x n drawn));
    }

-- the view that has the lane shows it anew
pub shows_own_here : (past : Past) (l : ℕ) (x : Lane) → x.drawn ≡ (past.lane l).drawn → x.own.lane ≡ l → (place : ℕ) (v : View) → holds_lane past place l ≡ true → Shows past place v → Shows (put_lane past l x) place (with_lane v x.own)
shows_own_here past l x drawn name place v has f =
    let seated = ap (λ (b : DrawnFacts). b.seated) drawn in
    record {
      lanes = λ k. ⊎_elim
          (λ (h : k ≡ l). at_renewed_same (λ (a : LaneFacts). a.lane) k x.own v.lanes (name ∙ sym h) ∙ sym (ap (λ t. only t (put past.lane l x k).own) (same_holds past l x seated place k ∙ (ap (holds_lane past place) h ∙ has)) ∙ ap (λ (y : Lane). y.own ∷ []) (put_same past.lane l x k h)))
          (λ (h : k ≢ l). at_renewed_other (λ (a : LaneFacts). a.lane) k x.own v.lanes (λ z. h (sym z ∙ name)) ∙ (f.lanes k ∙ (ap (λ (y : Lane). only (holds_lane past place k) y.own) (sym (put_other past.lane l x k h)) ∙ ap (λ t. only t (put past.lane l x k).own) (sym (same_holds past l x seated place k)))))
          (nat_dec k l);
      drawn = λ n. f.drawn n ∙ ap (only (holds_number past place n)) (sym (put_part (λ (y : Lane). y.drawn) past.lane l x n drawn));
    }

-- the same of what the seat shows that drew the lane
pub shows_drawn_elsewhere : (past : Past) (l : ℕ) (x : Lane) → x.own ≡ (past.lane l).own → x.drawn.seated ≡ (past.lane l).drawn.seated → (place : ℕ) (v : View) → holds_number past place l ≡ false → Shows past place v → Shows (put_lane past l x) place v
shows_drawn_elsewhere past l x own seated place v none f = record {
  lanes = λ k. f.lanes k ∙ (ap (only (holds_lane past place k)) (sym (put_part (λ (y : Lane). y.own) past.lane l x k own)) ∙ ap (λ t. only t (put past.lane l x k).own) (sym (same_holds past l x seated place k)));
  drawn = λ n. f.drawn n ∙ ⊎_elim
      (λ (h : n ≡ l). only_false (holds_number past place n) (past.lane n).drawn (put past.lane l x n).drawn (ap (holds_number past place) h ∙ none))
      (λ (h : n ≢ l). ap (λ (y : Lane). only (holds_number past place n) y.drawn) (sym (put_other past.lane l x n h)))
      (nat_dec n l);
}

pub shows_drawn_here : (past : Past) (l : ℕ) (x : Lane) → x.own ≡ (past.lane l).own → x.drawn.seated ≡ (past.lane l).drawn.seated → x.drawn.number ≡ l → (place : ℕ) (v : View) → holds_number past place l ≡ true → Shows past place v → Shows (put_lane past l x) place (with_drawn v x.drawn)
shows_drawn_here past l x own seated name place v has f = record {
  lanes = λ k. f.lanes k ∙ (ap (only (holds_lane past place k)) (sym (put_part (λ (y : Lane). y.own) past.lane l x k own)) ∙ ap (λ t. only t (put past.lane l x k).own) (sym (same_holds past l x seated place k)));
  drawn = λ n. ⊎_elim
      (λ (h : n ≡ l). at_renewed_same (λ (b : DrawnFacts). b.number) n x.drawn v.drawn (name ∙ sym h) ∙ sym (ap (λ t. only t (put past.lane l x n).drawn) (ap (holds_number past place) h ∙ has) ∙ ap (λ (y : Lane). y.drawn ∷ []) (put_same past.lane l x n h)))
      (λ (h : n ≢ l). at_renewed_other (λ (b : DrawnFacts). b.number) n x.drawn v.drawn (λ z. h (sym z ∙ name)) ∙ (f.drawn n ∙ ap (λ (y : Lane). only (holds_number past place n) y.drawn) (sym (put_other past.lane l x n h))))
      (nat_dec n l);
}

-- the word i becomes n: the lane's status word, or its cancel word
abbrev pub OnStatusWord : Lane → Lane → ℕ → ℕ → ℕ → Type 0
OnStatusWord o x l i n = (i ≡ status_place l) × (n ≡ status_word x) × (cancel_word x ≡ cancel_word o)

abbrev pub OnCancelWord : Lane → Lane → ℕ → ℕ → ℕ → Type 0
OnCancelWord o x l i n = (i ≡ cancel_place l) × (n ≡ cancel_word x) × (status_word x ≡ status_word o)

abbrev pub Rewrites : Lane → Lane → ℕ → ℕ → ℕ → Type 0
Rewrites o x l i n = OnStatusWord o x l i n ⊎ OnCancelWord o x l i n

module _ (words : List ℕ) (lane : ℕ → Lane) (l : ℕ) (x : Lane) (i n : ℕ) (long : length words ≡ 1 + 2 * most) (low : l < most) (change : Rewrites (lane l) x l i n) where
  not_first : i ≢ 0
  not_first e = ⊎_elim
      (λ (h : OnStatusWord (lane l) x l i n). (let z = h.0 in omega (arith, z, e)))
      (λ (h : OnCancelWord (lane l) x l i n). (let z = h.0 in omega (arith, z, e)))
      change

  inside : i < length words
  inside = ⊎_elim
      (λ (h : OnStatusWord (lane l) x l i n). (let z = h.0 in omega (arith, z, long, low)))
      (λ (h : OnCancelWord (lane l) x l i n). (let z = h.0 in omega (arith, z, long, low)))
      change

  here : slice_index (slice_set words i n) i ≡ n
  here = get_or-set_same words i n 0 inside

  there : (q : ℕ) → q ≢ i → slice_index (slice_set words i n) q ≡ slice_index words q
  there q e = get_or-set_other words i q n 0 e

  pub first_stays : slice_index (slice_set words i n) 0 ≡ slice_index words 0
  first_stays = there 0 (λ e. not_first (sym e))

  pub status_words_after : ((k : ℕ) → k < most → slice_index words (status_place k) ≡ status_word (lane k))
      → (k : ℕ) → k < most → slice_index (slice_set words i n) (status_place k) ≡ status_word (put lane l x k)
  status_words_after before = put_fact (λ k y. k < most → slice_index (slice_set words i n) (status_place k) ≡ status_word y) lane l x
      (λ lt. ⊎_elim
      (λ (h : OnStatusWord (lane l) x l i n). ap (slice_index (slice_set words i n)) (sym h.0) ∙ (here ∙ h.1))
      (λ (h : OnCancelWord (lane l) x l i n). (
      let z = h.0 in there (status_place l) (λ e. omega (arith, z, e)) ∙ (before l lt ∙ sym h.2)))
      change)
      (λ k apart lt. there (status_place k) (λ e. ⊎_elim
      (λ (h : OnStatusWord (lane l) x l i n). (let z = h.0 in apart (omega (arith, z, e))))
      (λ (h : OnCancelWord (lane l) x l i n). (let z = h.0 in omega (arith, z, e)))
      change) ∙ before k lt)

  pub cancel_words_after : ((k : ℕ) → k < most → slice_index words (cancel_place k) ≡ cancel_word (lane k))
      → (k : ℕ) → k < most → slice_index (slice_set words i n) (cancel_place k) ≡ cancel_word (put lane l x k)
  cancel_words_after before = put_fact (λ k y. k < most → slice_index (slice_set words i n) (cancel_place k) ≡ cancel_word y) lane l x
      (λ lt. ⊎_elim
      (λ (h : OnStatusWord (lane l) x l i n). (
      let z = h.0 in there (cancel_place l) (λ e. omega (arith, z, e)) ∙ (before l lt ∙ sym h.2)))
      (λ (h : OnCancelWord (lane l) x l i n). ap (slice_index (slice_set words i n)) (sym h.0) ∙ (here ∙ h.1))
      change)
      (λ k apart lt. there (cancel_place k) (λ e. ⊎_elim
      (λ (h : OnStatusWord (lane l) x l i n). (let z = h.0 in omega (arith, z, e)))
      (λ (h : OnCancelWord (lane l) x l i n). (let z = h.0 in apart (omega (arith, z, e))))
      change) ∙ before k lt)

-- the rule, where one word of a lane changes and the views are given
pub lane_step : (past : Past) (words : List ℕ) (views : List View) → IsPast past words views → (id : ℕ) (w : View) (l : ℕ) (x : Lane) (i n : ℕ)
    → l < most → l < past.next → Rewrites (past.lane l) x l i n → x.own.lane ≡ l → x.drawn.number ≡ l → IsLawful x
    → x.drawn.seated ≡ (past.lane l).drawn.seated → x.own.over ≡ (past.lane l).own.over
    → ((place : ℕ) (v : View) → get_elem? (set views id w) place ≡ some v → Shows (put_lane past l x) place v)
    → IsPast (put_lane past l x) (slice_set words i n) (set views id w)
lane_step past words views k id w l x i n low drawn change name number lawful seated over shows = record {
  length_is = length-set words i n ∙ k.length_is;
  number_word = first_stays words past.lane l x i n k.length_is low change ∙ k.number_word;
  status_words = status_words_after words past.lane l x i n k.length_is low change k.status_words;
  cancel_words = cancel_words_after words past.lane l x i n k.length_is low change k.cancel_words;
  begun = k.begun;
  named = put_fact (λ q y. (y.own.lane ≡ q) × (y.drawn.number ≡ q)) past.lane l x (name, number) (λ q _. k.named q);
  lawful = put_fact (λ q y. IsLawful y) past.lane l x lawful (λ q _. k.lawful q);
  fresh = λ q le. ap (λ (y : Lane). y.drawn) (put_other past.lane l x q (λ e. omega (arith, e, le, drawn))) ∙ k.fresh q le;
  seated = λ q has. (
      let s = k.seated q (sym (put_part (λ (y : Lane). y.drawn.seated) past.lane l x q seated) ∙ has) in
      record { low = s.low; drawn = s.drawn; held = (let h = s.held in let e = length-set views id w in omega (arith, h, e)) });
  draws = λ q pos lt. (
      let d = k.draws q pos lt in
      record {
        lesser = d.lesser;
        seated = put_part (λ (y : Lane). y.drawn.seated) past.lane l x (past.drawer q) seated ∙ d.seated;
        kept = λ le. put_part (λ (y : Lane). y.own.over) past.lane l x (past.drawer q) over ∙ d.kept le;
      });
  shows = shows;
}
