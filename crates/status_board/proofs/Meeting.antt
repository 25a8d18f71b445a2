-- Seats are made, taken in and compared.
use Rattle.std.proofs.Common.{◌≡◌, ℕ, ◌+◌, ◌-◌, ◌/◌, ◌<◌, ◌==◌, ◌≢◌, ⊎_elim, Bool, true, false, true≢false, List, [], ◌∷◌, ◌++◌, length, set, refl, ap, sym, ◌∙◌, subst, arith, cond, ltb, ◌&&◌, eq-eqb, ne_eqb, append-nil}
use mathlib.Core.Option.{some, none}
use lib.ListN.{get_elem?}
use Rattle.std.specs.Prelude.{slice_index, slice_set, filter, not}
use Rattle.std.proofs.lemmas.Bool.{and_left, and_right, false_from_ne_true, and_parts, ltb-true}
use Rattle.std.proofs.lemmas.List.{length-set, length-append, set-get_or}
use Rattle.std.proofs.lemmas.List.Elements.{filter-append}
use Rattle.atomic_table.specs.Table.{step, Allows, Splits, Joins}
use Rattle.atomic_table.specs.Table.Act.{keeps}
use Rattle.atomic_table.proofs.Lists.{set_else}
use Rattle.status_board.specs.declared.view.LaneFacts.{LaneFacts}
use Rattle.status_board.specs.declared.view.DrawnFacts.{DrawnFacts}
use Rattle.status_board.specs.declared.view.View.{View}
use Rattle.status_board.specs.Words.{most, status_place, cancel_place}
use Rattle.status_board.specs.Views.{is_filled, first_or, new_lane, lanes_at, drawn_at, has_lane, has_drawn, drawn_of, newcomer, nobody, new_drawn}
use Rattle.status_board.specs.Changes.{with_drawn, met}
use Rattle.status_board.specs.Rule.{Lane, status_word, cancel_word, IsLawful, Past, holds_lane, holds_number, only, Shows, IsPast, Kept}
use Rattle.status_board.specs.Steps.{Seated, Chooses, Compares, left_of, right_of, first_seated, first_number}
use Rattle.status_board.proofs.Entries.{nat_dec, at, at_renewed_same, at_renewed_other, at_first_same, at_first_other, at_lt, at_end, each_set, put, put_same, put_other, put_part, put_fact}
use Rattle.status_board.proofs.WordLemmas.{lane_of_status_place}
use Rattle.status_board.proofs.SeatLemmas.{drawn_name}
use Rattle.status_board.proofs.Shown.{shown_number, lane_not_shown, lane_parts, lane_held, lane_elsewhere, number_parts, number_elsewhere, shown_once, agrees_now, numbers_now}

-- a load leaves the words
same_words : (words : List ℕ) (i : ℕ) → slice_set words i (slice_index words i) ≡ words
same_words words i = set-get_or words i 0

-- the rule stays where one view is another that shows the same
renewed_view : (past : Past) (words : List ℕ) (views : List View) → IsPast past words views → (id i : ℕ) (w : View) → Shows past id w → IsPast past (slice_set words i (slice_index words i)) (set views id w)
renewed_view past words views k id i w mine = record {
  length_is = ap length (same_words words i) ∙ k.length_is;
  number_word = ap (λ ws. slice_index ws 0) (same_words words i) ∙ k.number_word;
  status_words = λ q lt. ap (λ ws. slice_index ws (status_place q)) (same_words words i) ∙ k.status_words q lt;
  cancel_words = λ q lt. ap (λ ws. slice_index ws (cancel_place q)) (same_words words i) ∙ k.cancel_words q lt;
  begun = k.begun;
  named = k.named;
  lawful = k.lawful;
  fresh = k.fresh;
  seated = λ q h. (let s = k.seated q h in record { low = s.low; drawn = s.drawn; held = (let z = s.held in let e = length-set views id w in omega (arith, z, e)) });
  draws = k.draws;
  shows = each_set (Shows past) views id w (λ j u apart e. k.shows j u e) mine;
}

-- what a view shows of a number that it has, put first, is shown as before
put_first : (past : Past) (place : ℕ) (v : View) (l : ℕ) → ((past.lane l).drawn.number ≡ l) → Shows past place v → has_drawn v l ≡ true → Shows past place (with_drawn v (drawn_of v l))
put_first past place v l name f there =
    let shown = shown_number past place v f l there in
    let key : (drawn_of v l).number ≡ l = ap (λ (b : DrawnFacts). b.number) shown.1 ∙ name in
    record {
      lanes = f.lanes;
      drawn = λ n. ⊎_elim
          (λ (h : n ≡ l). at_renewed_same (λ (b : DrawnFacts). b.number) n (drawn_of v l) v.drawn (key ∙ sym h) ∙ (ap (λ (b : DrawnFacts). b ∷ []) (shown.1 ∙ ap (λ m. (past.lane m).drawn) (sym h)) ∙ ap (λ t. only t (past.lane n).drawn) (sym (ap (holds_number past place) h ∙ shown.0))))
          (λ (h : n ≢ l). at_renewed_other (λ (b : DrawnFacts). b.number) n (drawn_of v l) v.drawn (λ z. h (sym z ∙ key)) ∙ f.drawn n)
          (nat_dec n l);
    }

pub chooses_step : (id slots : ℕ) (v : View) (c : List (ℕ × Unit {0})) (l : ℕ) → has_drawn v l ≡ true → (drawn_of v l).seated ≡ false
    → Allows Kept slots id (v, c) (status_place l) (λ n. n) (Chooses (step slots (status_place l) 0 0 none) (v, c))
chooses_step id slots v c l there unseated s kept len at lt =
    let past = kept.0 in
    let k = kept.1 in
    let f = k.shows id v at in
    let shown = shown_number past id v f l there in
    let parts = number_parts past id l shown.0 in
    let none_has : has_lane v l ≡ false = lane_not_shown past id v f l (and_left (past.lane l).drawn.seated (past.holder l == id) (ap (λ (b : DrawnFacts). b.seated) (sym shown.1) ∙ unseated)) in
    let w : View = with_drawn v (drawn_of v l) in
    let Told : ℕ → Type 0 = λ q. (w ≡ with_drawn v (drawn_of v q)) × (0 < q) × (has_lane v q ≡ false) in
    let told : Told ((status_place l - 1) / 2) = subst Told (sym (lane_of_status_place l)) (refl, parts.0, none_has) in (
      w,
      keeps,
      tt,
      (past, renewed_view past s.words s.views k id (status_place l) w (put_first past id v l (k.named l).1 f there)),
      (ap (λ (u : View). (u, c)) told.0, told.1, told.2),
    )

-- the lane gets a seat, which a new view has
abbrev pub seat_lane : Past → ℕ → ℕ → Past
seat_lane past l new = record {
  next = past.next;
  lane = put past.lane l (record (past.lane l) { drawn = record (past.lane l).drawn { seated = true } });
  drawer = past.drawer;
  holder = put past.holder l new;
}

module _ (past : Past) (words : List ℕ) (views : List View) (k : IsPast past words views) (l new : ℕ) (free : (past.lane l).drawn.seated ≡ false) (new_is : new ≡ length views) where
  -- no number was drawn by a lane without a seat
  same_drawer : (n : ℕ) → 0 < n → n < past.next → (put past.holder l new) (past.drawer n) ≡ past.holder (past.drawer n)
  same_drawer n pos lt = put_other past.holder l new (past.drawer n) (λ e. true≢false (sym (k.draws n pos lt).seated ∙ (ap (λ q. (past.lane q).drawn.seated) e ∙ free)))

  pub same_numbers : (place n : ℕ) → holds_number (seat_lane past l new) place n ≡ holds_number past place n
  same_numbers place n = elim (ltb 0 n && ltb n past.next) as (λ b. (ltb 0 n && ltb n past.next) ≡ b → (b && (put past.holder l new (past.drawer n) == place)) ≡ (b && (past.holder (past.drawer n) == place))) [
    | true ↦ λ e. (let p = and_parts (ltb 0 n) (ltb n past.next) e in ap (λ q. q == place) (same_drawer n (ltb-true 0 n p.0) (ltb-true n past.next p.1)))
    | false ↦ λ e. refl
  ] refl

  -- the views that were there have the same lanes as before
  pub same_lanes : (place q : ℕ) → place < length views → holds_lane (seat_lane past l new) place q ≡ holds_lane past place q
  same_lanes place q lt = ⊎_elim
      (λ (h : q ≡ l). lane_elsewhere (seat_lane past l new) place q (λ z. (let e : new ≡ place = sym (put_same past.holder l new q h) ∙ z in omega (arith, e, new_is, lt)))
      ∙ sym (and_left (past.lane q).drawn.seated (past.holder q == place) (ap (λ n. (past.lane n).drawn.seated) h ∙ free)))
      (λ (h : q ≢ l). λ i. (put_other past.lane l (record (past.lane l) { drawn = record (past.lane l).drawn { seated = true } }) q h i).drawn.seated && (put_other past.holder l new q h i == place))
      (nat_dec q l)

  own_stays : (q : ℕ) → ((seat_lane past l new).lane q).own ≡ (past.lane q).own
  own_stays q = put_part (λ (y : Lane). y.own) past.lane l (record (past.lane l) { drawn = record (past.lane l).drawn { seated = true } }) q refl

  pub lanes_stay : (place : ℕ) (v : View) → place < length views → Shows past place v → (q : ℕ) → lanes_at v q ≡ only (holds_lane (seat_lane past l new) place q) ((seat_lane past l new).lane q).own
  lanes_stay place v lt f q = f.lanes q ∙ (λ i. only (sym (same_lanes place q lt) i) (sym (own_stays q) i))

  pub shows_elsewhere : (place : ℕ) (v : View) → place < length views → holds_number past place l ≡ false → Shows past place v → Shows (seat_lane past l new) place v
  shows_elsewhere place v lt absent f = record {
    lanes = lanes_stay place v lt f;
    drawn = λ n. f.drawn n ∙ (⊎_elim
        (λ (h : n ≡ l). (let e = ap (holds_number past place) h ∙ absent in ap (λ t. only t (past.lane n).drawn) e ∙ sym (ap (λ t. only t ((seat_lane past l new).lane n).drawn) e)))
        (λ (h : n ≢ l). ap (λ (y : Lane). only (holds_number past place n) y.drawn) (sym (put_other past.lane l (record (past.lane l) { drawn = record (past.lane l).drawn { seated = true } }) n h)))
        (nat_dec n l) ∙ ap (λ t. only t ((seat_lane past l new).lane n).drawn) (sym (same_numbers place n)));
  }

  pub shows_newcomer : (past.lane l).own ≡ new_lane l → Shows (seat_lane past l new) new (newcomer l)
  shows_newcomer own = record {
    lanes = λ q. ⊎_elim
        (λ (h : q ≡ l). at_first_same (λ (a : LaneFacts). a.lane) q (new_lane l) [] (sym h) ∙ sym (
        ap (λ t. only t ((seat_lane past l new).lane q).own) (lane_held (seat_lane past l new) new q (ap (λ (y : Lane). y.drawn.seated) (put_same past.lane l (record (past.lane l) { drawn = record (past.lane l).drawn { seated = true } }) q h)) (put_same past.holder l new q h))
        ∙ ap (λ (a : LaneFacts). a ∷ []) (own_stays q ∙ (ap (λ n. (past.lane n).own) h ∙ own))))
        (λ (h : q ≢ l). at_first_other (λ (a : LaneFacts). a.lane) q (new_lane l) [] (λ z. h (sym z)) ∙ sym (ap (λ t. only t ((seat_lane past l new).lane q).own)
        (false_from_ne_true (holds_lane (seat_lane past l new) new q) (λ z. (
        let p = lane_parts (seat_lane past l new) new q z in
        let seated : (past.lane q).drawn.seated ≡ true = ap (λ (y : Lane). y.drawn.seated) (sym (put_other past.lane l (record (past.lane l) { drawn = record (past.lane l).drawn { seated = true } }) q h)) ∙ p.0 in
        let held = (k.seated q seated).held in
        let here : past.holder q ≡ new = sym (put_other past.holder l new q h) ∙ p.1 in
        omega (arith, held, here, new_is))))))
        (nat_dec q l);
    drawn = λ n. sym (ap (λ t. only t ((seat_lane past l new).lane n).drawn) (same_numbers new n ∙ false_from_ne_true (holds_number past new n) (λ z. (
        let p = number_parts past new n z in
        let d = k.draws n p.0 p.1 in
        let held = (k.seated (past.drawer n) d.seated).held in
        let here = p.2 in
        omega (arith, held, here, new_is)))));
  }

abbrev tail : List DrawnFacts → List DrawnFacts
tail [] = []
tail (c ∷ cs) = cs

-- the number that a view shows first gets a seat
shows_seated : (past : Past) (words : List ℕ) (views : List View) (k : IsPast past words views) (l new place : ℕ) (free : (past.lane l).drawn.seated ≡ false) (new_is : new ≡ length views) (v : View) (b : DrawnFacts) (bs : List DrawnFacts)
    → v.drawn ≡ b ∷ bs → b.number ≡ l → place < length views → Shows past place v → Shows (seat_lane past l new) place (left_of v)
shows_seated past words views k l new place free new_is v b bs are name lt f =
    let key : DrawnFacts → ℕ = λ c. c.number in
    let x : DrawnFacts = record (past.lane l).drawn { seated = true } in
    let here : (b ∷ at key l bs) ≡ only (holds_number past place l) (past.lane l).drawn = sym (at_first_same key l b bs name) ∙ (ap (at key l) (sym are) ∙ f.drawn l) in
    let both : (holds_number past place l ≡ true) × (b ≡ (past.lane l).drawn) × (at key l bs ≡ []) = elim (holds_number past place l) as (λ t. (b ∷ at key l bs) ≡ only t (past.lane l).drawn → (t ≡ true) × (b ≡ (past.lane l).drawn) × (at key l bs ≡ [])) [
      | true ↦ λ e. (refl, ap (first_or b) e, ap tail e)
      | false ↦ λ e. absurd (true≢false (ap is_filled e))
    ] here in
    record {
      lanes = lanes_stay past words views k l new free new_is place v lt f;
      drawn = λ n. ap (λ bs. at key n (first_seated bs)) are ∙ ⊎_elim
          (λ (h : n ≡ l). at_first_same key n (record b { seated = true }) bs (name ∙ sym h) ∙ (
          (λ i. record (both.1 i) { seated = true } ∷ (ap (λ m. at key m bs) h ∙ both.2) i)
          ∙ sym (ap (λ t. only t ((seat_lane past l new).lane n).drawn) (same_numbers past words views k l new free new_is place n ∙ (ap (holds_number past place) h ∙ both.0))
          ∙ ap (λ (y : Lane). y.drawn ∷ []) (put_same past.lane l (record (past.lane l) { drawn = x }) n h))))
          (λ (h : n ≢ l). at_first_other key n (record b { seated = true }) bs (λ z. h (sym z ∙ name)) ∙ (sym (at_first_other key n b bs (λ z. h (sym z ∙ name))) ∙ (ap (at key n) (sym are) ∙ (f.drawn n ∙ (
          ap (λ (y : Lane). only (holds_number past place n) y.drawn) (sym (put_other past.lane l (record (past.lane l) { drawn = x }) n h))
          ∙ ap (λ t. only t ((seat_lane past l new).lane n).drawn) (sym (same_numbers past words views k l new free new_is place n)))))))
          (nat_dec n l);
    }

pub splits_step : (id : ℕ) (v : View) (b : DrawnFacts) (bs : List DrawnFacts) → v.drawn ≡ b ∷ bs → b.seated ≡ false → b.number < most → Splits Kept id v (left_of v) (right_of v)
splits_step id v b bs are unseated low s kept at_id =
    let past = kept.0 in
    let k = kept.1 in
    let f = k.shows id v at_id in
    let l = b.number in
    let key : DrawnFacts → ℕ = λ c. c.number in
    let at_l : drawn_at v l ≡ b ∷ at key l bs = ap (at key l) are ∙ at_first_same key l b bs refl in
    let there : has_drawn v l ≡ true = ap is_filled at_l in
    let first : drawn_of v l ≡ b = ap (first_or (new_drawn l)) at_l in
    let shown = shown_number past id v f l there in
    let parts = number_parts past id l shown.0 in
    let free : (past.lane l).drawn.seated ≡ false = ap (λ (c : DrawnFacts). c.seated) (sym shown.1 ∙ first) ∙ unseated in
    let lawful = k.lawful l in
    let still = lawful.unseated free in
    let own : (past.lane l).own ≡ new_lane l = still.0 ∙ ap new_lane (k.named l).0 in
    let left : View = left_of v in
    let new = length (set s.views id left) in
    let new_is : new ≡ length s.views = length-set s.views id left in
    let x : Lane = record (past.lane l) { drawn = record (past.lane l).drawn { seated = true } } in
    let inside = at_lt s.views id v at_id in
    let right_is : right_of v ≡ newcomer l = ap (λ bs. newcomer (first_number bs)) are in
    let longer : length (set s.views id left ++ right_of v ∷ []) ≡ length s.views + 1 = length-append (set s.views id left) (right_of v ∷ []) ∙ omega (arith, new_is) in (
      seat_lane past l new,
      record {
        length_is = k.length_is;
        number_word = k.number_word;
        status_words = λ q lt. k.status_words q lt ∙ sym (put_part (λ (y : Lane). status_word y) past.lane l x q refl);
        cancel_words = λ q lt. k.cancel_words q lt ∙ sym (put_part (λ (y : Lane). cancel_word y) past.lane l x q refl);
        begun = k.begun;
        named = put_fact (λ q y. (y.own.lane ≡ q) × (y.drawn.number ≡ q)) past.lane l x (k.named l) (λ q _. k.named q);
        lawful = put_fact (λ q y. IsLawful y) past.lane l x
            (record {
              agreed = record { life = lawful.agreed.life; ranked = lawful.agreed.ranked; ended = lawful.agreed.ended; looks = lawful.agreed.looks; soft = lawful.agreed.soft; hard = lawful.agreed.hard };
              looks = lawful.looks;
              soft = lawful.soft;
              hard = lawful.hard;
              unseated = λ h. absurd (true≢false h);
            })
            (λ q _. k.lawful q);
        fresh = λ q le. ap (λ (y : Lane). y.drawn) (put_other past.lane l x q (λ z. (let y = parts.1 in omega (arith, z, y, le)))) ∙ k.fresh q le;
        seated = λ q has. ⊎_elim
            (λ (h : q ≡ l). record { low = omega (arith, h, low); drawn = (let y = parts.1 in omega (arith, h, y)); held = (let y = put_same past.holder l new q h in omega (arith, y, longer, new_is)) })
            (λ (h : q ≢ l). (
            let o = k.seated q (ap (λ (y : Lane). y.drawn.seated) (sym (put_other past.lane l x q h)) ∙ has) in
            record { low = o.low; drawn = o.drawn; held = (let y = o.held in let z = put_other past.holder l new q h in omega (arith, y, z, longer)) }))
            (nat_dec q l);
        draws = λ q pos lt. (
            let d = k.draws q pos lt in
            record {
              lesser = d.lesser;
              seated = put_fact (λ m y. (past.lane m).drawn.seated ≡ true → y.drawn.seated ≡ true) past.lane l x (λ _. refl) (λ m _ e. e) (past.drawer q) d.seated;
              kept = λ le. put_part (λ (y : Lane). y.own.over) past.lane l x (past.drawer q) refl ∙ d.kept le;
            });
        shows = λ j u e. ⊎_elim
            (λ (h : get_elem? (set s.views id left) j ≡ some u). each_set (Shows (seat_lane past l new)) s.views id left
            (λ j u apart e. shows_elsewhere past s.words s.views k l new free new_is j u (at_lt s.views j u e) (number_elsewhere past j l (λ z. apart (sym z ∙ parts.2))) (k.shows j u e))
            (shows_seated past s.words s.views k l new id free new_is v b bs are refl inside f)
            j u h)
            (λ (h : (j ≡ length (set s.views id left)) × (right_of v ≡ u)). subst (λ (y : ℕ × View). Shows (seat_lane past l new) y.0 y.1) (λ i. (sym h.0 i, (sym right_is ∙ h.1) i)) (shows_newcomer past s.words s.views k l new free new_is own))
            (at_end (set s.views id left) (right_of v) u j e);
      },
    )

-- the lanes of one view become another's
abbrev pub moved : ℕ → ℕ → ℕ → ℕ
moved id other place = cond (place == other) id place

abbrev pub join_views : Past → ℕ → ℕ → Past
join_views past id other = record past { holder = λ l. moved id other (past.holder l) }

module _ (id other : ℕ) (apart : other ≢ id) where
  moved_there : (p : ℕ) → p ≡ other → moved id other p ≡ id
  moved_there p e = ap (λ t. cond t id p) (eq-eqb p other e)

  moved_not : (p : ℕ) → p ≢ other → moved id other p ≡ p
  moved_not p e = ap (λ t. cond t id p) (ne_eqb p other e)

  -- what the one view has and what the other has is what the joined one has
  pub joined : {X : Type 0} (b : Bool) (p : ℕ) (x : X) → only (b && (p == id)) x ++ only (b && (p == other)) x ≡ only (b && (moved id other p == id)) x
  joined false p x = refl
  joined true p x = ⊎_elim
      (λ (h : p ≡ other). (λ i. only (ne_eqb p id (λ z. apart (sym h ∙ z)) i) x ++ only (eq-eqb p other h i) x) ∙ sym (ap (λ t. only t x) (eq-eqb (moved id other p) id (moved_there p h))))
      (λ (h : p ≢ other). (λ i. only (p == id) x ++ only (ne_eqb p other h i) x) ∙ (append-nil (only (p == id) x) ∙ ap (λ q. only (q == id) x) (sym (moved_not p h))))
      (nat_dec p other)

  pub left_empty : {X : Type 0} (b : Bool) (p : ℕ) (x : X) → [] ≡ only (b && (moved id other p == other)) x
  left_empty b p x = sym (ap (λ t. only t x) (and_right b (moved id other p == other) (ne_eqb (moved id other p) other (λ z. ⊎_elim
      (λ (h : p ≡ other). apart (sym z ∙ moved_there p h))
      (λ (h : p ≢ other). h (sym (moved_not p h) ∙ z))
      (nat_dec p other)))))

  pub unmoved : (b : Bool) (p place : ℕ) → place ≢ id → place ≢ other → (b && (p == place)) ≡ (b && (moved id other p == place))
  unmoved b p place ne ne' = ap (λ t. b && t) (⊎_elim
      (λ (h : p ≡ other). ne_eqb p place (λ z. ne' (sym z ∙ h)) ∙ sym (ne_eqb (moved id other p) place (λ z. ne (sym z ∙ moved_there p h))))
      (λ (h : p ≢ other). ap (λ q. q == place) (sym (moved_not p h)))
      (nat_dec p other))

pub joins_step : (id : ℕ) (v : View) (other : ℕ) (w : View) → Joins Kept id v other w (met v w) nobody
joins_step id v other w s kept at_id apart there =
    let past = kept.0 in
    let k = kept.1 in
    let there' : get_elem? s.views other ≡ some w = sym (set_else s.views id other (met v w) apart) ∙ there in
    let f = k.shows id v at_id in
    let g = k.shows other w there' in
    let past' = join_views past id other in
    let both : View = met v w in
    let views = set s.views id both in
    let inside = at_lt s.views id v at_id in
    let longer : length (set views other nobody) ≡ length s.views = length-set views other nobody ∙ length-set s.views id both in
    let in_range : ℕ → Bool = λ n. ltb 0 n && ltb n past.next in
    let mine : Shows past' id both = record {
      lanes = λ l. filter-append (λ (a : LaneFacts). a.lane == l) v.lanes w.lanes ∙ ((λ i. f.lanes l i ++ g.lanes l i) ∙ joined id other apart (past.lane l).drawn.seated (past.holder l) (past.lane l).own);
      drawn = λ n. filter-append (λ (b : DrawnFacts). b.number == n) v.drawn w.drawn ∙ ((λ i. f.drawn n i ++ g.drawn n i) ∙ joined id other apart (in_range n) (past.holder (past.drawer n)) (past.lane n).drawn);
    } in
    let spent : Shows past' other nobody = record {
      lanes = λ l. left_empty id other apart (past.lane l).drawn.seated (past.holder l) (past.lane l).own;
      drawn = λ n. left_empty id other apart (in_range n) (past.holder (past.drawer n)) (past.lane n).drawn;
    } in
    let others : (j : ℕ) (u : View) → j ≢ id → j ≢ other → get_elem? s.views j ≡ some u → Shows past' j u = λ j u ne ne' e. (
    let h = k.shows j u e in
    record {
      lanes = λ l. h.lanes l ∙ ap (λ t. only t (past.lane l).own) (unmoved id other apart (past.lane l).drawn.seated (past.holder l) j ne ne');
      drawn = λ n. h.drawn n ∙ ap (λ t. only t (past.lane n).drawn) (unmoved id other apart (in_range n) (past.holder (past.drawer n)) j ne ne');
    }) in (
      past',
      record {
        length_is = k.length_is;
        number_word = k.number_word;
        status_words = k.status_words;
        cancel_words = k.cancel_words;
        begun = k.begun;
        named = k.named;
        lawful = k.lawful;
        fresh = k.fresh;
        seated = λ q has. (
            let o = k.seated q has in
            let y = o.held in
            record {
              low = o.low;
              drawn = o.drawn;
              held = ⊎_elim
                  (λ (h : past.holder q ≡ other). (let z = moved_there id other apart (past.holder q) h in omega (arith, z, inside, longer)))
                  (λ (h : past.holder q ≢ other). (let z = moved_not id other apart (past.holder q) h in omega (arith, z, y, longer)))
                  (nat_dec (past.holder q) other);
            });
        draws = λ q pos lt. (let d = k.draws q pos lt in record { lesser = d.lesser; seated = d.seated; kept = d.kept });
        shows = each_set (Shows past') views other nobody
            (λ j u ne e. each_set (λ i y. i ≢ other → Shows past' i y) s.views id both (λ i y n e' n'. others i y n n' e') (λ _. mine) j u e ne)
            spent;
      },
    )

-- a load that compares what the seat shows
pub compares_step : (id slots : ℕ) (v : View) (c : List (ℕ × Unit {0})) → Allows Kept slots id (v, c) 0 (λ n. n) (Compares (step slots 0 0 0 none) (v, c))
compares_step id slots v c s kept len at_id lt =
    let past = kept.0 in
    let k = kept.1 in
    let f = k.shows id v at_id in (
      v,
      keeps,
      tt,
      (past, renewed_view past s.words s.views k id 0 v f),
      (refl, shown_once past id v f, agrees_now past s.words s.views k id v f, numbers_now past s.words s.views k id v f),
    )

-- the same, as the code calls it: the lane was put first

pub chosen : (me after : Seated) (l : ℕ) → Chooses (step 0 (status_place l) 0 0 none) me 0 after → after ≡ (with_drawn me.0 (drawn_of me.0 l), me.1)
chosen me after l told = told.0 ∙ ap (λ q. (with_drawn me.0 (drawn_of me.0 q), me.1)) (lane_of_status_place l)

pub splits_at : (id : ℕ) (me after : Seated) (l : ℕ) → Chooses (step 0 (status_place l) 0 0 none) me 0 after → l < most → (drawn_of me.0 l).seated ≡ false → Splits Kept id after.0 (left_of after.0) (right_of after.0)
splits_at id me after l told low unseated =
    subst (λ (u : Seated). Splits Kept id u.0 (left_of u.0) (right_of u.0)) (sym (chosen me after l told))
    (splits_step id (with_drawn me.0 (drawn_of me.0 l)) (drawn_of me.0 l) (filter (λ c. not (c.number == (drawn_of me.0 l).number)) me.0.drawn) refl unseated (let e = drawn_name me.0 l in omega (arith, e, low)))

pub newcomer_at : (me after new : Seated) (l : ℕ) → Chooses (step 0 (status_place l) 0 0 none) me 0 after → new ≡ (right_of after.0, []) → new ≡ (newcomer l, [])
newcomer_at me after new l told is = is ∙ (ap (λ (u : Seated). (right_of u.0, [])) (chosen me after l told) ∙ ap (λ q. (newcomer q, [])) (drawn_name me.0 l))
