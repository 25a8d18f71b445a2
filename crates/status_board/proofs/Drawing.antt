-- A number is drawn.
use Rattle.std.proofs.Common.{◌≡◌, ℕ, zero, suc, ◌+◌, ◌-◌, ◌%◌, ◌^◌, ◌<◌, ◌≤◌, ◌==◌, ◌≢◌, ⊎_elim, true, false, true≢false, List, [], ◌∷◌, set, refl, ap, sym, ◌∙◌, arith, cond, ltb, ◌&&◌}
use mathlib.Core.Option.{some, none}
use lib.ListN.{get_elem?}
use Rattle.std.specs.Prelude.{slice_index, slice_set}
use Rattle.std.proofs.lemmas.Bool.{lt-ltb, le-ltb, ltb-true, ltb-false, false_from_ne_true}
use Rattle.std.proofs.lemmas.List.{length-set, get_or-set_same, get_or-set_other}
use Rattle.std.proofs.Math.Nat.{mod-eq_of_lt}
use Rattle.atomic_table.specs.Table.{Act, step, Allows, Valid, stepped, carried_after}
use Rattle.atomic_table.specs.Table.Act.{keeps}
use Rattle.atomic_table.proofs.Lists.{set_here}
use Rattle.status_board.specs.declared.view.LaneFacts.{LaneFacts}
use Rattle.status_board.specs.declared.view.DrawnFacts.{DrawnFacts}
use Rattle.status_board.specs.declared.view.View.{View}
use Rattle.status_board.specs.Words.{most, status_place, cancel_place, word, code_of, bits_of}
use Rattle.status_board.specs.Views.{new_drawn, has_lane, own_lane}
use Rattle.status_board.specs.Changes.{with_lane, with_drawn, over}
use Rattle.status_board.specs.Rule.{Lane, IsLawful, Past, holds_lane, holds_number, only, Shows, IsPast, Kept}
use Rattle.status_board.specs.Steps.{Draws}
use Rattle.status_board.proofs.Entries.{nat_dec, at_renewed_same, at_renewed_other, at_lt, each_set, put, put_same, put_other, put_part, put_fact}
use Rattle.status_board.proofs.Shown.{shown_lane, lane_parts, lane_elsewhere, number_parts, number_held, number_elsewhere, lane_not_shown, number_not_shown, numbers_now}
use Rattle.status_board.proofs.LaneSteps.{put_lane, shows_own_here, shows_own_elsewhere}

-- the values above that of the last place come down by one
abbrev pub down : (ℕ → ℕ) → ℕ → ℕ → ℕ
down g m j = cond (ltb (g m) (g j)) (g j - 1) (g j)

-- as many numbers as have a place of their own below m
pigeons : (m k : ℕ) (g : ℕ → ℕ) → ((n : ℕ) → n < k → (j : ℕ) × (j < m) × (g j ≡ n)) → k ≤ m
pigeons zero zero g all = omega arith
pigeons zero (suc k) g all = (let a = (all 0 (omega arith)).1 in absurd (omega (arith, a)))
pigeons (suc m) zero g all = omega arith
pigeons (suc m) (suc k) g all = (let rest : k ≤ m = pigeons m k (down g m) lower in omega (arith, rest))
  where
    lower : (n : ℕ) → n < k → (j : ℕ) × (j < m) × (down g m j ≡ n)
    lower n lt = elim (ltb n (g m)) as (λ b. ltb n (g m) ≡ b → (j : ℕ) × (j < m) × (down g m j ≡ n)) [
      | true ↦ λ e. (
          let low : n < g m = ltb-true n (g m) e in
          let a = all n (omega (arith, lt)) in
          let apart : a.0 ≢ m = λ z. (let q : g m ≡ n = ap g (sym z) ∙ a.2 in omega (arith, q, low)) in
          let p = a.1 in
          let is = a.2 in
          (a.0, omega (arith, apart, p), ap (λ b. cond b (g a.0 - 1) (g a.0)) (le-ltb (g m) (g a.0) (omega (arith, is, low))) ∙ is))
      | false ↦ λ e. (
          let high : g m ≤ n = ltb-false n (g m) e in
          let a = all (suc n) (omega (arith, lt)) in
          let apart : a.0 ≢ m = λ z. (let q : g m ≡ suc n = ap g (sym z) ∙ a.2 in omega (arith, q, high)) in
          let p = a.1 in
          let is = a.2 in
          (a.0, omega (arith, apart, p), ap (λ b. cond b (g a.0 - 1) (g a.0)) (lt-ltb (g m) (g a.0) (omega (arith, is, high))) ∙ omega (arith, is)))
    ] refl

-- a lane draws at most one number that is too great, so the number word is at most 2,048
pub few_numbers : (past : Past) (words : List ℕ) (views : List View) → IsPast past words views → past.next ≤ most + most
few_numbers past words views k = elim (ltb past.next most) as (λ b. ltb past.next most ≡ b → past.next ≤ most + most) [
  | true ↦ λ e. (let x = ltb-true past.next most e in omega (arith, x))
  | false ↦ λ e. (
      let x : most ≤ past.next = ltb-false past.next most e in
      let all : (n : ℕ) → n < past.next - most → (j : ℕ) × (j < most) × ((past.lane j).own.over - most ≡ n) = λ n lt. (
      let d = k.draws (most + n) (omega arith) (omega (arith, lt, x)) in
      let kept = d.kept (omega arith) in
      (past.drawer (most + n), (k.seated (past.drawer (most + n)) d.seated).low, omega (arith, kept))) in
      let p = pigeons most (past.next - most) (λ j. (past.lane j).own.over - most) all in
      omega (arith, p, x))
] refl

-- the next number is drawn by this lane
abbrev pub drawn_next : Past → ℕ → Past
drawn_next past by = record { next = past.next + 1; lane = past.lane; drawer = put past.drawer past.next by; holder = past.holder }

ltb_next : (n next : ℕ) → n ≢ next → ltb n (next + 1) ≡ ltb n next
ltb_next n next apart = elim (ltb n next) as (λ b. ltb n next ≡ b → ltb n (next + 1) ≡ b) [
  | true ↦ λ e. (let x = ltb-true n next e in lt-ltb n (next + 1) (omega (arith, x)))
  | false ↦ λ e. (let x = ltb-false n next e in le-ltb n (next + 1) (omega (arith, x, apart)))
] refl

old_numbers : (past : Past) (by place n : ℕ) → n ≢ past.next → holds_number (drawn_next past by) place n ≡ holds_number past place n
old_numbers past by place n apart = λ i. (ltb 0 n && ltb_next n past.next apart i) && (past.holder (put_other past.drawer past.next by n apart i) == place)

unknown : (past : Past) (place n : ℕ) → past.next ≤ n → holds_number past place n ≡ false
unknown past place n le = false_from_ne_true (holds_number past place n) (λ h. (let p = (number_parts past place n h).1 in omega (arith, p, le)))

pub next_elsewhere : (past : Past) (by place : ℕ) (v : View) → past.holder by ≢ place → Shows past place v → Shows (drawn_next past by) place v
next_elsewhere past by place v apart f = record {
  lanes = f.lanes;
  drawn = λ n. f.drawn n ∙ ap (λ t. only t (past.lane n).drawn) (⊎_elim
      (λ (h : n ≡ past.next). unknown past place n (omega (arith, h)) ∙ sym (number_elsewhere (drawn_next past by) place n (λ z. apart (ap past.holder (sym (put_same past.drawer past.next by n h)) ∙ z))))
      (λ (h : n ≢ past.next). sym (old_numbers past by place n h))
      (nat_dec n past.next));
}

pub next_here : (past : Past) (by place : ℕ) (v : View) → 0 < past.next → (past.lane past.next).drawn ≡ new_drawn past.next → past.holder by ≡ place → Shows past place v
    → Shows (drawn_next past by) place (with_drawn v (new_drawn past.next))
next_here past by place v pos fresh here f = record {
  lanes = f.lanes;
  drawn = λ n. ⊎_elim
      (λ (h : n ≡ past.next). at_renewed_same (λ (b : DrawnFacts). b.number) n (new_drawn past.next) v.drawn (sym h) ∙ sym (
      ap (λ t. only t (past.lane n).drawn) (number_held (drawn_next past by) place n (omega (arith, h, pos)) (omega (arith, h)) (ap past.holder (put_same past.drawer past.next by n h) ∙ here))
      ∙ ap (λ (b : DrawnFacts). b ∷ []) (ap (λ m. (past.lane m).drawn) h ∙ fresh)))
      (λ (h : n ≢ past.next). at_renewed_other (λ (b : DrawnFacts). b.number) n (new_drawn past.next) v.drawn (λ z. h (sym z)) ∙ (f.drawn n ∙ ap (λ t. only t (past.lane n).drawn) (sym (old_numbers past by place n h))))
      (nat_dec n past.next);
}

-- the rule after a draw, where the lane that drew keeps the number or not
drawn_step : (past : Past) (words : List ℕ) (views : List View) → IsPast past words views → (id by : ℕ) (x : Lane) (w : View) (n : ℕ)
    → (past.lane by).drawn.seated ≡ true → by < past.next
    → x.drawn ≡ (past.lane by).drawn → x.looks ≡ (past.lane by).looks → x.cancel_looks ≡ (past.lane by).cancel_looks → x.own.status ≡ (past.lane by).own.status → x.own.lane ≡ by → IsLawful x
    → ((number : ℕ) → most ≤ number → (past.lane by).own.over ≡ number → x.own.over ≡ number) → (most ≤ past.next → x.own.over ≡ past.next) → n ≡ past.next + 1
    → ((place : ℕ) (v : View) → get_elem? (set views id w) place ≡ some v → Shows (drawn_next (put_lane past by x) by) place v)
    → IsPast (drawn_next (put_lane past by x) by) (slice_set words 0 n) (set views id w)
drawn_step past words views k id by x w n has low drawn looks cancel_looks status name lawful kept keeps_it is shows =
    let other : (q : ℕ) → q ≢ 0 → slice_index (slice_set words 0 n) q ≡ slice_index words q = λ q e. get_or-set_other words 0 q n 0 e in
    let past' = drawn_next (put_lane past by x) by in
    let seated' : (q : ℕ) → (past'.lane q).drawn.seated ≡ (past.lane q).drawn.seated = λ q. put_part (λ (y : Lane). y.drawn.seated) past.lane by x q (ap (λ (b : DrawnFacts). b.seated) drawn) in
    record {
      length_is = length-set words 0 n ∙ k.length_is;
      number_word = get_or-set_same words 0 n 0 (let z = k.length_is in omega (arith, z)) ∙ is;
      status_words = λ q lt. other (status_place q) (λ z. omega (arith, z)) ∙ (k.status_words q lt ∙ (λ i. word (sym (put_part (λ (y : Lane). y.looks) past.lane by x q looks) i) (code_of (sym (put_part (λ (y : Lane). y.own.status) past.lane by x q status) i))));
      cancel_words = λ q lt. other (cancel_place q) (λ z. omega (arith, z)) ∙ (k.cancel_words q lt ∙ (
          let d = sym (put_part (λ (y : Lane). y.drawn) past.lane by x q drawn) in
          λ i. word (sym (put_part (λ (y : Lane). y.cancel_looks) past.lane by x q cancel_looks) i) (bits_of (d i).soft.asked (d i).hard.asked)));
      begun = omega arith;
      named = put_fact (λ q y. (y.own.lane ≡ q) × (y.drawn.number ≡ q)) past.lane by x (name, ap (λ (b : DrawnFacts). b.number) drawn ∙ (k.named by).1) (λ q _. k.named q);
      lawful = put_fact (λ q y. IsLawful y) past.lane by x lawful (λ q _. k.lawful q);
      fresh = λ q le. put_part (λ (y : Lane). y.drawn) past.lane by x q drawn ∙ k.fresh q (omega (arith, le));
      seated = λ q h. (
          let s = k.seated q (sym (seated' q) ∙ h) in
          record { low = s.low; drawn = (let z = s.drawn in omega (arith, z)); held = (let z = s.held in let e = length-set views id w in omega (arith, z, e)) });
      draws = λ q pos lt. ⊎_elim
          (λ (h : q ≡ past.next). (
          let d : past'.drawer q ≡ by = put_same past.drawer past.next by q h in
          record {
            lesser = omega (arith, d, h, low);
            seated = ap (λ m. (past'.lane m).drawn.seated) d ∙ (seated' by ∙ has);
            kept = λ le. ap (λ m. (past'.lane m).own.over) d ∙ (ap (λ (y : Lane). y.own.over) (put_same past.lane by x by refl) ∙ (keeps_it (omega (arith, le, h)) ∙ sym h));
          }))
          (λ (h : q ≢ past.next). (
          let d : past'.drawer q ≡ past.drawer q = put_other past.drawer past.next by q h in
          let o = k.draws q pos (omega (arith, lt, h)) in
          record {
            lesser = (let z = o.lesser in omega (arith, d, z));
            seated = ap (λ m. (past'.lane m).drawn.seated) d ∙ (seated' (past.drawer q) ∙ o.seated);
            kept = λ le. ap (λ m. (past'.lane m).own.over) d ∙ put_fact (λ m y. (past.lane m).own.over ≡ q → y.own.over ≡ q) past.lane by x (kept q le) (λ m _ e. e) (past.drawer q) (o.kept le);
          }))
          (nat_dec q past.next);
      shows = shows;
    }

-- the views after a draw
drawn_views : (past : Past) (words : List ℕ) (views : List View) → IsPast past words views → (id by : ℕ) (x : Lane) (v w : View) → x.drawn ≡ (past.lane by).drawn
    → past.holder by ≡ id
    → ((j : ℕ) (u : View) → j ≢ id → get_elem? views j ≡ some u → Shows (put_lane past by x) j u) → Shows (put_lane past by x) id w
    → (place : ℕ) (u : View) → get_elem? (set views id (with_drawn w (new_drawn past.next))) place ≡ some u → Shows (drawn_next (put_lane past by x) by) place u
drawn_views past words views k id by x v w drawn here others mine =
    let fresh : (put past.lane by x past.next).drawn ≡ new_drawn past.next = put_part (λ (y : Lane). y.drawn) past.lane by x past.next drawn ∙ k.fresh past.next (omega arith) in
    each_set (Shows (drawn_next (put_lane past by x) by)) views id (with_drawn w (new_drawn past.next))
    (λ j u apart e. next_elsewhere (put_lane past by x) by j u (λ z. apart (sym z ∙ here)) (others j u apart e))
    (next_here (put_lane past by x) by id w k.begun fresh here mine)

pub draws_step : (id slots : ℕ) (v : View) (c : List (ℕ × Unit {0})) → has_lane v v.own ≡ true → (own_lane v).over ≡ 0
    → Allows Kept slots id (v, c) 0 (λ n. (n + 1) % 2 ^ 64) (Draws (step slots 0 1 0 none) (v, c))
draws_step id slots v c there none_over s kept len at lt =
    let past = kept.0 in
    let k = kept.1 in
    let f = k.shows id v at in
    let by = v.own in
    let shown = shown_lane past id v f by there in
    let parts = lane_parts past id by shown.0 in
    let seat = k.seated by parts.0 in
    let o = past.lane by in
    let n0 = slice_index s.words 0 in
    let is : n0 ≡ past.next = k.number_word in
    let few = few_numbers past s.words s.views k in
    let wraps : (n0 + 1) % 2 ^ 64 ≡ past.next + 1 = mod-eq_of_lt (omega (arith, is, few)) ∙ ap (λ (n : ℕ). n + 1) is in
    let no_over : o.own.over ≡ 0 = ap (λ (a : LaneFacts). a.over) (sym shown.1) ∙ none_over in
    let Goal : View → Type 0 = λ w. (u : View) × (act : Act (Unit {0})) × Valid s.homes c act × Kept (stepped s 0 ((n0 + 1) % 2 ^ 64) id c u act) × Draws (step slots 0 1 0 none) (v, c) n0 (u, carried_after c act) in
    let finish : (x : Lane) (w : View) → w ≡ over v past.next → IsPast (drawn_next (put_lane past by x) by) (slice_set s.words 0 ((n0 + 1) % 2 ^ 64)) (set s.views id (with_drawn w (new_drawn past.next)))
    → (u : View) × (act : Act (Unit {0})) × Valid s.homes c act × Kept (stepped s 0 ((n0 + 1) % 2 ^ 64) id c u act) × Draws (step slots 0 1 0 none) (v, c) n0 (u, carried_after c act)
    = λ x w w_is after. (
    let mine = set_here s.views id (with_drawn w (new_drawn past.next)) (at_lt s.views id v at) in (
      with_drawn w (new_drawn past.next),
      keeps,
      tt,
      (drawn_next (put_lane past by x) by, after),
      (
        λ i. (with_drawn ((w_is ∙ ap (over v) (sym is)) i) (new_drawn (sym is i)), c),
        record {
          above = (let z = seat.drawn in omega (arith, is, z));
          not_drawn = number_not_shown past id v f n0 (unknown past id n0 (omega (arith, is)));
          no_lane = lane_not_shown past id v f n0 (false_from_ne_true (holds_lane past id n0) (λ h. (let z = (k.seated n0 (lane_parts past id n0 h).0).drawn in omega (arith, is, z))));
        },
        numbers_now (drawn_next (put_lane past by x) by) (slice_set s.words 0 ((n0 + 1) % 2 ^ 64)) (set s.views id (with_drawn w (new_drawn past.next))) after id (with_drawn w (new_drawn past.next)) (after.shows id (with_drawn w (new_drawn past.next)) mine),
      ),
    )) in
    elim (ltb past.next most) as (λ t. ltb past.next most ≡ t → (u : View) × (act : Act (Unit {0})) × Valid s.homes c act × Kept (stepped s 0 ((n0 + 1) % 2 ^ 64) id c u act) × Draws (step slots 0 1 0 none) (v, c) n0 (u, carried_after c act)) [
      | true ↦ λ e. (
          let low : past.next < most = ltb-true past.next most e in
          let x : Lane = o in
          finish x v (sym (ap (λ t. cond t v (with_lane v (record (own_lane v) { over = past.next }))) e))
          (drawn_step past s.words s.views k id by x (with_drawn v (new_drawn past.next)) ((n0 + 1) % 2 ^ 64) parts.0 seat.drawn refl refl refl refl (k.named by).0 (k.lawful by) (λ number le h. h) (λ le. absurd (omega (arith, le, low))) wraps
          (drawn_views past s.words s.views k id by x v v refl parts.1
          (λ j u apart h. shows_own_elsewhere past by x refl j u (lane_elsewhere past j by (λ z. apart (sym z ∙ parts.1))) (k.shows j u h))
          (same_lane past by id v f))))
      | false ↦ λ e. (
          let x : Lane = record { own = record o.own { over = past.next }; drawn = o.drawn; looks = o.looks; cancel_looks = o.cancel_looks } in
          let lawful = k.lawful by in
          let w : View = with_lane v x.own in
          finish x w (ap (λ (a : LaneFacts). with_lane v (record a { over = past.next })) (sym shown.1) ∙ sym (ap (λ t. cond t v (with_lane v (record (own_lane v) { over = past.next }))) e))
          (drawn_step past s.words s.views k id by x (with_drawn w (new_drawn past.next)) ((n0 + 1) % 2 ^ 64) parts.0 seat.drawn refl refl refl refl (k.named by).0
          (record {
            agreed = record { life = lawful.agreed.life; ranked = lawful.agreed.ranked; ended = lawful.agreed.ended; looks = lawful.agreed.looks; soft = lawful.agreed.soft; hard = lawful.agreed.hard };
            looks = lawful.looks;
            soft = lawful.soft;
            hard = lawful.hard;
            unseated = λ h. absurd (true≢false (sym parts.0 ∙ h));
          })
          (λ number le h. absurd (omega (arith, le, h, no_over))) (λ _. refl) wraps
          (drawn_views past s.words s.views k id by x v w refl parts.1
          (λ j u apart h. shows_own_elsewhere past by x refl j u (lane_elsewhere past j by (λ z. apart (sym z ∙ parts.1))) (k.shows j u h))
          (shows_own_here past by x refl (k.named by).0 id v shown.0 f))))
    ] refl
  where
    same_lane : (past : Past) (by place : ℕ) (v : View) → Shows past place v → Shows (put_lane past by (past.lane by)) place v
    same_lane past by place v f = record {
      lanes = λ l. f.lanes l ∙ (λ i. only (sym (put_part (λ (y : Lane). y.drawn.seated) past.lane by (past.lane by) l refl) i && (past.holder l == place)) (sym (put_part (λ (y : Lane). y.own) past.lane by (past.lane by) l refl) i));
      drawn = λ n. f.drawn n ∙ ap (only (holds_number past place n)) (sym (put_part (λ (y : Lane). y.drawn) past.lane by (past.lane by) n refl));
    }
