-- The board at the start.
use Rattle.std.proofs.Common.{Bool, ◌≡◌, ℕ, zero, suc, ◌+◌, ◌*◌, ◌<◌, ◌≢◌, ⊎_elim, true, true≢false, List, [], ◌∷◌, replicate, refl, ap, sym, ◌∙◌, subst, arith, ◌&&◌, false}
use mathlib.Core.Option.{some, some-injective, some-ne-none}
use lib.ListN.{get_elem?}
use Rattle.std.specs.Prelude.{slice_index, slice_set}
use Rattle.std.proofs.lemmas.Bool.{false_from_ne_true}
use Rattle.std.proofs.lemmas.List.{length-set, length-replicate, get_or-set_same, get_or-set_other, get_or-replicate}
use Rattle.atomic_table.specs.Table.{opening}
use Rattle.status_board.specs.declared.status.Status.{Status}
use Rattle.status_board.specs.StatusLife.{is_end, is_life}
use Rattle.status_board.specs.Agreement.{IsAskedFor}
use Rattle.status_board.specs.declared.status.Status.TheVariants.{Pending, Running}
use Rattle.status_board.specs.declared.view.LaneFacts.{LaneFacts}
use Rattle.status_board.specs.declared.view.View.{View}
use Rattle.status_board.specs.Words.{most, status_place, cancel_place}
use Rattle.status_board.specs.Views.{new_lane, new_drawn, founder}
use Rattle.status_board.specs.Rule.{Lane, status_word, cancel_word, IsLawful, Past, holds_number, only, Shows, IsPast, Kept}
use Rattle.status_board.proofs.Entries.{nat_dec, at_first_same, at_first_other, put, put_same, put_other, put_fact}
use Rattle.status_board.proofs.Shown.{number_parts}

abbrev pub opening_words : ℕ → List ℕ
opening_words n = slice_set (slice_set (replicate n 0) 0 1) 1 1

-- a lane with this status and those before it, with which nothing else was done
abbrev quiet_lane : ℕ → Status → List Status → Bool → Lane
quiet_lane l status before seated = record {
  own = record (new_lane l) { status = status; before = before };
  drawn = record (new_drawn l) { seated = seated };
  looks = 0;
  cancel_looks = 0;
}

abbrev untouched : ℕ → Lane
untouched l = quiet_lane l Pending [] false

abbrev first_lane : Lane
first_lane = quiet_lane 0 Running (Pending ∷ []) true

abbrev first_past : Past
first_past = record { next = 1; lane = put untouched 0 first_lane; drawer = λ n. 0; holder = λ l. 0 }

word_at : (n q : ℕ) → 1 < q → q < n → slice_index (opening_words n) q ≡ 0
word_at n q low lt = get_or-set_other (slice_set (replicate n 0) 0 1) 1 q 1 0 (λ e. omega (arith, e, low)) ∙ (get_or-set_other (replicate n 0) 0 q 1 0 (λ e. omega (arith, e, low)) ∙ get_or-replicate n q 0 0 lt)

word_zero : (n : ℕ) → 1 < n → slice_index (opening_words n) 0 ≡ 1
word_zero n lt = get_or-set_other (slice_set (replicate n 0) 0 1) 1 0 1 0 (λ e. omega (arith, e)) ∙ get_or-set_same (replicate n 0) 0 1 0 (let e = length-replicate {A = ℕ} n 0 in omega (arith, e, lt))

word_one : (n : ℕ) → 1 < n → slice_index (opening_words n) 1 ≡ 1
word_one n lt = get_or-set_same (slice_set (replicate n 0) 0 1) 1 1 0 (let e = length-replicate {A = ℕ} n 0 in let d = length-set {A = ℕ} (replicate n 0) 0 1 in omega (arith, d, e, lt))

quiet_lawful : (l : ℕ) (status : Status) (before : List Status) (seated : Bool) → is_life status before ≡ true → is_end status ≡ false → (seated ≡ false → (status ≡ Pending) × (before ≡ [])) → IsLawful (quiet_lane l status before seated)
quiet_lawful l status before seated life no_end new =
    let unasked : IsAskedFor (new_lane l).soft (new_drawn l).soft = record { asked = λ h. absurd (true≢false (sym h)); found = λ h. absurd (true≢false (sym h)) } in
    record {
      agreed = record {
        life = life;
        ranked = omega arith;
        ended = λ h. absurd (true≢false (sym h));
        looks = λ h. absurd (true≢false (sym h ∙ no_end));
        soft = unasked;
        hard = unasked;
      };
      looks = λ _. refl;
      soft = λ _. refl;
      hard = λ _. refl;
      unseated = λ h. (λ i. record (new_lane l) { status = (new h).0 i; before = (new h).1 i }, refl);
    }

untouched_lawful : (l : ℕ) → IsLawful (untouched l)
untouched_lawful l = quiet_lawful l Pending [] false refl refl (λ _. (refl, refl))

first_lawful : IsLawful first_lane
first_lawful = quiet_lawful 0 Running (Pending ∷ []) true refl refl (λ h. absurd (true≢false h))

first_shows : Shows first_past 0 founder
first_shows = record {
  lanes = λ l. ⊎_elim
      (λ (h : l ≡ 0). at_first_same (λ (a : LaneFacts). a.lane) l first_lane.own [] (sym h) ∙ ap (λ (y : Lane). only (y.drawn.seated && true) y.own) (sym (put_same untouched 0 first_lane l h)))
      (λ (h : l ≢ 0). at_first_other (λ (a : LaneFacts). a.lane) l first_lane.own [] (λ z. h (sym z)) ∙ ap (λ (y : Lane). only (y.drawn.seated && true) y.own) (sym (put_other untouched 0 first_lane l h)))
      (nat_dec l 0);
  drawn = λ n. sym (ap (λ t. only t (first_past.lane n).drawn) (false_from_ne_true (holds_number first_past 0 n) (λ h. (let p = number_parts first_past 0 n h in let a = p.0 in let b = p.1 in omega (arith, a, b)))));
}

opens_with : (n : ℕ) → n ≡ 1 + 2 * most → IsPast first_past (opening_words n) (founder ∷ [])
opens_with n is = record {
  length_is = length-set (slice_set (replicate n 0) 0 1) 1 1 ∙ (length-set (replicate n 0) 0 1 ∙ (length-replicate n 0 ∙ is));
  number_word = word_zero n (omega (arith, is));
  status_words = put_fact (λ l y. l < most → slice_index (opening_words n) (status_place l) ≡ status_word y) untouched 0 first_lane
      (λ _. word_one n (omega (arith, is)))
      (λ l apart lt. word_at n (status_place l) (omega (arith, apart)) (omega (arith, is, lt)));
  cancel_words = put_fact (λ l y. l < most → slice_index (opening_words n) (cancel_place l) ≡ cancel_word y) untouched 0 first_lane
      (λ _. word_at n 2 (omega arith) (omega (arith, is)))
      (λ l apart lt. word_at n (cancel_place l) (omega arith) (omega (arith, is, lt)));
  begun = omega arith;
  named = put_fact (λ l y. (y.own.lane ≡ l) × (y.drawn.number ≡ l)) untouched 0 first_lane (refl, refl) (λ l _. (refl, refl));
  lawful = put_fact (λ l y. IsLawful y) untouched 0 first_lane first_lawful (λ l _. untouched_lawful l);
  fresh = λ l le. ap (λ (y : Lane). y.drawn) (put_other untouched 0 first_lane l (λ e. omega (arith, e, le)));
  seated = λ l h. ⊎_elim
      (λ (z : l ≡ 0). record { low = omega (arith, z); drawn = omega (arith, z); held = omega arith })
      (λ (z : l ≢ 0). absurd (true≢false (sym (ap (λ (y : Lane). y.drawn.seated) (sym (put_other untouched 0 first_lane l z)) ∙ h))))
      (nat_dec l 0);
  draws = λ l pos lt. absurd (omega (arith, pos, lt));
  shows = each;
}
  where
    each : (j : ℕ) (v : View) → get_elem? (founder ∷ []) j ≡ some v → Shows first_past j v
    each zero v e = subst (Shows first_past 0) (some-injective _ _ e) first_shows
    each (suc j) v e = absurd (some-ne-none v (sym e))

pub opens : Kept (opening (opening_words 2049) [] founder)
opens = (first_past, opens_with 2049 refl)
