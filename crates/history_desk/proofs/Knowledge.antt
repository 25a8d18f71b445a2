-- What a pass knows after a call, from what it knew under the lock.
use Rattle.std.proofs.Common.{◌≡◌, ℕ, ◌+◌, ◌<◌, ◌≤◌, ◌^◌, ◌⊎◌, ⊎_elim, Bool, true, false, true≢false, List, [], ◌∷◌, ◌++◌, length, refl, ap, sym, ◌∙◌, subst, arith, append_assoc, length-append, cond, max}
use Rattle.std.proofs.lemmas.Bool.{ltb-true, ltb-false}
use Rattle.std.specs.Prelude.{Ok, Err, Result, ltb}
use mathlib.Core.List.{IsPrefix}
use Rattle.atomic_table.specs.Table.{Me, Step}
use Rattle.desk_object.specs.declared.ending.Ending.{Ending}
use Rattle.desk_object.specs.declared.ending.Mode.{Mode}
use Rattle.desk_object.specs.declared.ending.Mode.TheVariants.{Try}
use Rattle.desk_object.specs.declared.entry.Entry.{Entry}
use Rattle.desk_object.specs.declared.entry.Entry.TheVariants.{Made, Close}
use Rattle.desk_object.specs.Meaning.{Meaning}
use Rattle.desk_object.specs.History.{caller_of, calls_by, is_closed, AreBelow, Reaches, IsLegal}
use Rattle.desk_object.proofs.Histories.{below-more, below-snoc, closed-made, leads-close, no_calls, open_prefix}
use Rattle.history_desk.specs.declared.known.Known.{Known}
use Rattle.history_desk.specs.declared.known.View.{View}
use Rattle.history_desk.specs.declared.known.Place.{Place}
use Rattle.history_desk.specs.declared.known.Place.TheVariants.{Here, Turned, Out}
use Rattle.history_desk.specs.declared.turn.Turn.{Turn}
use Rattle.history_desk.specs.declared.turn.Turn.TheVariants as turn
use Rattle.history_desk.specs.declared.turn.DeskFault.{DeskFault}
use Rattle.history_desk.specs.declared.turn.DeskFault.TheVariants as fault
use Rattle.history_desk.specs.declared.turn.Closed.{Closed}
use Rattle.history_desk.specs.Passes.{has, AreDistinct, carries, longer, met, newcomer, Grown, Looked, Appended, IsSound, IsWhole}
use Rattle.history_desk.specs.Rule.{idle, holding, Rests}
use Rattle.history_desk.specs.Steps.{IsIdle, IsHolding, Taken, Settles, IsTakenIn, glued, with_entry, enroller}
use Rattle.history_desk.specs.Outcomes.{FitsAfter, IsMade, IsUnmade, Answers, EndsAs, IsEnrolled, IsNotEnrolled, IsMet, Closes, limit}
use Rattle.history_desk.proofs.Views.{has_cons, has_first, has_one, has_either, has_left, distinct_apart}
use Rattle.history_desk.proofs.Numbering.{below_longer}
use Rattle.history_desk.proofs.Seats.{some_step, same_slot}

pub idles : {P A R : Type 0} (me : Me P (View A R)) (h : Known A R) → me ≡ (idle h, []) → IsIdle me
idles {P} {A} {R} me h is = is ∙ ap (λ (k : Known A R). (idle k, [])) (sym (ap (λ (u : Me P (View A R)). u.0.known) is))

module _ {T Q W C A R : Type 0} (m : Meaning C A R) (content : T → C) where
  -- what was found in the slot
  pub found : (k : Known A R) (me : Me (Place T Q W) (View A R)) (was p : Place T Q W) → Taken m content k me → IsHolding me was → was ≡ p → Rests m content me.0.known.seen p
  found k me was p taken at is = subst (Rests m content me.0.known.seen) (same_slot me taken.slot was taken.holding at ∙ is) taken.rests

module _ {A R : Type 0} where
  -- a look, and then an entry
  pub appended_of : (k h : Known A R) (entry : ℕ → Entry A R) → Looked k h → Appended k (entry k.number) (with_entry h (entry h.number))
  appended_of k h entry l =
      let with_own : Appended k (entry h.number) (with_entry h (entry h.number)) = record {
        others = l.others;
        foreign = l.foreign;
        grown = record {
          seen = ap (λ s. s ++ entry h.number ∷ []) l.grown.seen ∙ append_assoc k.seen l.others (entry h.number ∷ []);
          looks = l.grown.looks;
          given = l.grown.given;
          number = l.grown.number;
          carried = l.grown.carried;
          enrolled = l.grown.enrolled;
        };
      } in
      subst (λ n. Appended k (entry n) (with_entry h (entry h.number))) l.grown.number with_own

  -- a whole pass is whole after a look
  pub whole_looked : (k h : Known A R) → Looked k h → IsWhole k → carries k 0 ≡ true → IsWhole h × (carries h 0 ≡ true)
  whole_looked k h l whole zeroth = (
    (λ n z. ap (has n) l.grown.carried ∙ whole n (ap (has n) (sym l.grown.enrolled) ∙ z)),
    ap (has 0) l.grown.carried ∙ zeroth,
  )

module _ {C A R : Type 0} (m : Meaning C A R) where
  pub sound_entry : (h : Known A R) (e : Entry A R) → IsSound m h → caller_of e ≡ h.number → IsLegal m (h.seen ++ e ∷ []) → IsSound m (with_entry h e)
  sound_entry h e s by legal = record {
    own = s.own;
    distinct = s.distinct;
    carried = s.carried;
    callers = below-snoc h.given h.seen e s.callers (let x = s.carried h.number s.own in omega (arith, by, x));
    legal = legal;
    all = s.all;
  }

module _ {T Q W M C A R : Type 0} (m : Meaning C A R) (call_data : Q → A) (reply_data : W → R) where
  pub answers_of : (k h w : Known A R) (call : Q) (mode : Mode) (r : Result (Turn T Q W M C A R) DeskFault) → Looked k h → is_closed h.seen ≡ false → EndsAs m call_data reply_data h call mode r w → Answers m call_data reply_data k call mode r w
  answers_of k h w call mode (Err fault.Closed) l unclosed e = absurd e
  answers_of k h w call mode (Err (fault.Spent n)) l unclosed e =
      subst (λ u. Looked k u × (is_closed u.seen ≡ false) × (length u.seen ≡ n) × (n ≡ limit)) (sym e.0) (l, unclosed, e.1, e.2)
  answers_of k h w call mode (Ok (turn.NotYet back)) l unclosed e =
      subst (λ u. IsUnmade m k u × (mode ≡ Try) × (back ≡ call) × FitsAfter m u.seen (call_data call) false) (sym e.0) (record { looked = l; room = e.1; unclosed = unclosed }, e.2, e.3, e.4)
  answers_of k h w call mode (Err fault.Memory) l unclosed e =
      subst (λ u. IsUnmade m k u × (mode ≡ Try → FitsAfter m u.seen (call_data call) true)) (sym e.0) (record { looked = l; room = e.1; unclosed = unclosed }, e.2)
  answers_of k h w call mode (Ok (turn.Made reply)) l unclosed e =
      let entry : ℕ → Entry A R = λ n. Made n (call_data call) e.0 (reply_data reply) in
      let count = length-append h.seen (entry h.number ∷ []) in
      let room = e.2 in
      subst (λ u. IsMade m k (call_data call) mode (reply_data reply) u) (sym e.3) (record {
        ending = e.0;
        allowed = e.1;
        appended = appended_of k h entry l;
        room = omega (arith, count, room);
        unclosed = closed-made h.seen (entry h.number) refl unclosed;
      })

  pub sound_after : (h w : Known A R) (call : Q) (mode : Mode) (r : Result (Turn T Q W M C A R) DeskFault) → IsSound m h → EndsAs m call_data reply_data h call mode r w → IsSound m w
  sound_after h w call mode (Err fault.Closed) s e = absurd e
  sound_after h w call mode (Err (fault.Spent n)) s e = subst (IsSound m) (sym e.0) s
  sound_after h w call mode (Ok (turn.NotYet back)) s e = subst (IsSound m) (sym e.0) s
  sound_after h w call mode (Err fault.Memory) s e = subst (IsSound m) (sym e.0) s
  sound_after h w call mode (Ok (turn.Made reply)) s e =
      let entry = Made h.number (call_data call) e.0 (reply_data reply) in
      let legal : IsLegal m (h.seen ++ entry ∷ []) = subst (λ u. IsLegal m u.seen) e.3 e.4 in
      subst (IsSound m) (sym e.3) (sound_entry m h entry s refl legal)

module _ {T C A R : Type 0} (m : Meaning C A R) (content : T → C) where
  pub closes_of : (k h w : Known A R) (x : T) → Looked k h → (is_closed h.seen ≡ false) × Reaches m h.seen (content x) → w ≡ with_entry h (Close h.number) → Closes m content k (Ok x) w
  closes_of k h w x l rests is =
      let was : is_closed k.seen ≡ false = open_prefix k.seen l.others (ap is_closed (sym l.grown.seen) ∙ rests.0) in
      let first : Closes m content k (Ok x) (with_entry h (Close h.number)) = (
        appended_of k h (λ n. Close n) l,
        leads-close m m.opening h.seen (content x) h.number rests.0 rests.1,
        was,
      ) in
      subst (λ u. Closes m content k (Ok x) u) (sym is) first

  pub sound_closed : (h w : Known A R) (x : T) → IsSound m h → (is_closed h.seen ≡ false) × Reaches m h.seen (content x) → w ≡ with_entry h (Close h.number) → IsSound m w
  sound_closed h w x s rests is = subst (IsSound m) (sym is) (sound_entry m h (Close h.number) s refl (content x, leads-close m m.opening h.seen (content x) h.number rests.0 rests.1))

-- ---- a pass is enrolled

pub sound_founder : {C A R : Type 0} (m : Meaning C A R) → IsSound m (newcomer 0 [])
sound_founder m = record {
  own = refl;
  distinct = (refl, tt);
  carried = λ n z. (let e = has_one n 0 z in omega (arith, e));
  callers = tt;
  legal = (m.opening, refl);
  all = λ whole zeroth n lt. has_first n 0 [] (omega (arith, lt));
}

module _ {C A R : Type 0} (m : Meaning C A R) where
  pub enrolled_of : (k h u w : Known A R) → IsSound m h → Looked k h → is_closed h.seen ≡ false → u ≡ newcomer h.given h.seen → w ≡ enroller h → IsEnrolled k u w
  enrolled_of k h u w s l unclosed new is =
      let first : IsEnrolled k (newcomer h.given h.seen) (enroller h) = record {
        new = refl;
        above = l.grown.given;
        fresh = no_calls h.given h.seen s.callers;
        others = l.others;
        foreign = l.foreign;
        seen = l.grown.seen;
        unclosed = unclosed;
        looks = l.grown.looks;
        given = refl;
        number = l.grown.number;
        carried = l.grown.carried;
        enrolled = ap (λ ns. h.given ∷ ns) l.grown.enrolled;
      } in
      subst (λ v. IsEnrolled k u v) (sym is) (subst (λ v. IsEnrolled k v (enroller h)) (sym new) first)

  pub sound_newcomer : (h u : Known A R) → IsSound m h → u ≡ newcomer h.given h.seen → IsSound m u
  sound_newcomer h u s new = subst (IsSound m) (sym new) (record {
    own = has_first h.given h.given [] refl;
    distinct = (refl, tt);
    carried = λ n z. (let e = has_one n h.given z in omega (arith, e));
    callers = below-more h.given (h.given + 1) h.seen (omega arith) s.callers;
    legal = s.legal;
    all = λ whole zeroth n lt. absurd (let e = has_one 0 h.given zeroth in let x = s.carried h.number s.own in omega (arith, e, x));
  })

  pub sound_enroller : (h w : Known A R) → IsSound m h → w ≡ enroller h → IsSound m w
  sound_enroller h w s is = subst (IsSound m) (sym is) (record {
    own = s.own;
    distinct = s.distinct;
    carried = λ n z. (let x = s.carried n z in omega (arith, x));
    callers = below-more h.given (h.given + 1) h.seen (omega arith) s.callers;
    legal = s.legal;
    all = λ whole zeroth n lt. absurd (let x = s.carried h.given (whole h.given (has_first h.given h.given h.enrolled refl)) in omega (arith, x));
  })

-- ---- a pass takes in another

pub longer_length : {E : Type 0} (xs ys : List E) → length (longer xs ys) ≡ max (length xs) (length ys)
longer_length {E} xs ys = go (ltb (length xs) (length ys)) refl
  where
    go : (b : Bool) → ltb (length xs) (length ys) ≡ b → length (longer xs ys) ≡ max (length xs) (length ys)
    go true e = rw e (let h = ltb-true (length xs) (length ys) e in omega (arith, h))
    go false e = rw e (let h = ltb-false (length xs) (length ys) e in omega (arith, h))

module _ {C A R : Type 0} (m : Meaning C A R) where
  longer_legal : (xs ys : List (Entry A R)) → IsLegal m xs → IsLegal m ys → IsLegal m (longer xs ys)
  longer_legal xs ys p q = elim (ltb (length xs) (length ys)) as (λ b. IsLegal m (cond b ys xs)) [ true ↦ q | false ↦ p ]

  sound_met : (k o : Known A R) → IsSound m k → IsSound m o → AreDistinct (k.carried ++ o.carried)
      → (IsWhole (met k o) → carries (met k o) 0 ≡ true → (n : ℕ) → n < (met k o).given → carries (met k o) n ≡ true)
      → IsSound m (met k o)
  sound_met k o s t distinct all = record {
    own = has_left k.number k.carried o.carried s.own;
    distinct = distinct;
    carried = λ n z. ⊎_elim
        (λ (x : carries k n ≡ true). (let lt = s.carried n x in omega (arith, lt)))
        (λ (x : carries o n ≡ true). (let lt = t.carried n x in omega (arith, lt)))
        (has_either n k.carried o.carried z);
    callers = below_longer k o s.callers t.callers;
    legal = longer_legal k.seen o.seen s.legal t.legal;
    all = all;
  }

  is_met : (k o : Known A R) → AreDistinct (k.carried ++ o.carried) → IsTakenIn (met k o) k → IsTakenIn (met k o) o → IsMet k o (met k o)
  is_met k o distinct p q =
      let count = longer_length k.seen o.seen in
      let mine = p (omega (arith, count)) in
      let theirs = q (omega (arith, count)) in
      record {
        is = refl;
        apart = distinct_apart k.carried o.carried distinct;
        mine = mine.0;
        theirs = theirs.0;
        my_calls = mine.1;
        their_calls = theirs.1;
      }

  pub met_of : {P : Type 0} (me other joined after : Me P (View A R)) (n : ℕ) → joined ≡ (glued me.0 other.0, me.1) → Settles some_step joined n after → IsIdle me → IsSound m me.0.known → IsSound m other.0.known
      → IsIdle after × IsMet me.0.known other.0.known after.0.known × IsSound m after.0.known
  met_of {P} me other joined after n is settles at s t =
      let k = me.0.known in
      let o = other.0.known in
      let told = subst (λ (u : Me P (View A R)). Settles some_step u n after) is settles in
      let now : after ≡ (idle (met k o), []) = told.0 ∙ ap (λ (u : Me P (View A R)). (idle (met k o), u.1)) at in
      let all : IsIdle {P = P} (idle (met k o), []) × IsMet k o (met k o) × IsSound m (met k o) = (
        refl,
        is_met k o told.2 told.1.0 told.1.1.0,
        sound_met k o s t told.2 told.3,
      ) in
      subst (λ (u : Me P (View A R)). IsIdle u × IsMet k o u.0.known × IsSound m u.0.known) (sym now) all
