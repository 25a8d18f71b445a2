-- What a call under the lock leaves.
use Rattle.std.proofs.Common.{◌≡◌, ℕ, ◌+◌, ◌<◌, ◌≤◌, ◌^◌, Bool, true, false, true≢false, List, [], ◌∷◌, ◌++◌, length, refl, ap, sym, ◌∙◌, subst, arith, length-append}
use Rattle.atomic_table.specs.Table.{Me}
use Rattle.desk_object.specs.declared.ending.Ending.{Ending}
use Rattle.desk_object.specs.declared.ending.Mode.{Mode}
use Rattle.desk_object.specs.declared.ending.Mode.TheVariants.{Try}
use Rattle.desk_object.specs.Endings.{MayEnd, Allows}
use Rattle.desk_object.specs.declared.entry.Entry.{Entry}
use Rattle.desk_object.specs.declared.entry.Entry.TheVariants.{Made, Close}
use Rattle.desk_object.specs.Meaning.{Meaning, Turns, IsDetermined}
use Rattle.desk_object.specs.History.{is_closed, Leads, Reaches, IsLegal}
use Rattle.desk_object.proofs.Histories.{leads-made, leads-close, leads_once, closed-made, closed-close}
use Rattle.history_desk.specs.declared.known.Known.{Known}
use Rattle.history_desk.specs.declared.known.View.{View}
use Rattle.history_desk.specs.declared.known.Place.{Place}
use Rattle.history_desk.specs.declared.known.Place.TheVariants.{Here, Turned, Out}
use Rattle.history_desk.specs.Passes.{carries, IsWhole}
use Rattle.history_desk.specs.Rule.{holding, idle, Rests}
use Rattle.history_desk.specs.Steps.{with_entry, entry_of, front, Adds, IsHolding}
use Rattle.history_desk.specs.Outcomes.{FitsAfter}
use Rattle.history_desk.proofs.Appending.{MayAppend}
use Rattle.history_desk.proofs.Seats.{some_step}

module _ {P A R : Type 0} where
  -- a seat that has the lock and a value in its slot
  pub holds : (me : Me P (View A R)) (h : Known A R) (p : P) → me ≡ (holding h, (0, p) ∷ []) → IsHolding me p
  holds me h p is = is ∙ ap (λ (k : Known A R). (holding k, (0, p) ∷ [])) (sym (ap (λ (u : Me P (View A R)). u.0.known) is))

  pub knows : (me : Me P (View A R)) (h : Known A R) (c : List (ℕ × P)) → me ≡ (holding h, c) → me.0.known ≡ h
  knows me h c is = ap (λ (u : Me P (View A R)). u.0.known) is

  pub idle_knows : (me : Me P (View A R)) (h : Known A R) (c : List (ℕ × P)) → me ≡ (idle h, c) → me.0.known ≡ h
  idle_knows me h c is = ap (λ (u : Me P (View A R)). u.0.known) is

module _ {C A R : Type 0} (m : Meaning C A R) where
  pub may_make : (h : Known A R) (before : C) (a : A) (e : Ending) (r : R) (after : C) → carries h h.number ≡ true → is_closed h.seen ≡ false → length h.seen < 2 ^ 62 → Reaches m h.seen before → Turns m before a e r after → MayAppend m h (Made h.number a e r)
  may_make h before a e r after own unclosed room reached turns = record {
    own = own;
    by = refl;
    unclosed = unclosed;
    legal = (after, leads-made m m.opening h.seen before h.number a e r after unclosed reached turns);
    close = λ z. absurd (true≢false (sym z));
    room = λ _. room;
  }

  pub may_close : (h : Known A R) (last : C) → carries h h.number ≡ true → is_closed h.seen ≡ false → Reaches m h.seen last → IsWhole h → carries h 0 ≡ true → MayAppend m h (Close h.number)
  may_close h last own unclosed reached whole zeroth = record {
    own = own;
    by = refl;
    unclosed = unclosed;
    legal = (last, leads-close m m.opening h.seen last h.number unclosed reached);
    close = λ _. (whole, zeroth);
    room = λ z. absurd (true≢false z);
  }

module _ {T Q W A R : Type 0} (call_data : Q → A) (reply_data : W → R) where
  -- what a step that appends leaves
  pub added : (me after : Me (Place T Q W) (View A R)) (h : Known A R) (p : Place T Q W) → me ≡ (holding h, (0, p) ∷ []) → Adds call_data reply_data some_step me 0 after
      → after ≡ (holding (with_entry h (entry_of call_data reply_data h.number p)), (0, p) ∷ [])
  added me after h p is adds = subst (λ (u : Me (Place T Q W) (View A R)). Adds call_data reply_data some_step u 0 after) is adds

module _ (T Q W : Type 0) {C A R : Type 0} (m : Meaning C A R) (content : T → C) where
  -- what belongs into the slot after a call
  pub rests_made : (h : Known A R) (before : C) (a : A) (e : Ending) (r : R) (x y : T) → is_closed h.seen ≡ false → Reaches m h.seen before → Turns m before a e r (content x) → y ≡ x
      → Rests {T = T} {Q = Q} {W = W} m content (h.seen ++ Made h.number a e r ∷ []) (Here y)
  rests_made h before a e r x y unclosed reached turns is = (
    closed-made h.seen (Made h.number a e r) refl unclosed,
    leads-made m m.opening h.seen before h.number a e r (content y) unclosed reached (subst (λ (z : T). Turns m before a e r (content z)) (sym is) turns),
  )

pub same_turned : {T Q W : Type 0} {x x' : T} {a a' : Q} {e e' : Ending} {y y' : W} → Turned x a e y ≡ Turned x' a' e' y' → (x ≡ x') × (y ≡ y')
same_turned h = (cc h, cc h)

-- one content that a history leads to speaks for all
pub fits_after : {C A R : Type 0} (m : Meaning C A R) → IsDetermined m → (history : List (Entry A R)) (content : C) (call : A) (fits : Bool) → Reaches m history content → fits ≡ m.fits content call → FitsAfter m history call fits
fits_after m determined history content call fits reached is other reached' =
    ap (λ c. m.fits c call) (leads_once m determined m.opening history other content reached' reached) ∙ sym is

-- a call that may only be served fits
pub try_fits : (mode : Mode) (ending : Ending) (fits : Bool) → MayEnd ending fits → Allows mode ending → mode ≡ Try → fits ≡ true
try_fits mode ending fits may allowed is = subst (λ e. MayEnd e fits) (subst (λ o. Allows o ending) is allowed) may
