-- Values that come onto a stack, one part after another.
use Rattle.std.proofs.Common.{◌≡◌, ℕ, ◌<◌, ◌≤◌, Ok, Some, true, false, List, [], ◌∷◌, ◌++◌, length, take, drop, refl, sym, ap, ◌∙◌, arith, nat_le, length-append}
use Rattle.std.proofs.lemmas.Grind.{common_steps}
use Rattle.std.proofs.lemmas.Bool.Decides.{nat_tests}
use Rattle.std.proofs.lemmas.List.{drop-append-le, take-append-drop, length-take-le}
use Rattle.std.proofs.Math.Seq.{take-length, drop-append_seam, take-append_seam}
use Rattle.object_store.specs.declared.value.Value.{Value}
use Rattle.lanes_lib.specs.declared.ask.Ask.{Ask}
use Rattle.lanes_lib.specs.declared.ask.Answer.{Answer}
use Rattle.lua_meaning.specs.Run.{World, Run, Next, Leads, reaches, and_then}
use Rattle.lua_meaning.specs.Names.{filled}
use Rattle.lua_machine.specs.Piled.{Piled, with_values}
use Rattle.lua_machine.specs.declared.machine.Machine.{Machine}
use Rattle.lua_machine.specs.declared.machine.Done.{Done}
use Rattle.lua_machine.specs.declared.machine.Done.TheVariants.{Well, Failed}
use Rattle.lua_machine.specs.declared.machine.Got.TheVariants as G
use Rattle.lua_machine.specs.Does.{point, world, pushed, OnWell, Above, PushedOf, ManyOf}
use Rattle.lua_machine.specs.Moved.{Pushed}
use Rattle.lua_machine.proofs.Leads.{leads_on, no_memory}
use Rattle.lua_machine.proofs.Windows.{from_seam, to_seam, seam_length}
use Rattle.lua_machine.proofs.Frames.{below_less}

-- ---- numbers

pub at_most : (n m : ℕ) → (m < n → ⊥) → nat_le n m ≡ true
at_most n m h = grind (arith, nat_tests)

pub too_many : (n m : ℕ) → m < n → nat_le n m ≡ false
too_many n m h = grind (arith, nat_tests)

-- ---- stacks

pub above_same : (at : ℕ) (s : Piled) → at ≤ length s.values → Above at s s
above_same at s h = record { within = h; values = refl; cells = refl }

-- values above values
pub above_then : (at : ℕ) (s s1 s2 : Piled) → at ≤ length s.values → Above (length s.values) s s1 → Above (length s1.values) s1 s2 → Above at s s2
above_then at s s1 s2 h a b =
    let h1 : at ≤ length s1.values = omega (arith, h, a.within) in
    record {
      within = omega (arith, h1, b.within);
      values = below_less at (length s1.values) s1.values s2.values h1 b.values ∙ below_less at (length s.values) s.values s1.values h a.values;
      cells = b.cells ∙ a.cells;
    }

pub well_above : (r : Done) (at : ℕ) (s s1 s2 : Piled) → at ≤ length s.values → Above (length s.values) s s1 → OnWell r (Above (length s1.values) s1 s2) → OnWell r (Above at s s2)
well_above Well at s s1 s2 h a b = above_then at s s1 s2 h a b
well_above Failed at s s1 s2 h a b = tt

-- the same, where what came last stands above the first place alone
pub above_past : (at : ℕ) (s s1 s2 : Piled) → at ≤ length s.values → Above (length s.values) s s1 → Above at s1 s2 → Above at s s2
above_past at s s1 s2 h a b = record {
  within = b.within;
  values = b.values ∙ below_less at (length s.values) s.values s1.values h a.values;
  cells = b.cells ∙ a.cells;
}

pub well_past : (r : Done) (at : ℕ) (s s1 s2 : Piled) → at ≤ length s.values → Above (length s.values) s s1 → OnWell r (Above at s1 s2) → OnWell r (Above at s s2)
well_past Well at s s1 s2 h a b = above_past at s s1 s2 h a b
well_past Failed at s s1 s2 h a b = tt

-- ---- the values from a place on, and those above them

drop_joined : (n at : ℕ) (s s1 : List Value) → n ≤ at → at ≤ length s1 → take at s1 ≡ s → drop n s ++ drop at s1 ≡ drop n s1
drop_joined n at s s1 h le e =
    let la : length (take at s1) ≡ at = length-take-le at s1 le in
    ap (λ x. drop n x ++ drop at s1) (sym e) ∙ sym (drop-append-le n (take at s1) (drop at s1) (omega arith)) ∙ ap (drop n) (take-append-drop at s1)

module _ (at : ℕ) (s s1 : Piled) (h : at ≤ length s.values) (a : Above (length s.values) s s1) where
  pub joined_values : drop at s.values ++ drop (length s.values) s1.values ≡ drop at s1.values
  joined_values = drop_joined at (length s.values) s.values s1.values h a.within (a.values ∙ take-length s.values)

-- what follows is given both
module _ {H : Type 0} (at : ℕ) (s : Piled) (m : Machine H) (k : Next (List Value)) (h : at ≤ length s.values) where
  abbrev pub joined_next : List Value → World → Run
  joined_next us w = k (Ok (drop at s.values ++ us)) w

  pub joined : (r : Done) → OnWell r (Above (length s.values) s m.stack) → reaches (pushed r (length s.values) m) (and_then k joined_next) (world m) ≡ reaches (pushed r at m) k (world m)
  joined Well a = ap (λ vs. Some (k (Ok vs) (world m))) (joined_values at s m.stack h a)
  joined Failed a = refl

-- ---- one value

module _ (at : ℕ) (s : Piled) (v : Value) (h : at ≤ length s.values) where
  pub push_from : drop at (s.values ++ v ∷ []) ≡ drop at s.values ++ v ∷ []
  push_from = drop-append-le at s.values (v ∷ []) h

  pub push_above : Above (length s.values) s (with_values s (s.values ++ v ∷ []))
  push_above = record {
    within = omega (arith, length-append s.values (v ∷ []));
    values = take-append_seam s.values (v ∷ []) ∙ sym (take-length s.values);
    cells = refl;
  }

module _ {H : Type 0} {asked : H → Ask → Answer → H → Type 0} (meaning : Next (List Value) → Run) (m m1 m2 : Machine H) (c : ManyOf asked meaning m (length m.stack.values) G.One m1) where
  same : m1.stack ≡ m.stack
  same = c.stack ∙ ap (with_values m.stack) (take-length m.stack.values)

  one_leads : (r : Done) → Pushed m1 r m2 → (k : Next (List Value)) → Leads asked (point m) (meaning k) (point m2) (reaches (pushed r (length m.stack.values) m2) k (world m2))
  one_leads Well e k =
      let v : drop (length m.stack.values) (m1.stack.values ++ m1.value ∷ []) ≡ m1.value ∷ [] =
      ap (λ s. drop (length m.stack.values) (s.values ++ m1.value ∷ [])) same ∙ drop-append_seam m.stack.values (m1.value ∷ []) in
      rw (e, v) (c.leads k)
  one_leads Failed e k = leads_on (c.leads k) (no_memory m1 m2 e _ k)

  one_above : (r : Done) → Pushed m1 r m2 → OnWell r (Above (length m.stack.values) m.stack m2.stack)
  one_above Well e = rw (e, same) (push_above 0 m.stack m1.value (omega arith))
  one_above Failed e = tt

  -- the one value of a part comes onto the stack
  pub one_pushed : (r : Done) → Pushed m1 r m2 → PushedOf asked meaning m (length m.stack.values) r m2
  one_pushed r e = record { leads = one_leads r e; stack = one_above r e }

-- ---- a number of values

pub filled_again : (n : ℕ) (vs : List Value) → filled n (take n vs) ≡ filled n vs
filled_again n vs = grind (arith, common_steps)

module _ (at n : ℕ) (s s1 : Piled) (h : at ≤ length s.values) (e : s1 ≡ with_values s (take at s.values ++ filled n (take n (drop at s.values)))) where
  pub filled_from : drop at s1.values ≡ filled n (drop at s.values)
  filled_from = ap (λ x. drop at x.values) e ∙ from_seam at s.values (filled n (take n (drop at s.values))) h ∙ filled_again n (drop at s.values)

  pub filled_above : Above at s s1
  filled_above = record {
    within = omega (arith, ap (λ x. length x.values) e, seam_length at s.values (filled n (take n (drop at s.values))) h);
    values = ap (λ x. take at x.values) e ∙ to_seam at s.values (filled n (take n (drop at s.values))) h;
    cells = ap (λ x. x.cells) e;
  }

-- one more value, and then a number of all
module _ {H : Type 0} {asked : H → Ask → Answer → H → Type 0} (at n : ℕ) (s : Piled) (m1 m2 m3 : Machine H) (h : at ≤ length s.values) (same : m1.stack ≡ s)
    (e : Pushed m1 Well m2) (r : Done) (c : PushedOf asked (λ k. k (Ok (filled n (drop at m2.stack.values))) (world m2)) m2 at r m3) where
  filled_stack : m2.stack ≡ with_values s (s.values ++ m1.value ∷ [])
  filled_stack = ap (λ x. x.stack) e ∙ ap (λ x. with_values x (x.values ++ m1.value ∷ [])) same

  pub one_filled : (k : Next (List Value)) → Leads asked (point m1) (k (Ok (filled n (drop at s.values ++ m1.value ∷ []))) (world m1)) (point m3) (reaches (pushed r at m3) k (world m3))
  one_filled k =
      let v : drop at m2.stack.values ≡ drop at s.values ++ m1.value ∷ [] = ap (λ x. drop at x.values) filled_stack ∙ push_from at s m1.value h in
      let l = rw v at (c.leads k) in
      rw e at l

  pub one_above_filled : OnWell r (Above at s m3.stack)
  one_above_filled = well_past r at s m2.stack m3.stack h (rw filled_stack (push_above 0 s m1.value (omega arith))) c.stack

-- all values of an expression, and then a number of all
module _ {H : Type 0} {asked : H → Ask → Answer → H → Type 0} (at n : ℕ) (s : Piled) (m1 m2 : Machine H) (h : at ≤ length s.values) (a : Above (length s.values) s m1.stack)
    (r : Done) (c : PushedOf asked (λ k. k (Ok (filled n (drop at m1.stack.values))) (world m1)) m1 at r m2) where
  pub all_filled : (k : Next (List Value)) → Leads asked (point m1) (k (Ok (filled n (drop at s.values ++ drop (length s.values) m1.stack.values))) (world m1)) (point m2) (reaches (pushed r at m2) k (world m2))
  all_filled k = rw (joined_values at s m1.stack h a) (c.leads k)

  pub all_above_filled : OnWell r (Above at s m2.stack)
  all_above_filled = well_past r at s m1.stack m2.stack h a c.stack
