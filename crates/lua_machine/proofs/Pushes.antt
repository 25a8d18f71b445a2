-- Values that come onto the stack.
use Rattle.std.proofs.Common.{◌≡◌, ℕ, ◌≤◌, Ok, Some, List, [], ◌∷◌, ◌++◌, length, take, drop, refl, sym, ap, ◌∙◌, arith, length-append, append_assoc}
use Rattle.std.proofs.Math.Seq.{take-length, drop-append_seam, take-append_seam}
use Rattle.object_store.specs.declared.value.Value.{Value}
use Rattle.lanes_lib.specs.declared.ask.Ask.{Ask}
use Rattle.lanes_lib.specs.declared.ask.Answer.{Answer}
use Rattle.lua_meaning.specs.Run.{Next, Leads, here, reaches}
use Rattle.lua_machine.specs.Piled.{Piled, cut, with_values}
use Rattle.lua_machine.specs.declared.machine.Machine.{Machine}
use Rattle.lua_machine.specs.declared.machine.Done.{Done}
use Rattle.lua_machine.specs.declared.machine.Done.TheVariants.{Well, Failed}
use Rattle.lua_machine.specs.Does.{point, world, pushed, OnWell, Above}
use Rattle.lua_machine.specs.Moved.{Pushed}
use Rattle.lua_machine.proofs.Leads.{same_run, no_memory, upto}

-- ---- further values

module _ {H : Type 0} (asked : H → Ask → Answer → H → Type 0) (m m1 : Machine H) (vs : List Value) (k : Next (List Value)) where
  pub appended : m1 ≡ record m { stack = with_values m.stack (m.stack.values ++ vs) } → Leads asked (point m) (k (Ok vs) (world m)) (point m1) (reaches (pushed Well (length m.stack.values) m1) k (world m1))
  appended e = rw e (same_run refl (ap (λ us. k (Ok us) (world m)) (sym (drop-append_seam m.stack.values vs))))

pub appended_above : (s s1 : Piled) (vs : List Value) → s1 ≡ with_values s (s.values ++ vs) → Above (length s.values) s s1
appended_above s s1 vs e = record {
  within = rw e (omega (arith, length-append s.values vs));
  values = rw e (take-append_seam s.values vs ∙ sym (take-length s.values));
  cells = ap (λ x. x.cells) e;
}

module _ {H : Type 0} (asked : H → Ask → Answer → H → Type 0) (m m1 : Machine H) where
  -- one more value
  pub pushed_leads : (r : Done) (k : Next (List Value)) → Pushed m r m1 → Leads asked (point m) (k (Ok (m.value ∷ [])) (world m)) (point m1) (reaches (pushed r (length m.stack.values) m1) k (world m1))
  pushed_leads Well k e = appended asked m m1 (m.value ∷ []) k e
  pushed_leads Failed k e = no_memory m m1 e (k (Ok (m.value ∷ [])) (world m)) k

  pub pushed_above : (r : Done) → Pushed m r m1 → OnWell r (Above (length m.stack.values) m.stack m1.stack)
  pushed_above Well e = appended_above m.stack m1.stack (m.value ∷ []) (ap (λ x. x.stack) e)
  pushed_above Failed e = tt

-- ---- the arguments of a handler

pub two_args : (s : List Value) (x y : Value) → drop (length s) ((s ++ x ∷ []) ++ y ∷ []) ≡ x ∷ y ∷ []
two_args s x y = ap (drop (length s)) (append_assoc s (x ∷ []) (y ∷ [])) ∙ drop-append_seam s (x ∷ y ∷ [])

pub two_below : (s : List Value) (x y : Value) → take (length s) ((s ++ x ∷ []) ++ y ∷ []) ≡ s
two_below s x y = ap (take (length s)) (append_assoc s (x ∷ []) (y ∷ [])) ∙ take-append_seam s (x ∷ y ∷ [])

pub three_args : (s : List Value) (x y z : Value) → drop (length s) (((s ++ x ∷ []) ++ y ∷ []) ++ z ∷ []) ≡ x ∷ y ∷ z ∷ []
three_args s x y z = ap (λ l. drop (length s) (l ++ z ∷ [])) (append_assoc s (x ∷ []) (y ∷ [])) ∙ ap (drop (length s)) (append_assoc s (x ∷ y ∷ []) (z ∷ [])) ∙ drop-append_seam s (x ∷ y ∷ z ∷ [])

pub three_below : (s : List Value) (x y z : Value) → take (length s) (((s ++ x ∷ []) ++ y ∷ []) ++ z ∷ []) ≡ s
three_below s x y z = ap (λ l. take (length s) (l ++ z ∷ [])) (append_assoc s (x ∷ []) (y ∷ [])) ∙ ap (take (length s)) (append_assoc s (x ∷ y ∷ []) (z ∷ [])) ∙ take-append_seam s (x ∷ y ∷ z ∷ [])

-- ---- the values of a call are dropped, but for its first

-- what stood below two arguments
pub cut_two : (s s1 : Piled) (x y : Value) → s1.cells ≡ s.cells → take (length s.values) s1.values ≡ take (length s.values) ((s.values ++ x ∷ []) ++ y ∷ []) → cut (length s.values) s1 ≡ s
cut_two s s1 x y c v =
    let e : take (length s.values) s1.values ≡ s.values = v ∙ two_below s.values x y in
    λ i. record { values = e i; cells = c i }

pub cut_three : (s s1 : Piled) (x y z : Value) → s1.cells ≡ s.cells → take (length s.values) s1.values ≡ take (length s.values) (((s.values ++ x ∷ []) ++ y ∷ []) ++ z ∷ []) → cut (length s.values) s1 ≡ s
cut_three s s1 x y z c v =
    let e : take (length s.values) s1.values ≡ s.values = v ∙ three_below s.values x y z in
    λ i. record { values = e i; cells = c i }
