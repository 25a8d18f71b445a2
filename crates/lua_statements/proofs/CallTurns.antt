-- The call of the function of a generic `for`.
use Rattle.std.proofs.Common.{◌≡◌, ℕ, ◌+◌, ◌≤◌, Result, Ok, Err, Some, List, [], ◌∷◌, ◌++◌, length, take, drop, refl, sym, ap, ◌∙◌, arith, append_assoc, length-append}
use Rattle.std.proofs.Math.Seq.{take-length, drop-append_seam, take-append_seam}
use Rattle.object_store.specs.declared.value.Value.{Value}
use Rattle.lanes_lib.specs.declared.ask.Ask.{Ask}
use Rattle.lanes_lib.specs.declared.ask.Answer.{Answer}
use Rattle.lua_meaning.specs.declared.fault.Site.{Site}
use Rattle.lua_meaning.specs.Run.{World, Run, Next, Leads, reaches}
use Rattle.lua_meaning.specs.Level.{Level}
use Rattle.lua_machine.specs.Piled.{Piled, cut, with_values}
use Rattle.lua_machine.specs.declared.machine.Machine.{Machine}
use Rattle.lua_machine.specs.declared.machine.Done.{Done}
use Rattle.lua_machine.specs.declared.machine.Done.TheVariants.{Well, Failed}
use Rattle.lua_machine.specs.declared.machine.Got.{Got}
use Rattle.lua_machine.specs.declared.machine.Got.TheVariants as G
use Rattle.lua_machine.specs.Does.{Above, OnWell, world, point, pushed, many, ManyOf}
use Rattle.lua_machine.specs.Moved.{Pushed}
use Rattle.lua_machine.proofs.Leads.{leads_on, upto, no_memory}

-- two values above a stack
two_from : (s : List Value) (a b : Value) → drop (length s) ((s ++ a ∷ []) ++ b ∷ []) ≡ a ∷ b ∷ []
two_from s a b = ap (drop (length s)) (append_assoc s (a ∷ []) (b ∷ [])) ∙ drop-append_seam s (a ∷ b ∷ [])

two_below : (s : List Value) (a b : Value) → take (length s) ((s ++ a ∷ []) ++ b ∷ []) ≡ s
two_below s a b = ap (take (length s)) (append_assoc s (a ∷ []) (b ∷ [])) ∙ take-append_seam s (a ∷ b ∷ [])

-- the machine with which the function is called
abbrev pub ready : {H : Type 0} → Machine H → Value → Value → Value → Machine H
ready m go state control = record m { value = go; stack = with_values m.stack ((m.stack.values ++ state ∷ []) ++ control ∷ []) }

pub ready_is : {H : Type 0} (m m1 m2 : Machine H) (go state control : Value) → m1 ≡ record m { value = state; stack = with_values m.stack (m.stack.values ++ state ∷ []) } →
    m2 ≡ record m1 { value = control; stack = with_values m1.stack (m1.stack.values ++ control ∷ []) } → record m2 { value = go } ≡ ready m go state control
ready_is {H} m m1 m2 go state control e e2 =
    ap (λ (x : Machine H). record x { value = go }) e2 ∙ ap (λ (x : Machine H). record x { value = go; stack = with_values x.stack (x.stack.values ++ control ∷ []) }) e

module _ {H : Type 0} (go state control : Value) (m m1 m2 : Machine H) (at : ℕ) (is : at ≡ length m.stack.values) (e : m1 ≡ ready m go state control) where
  pub at_within : at ≤ length m1.stack.values
  at_within = omega (arith, is, ap (λ m. length m.stack.values) e, length-append (m.stack.values ++ state ∷ []) (control ∷ []), length-append m.stack.values (state ∷ []))

  pub call_one : m2.stack ≡ cut at m1.stack → m2.stack ≡ m.stack
  call_one h = h ∙ ap (λ m. cut at m.stack) e ∙ ap (λ n. cut n (ready m go state control).stack) is ∙ ap (with_values m.stack) (two_below m.stack.values state control)

  pub call_many : Above at m1.stack m2.stack → Above (length m.stack.values) m.stack m2.stack
  call_many a = record {
    within = omega (arith, a.within, is);
    values = ap (λ n. take n m2.stack.values) (sym is) ∙ a.values ∙ ap (λ m. take at m.stack.values) e ∙ ap (λ n. take n (ready m go state control).stack.values) is ∙ two_below m.stack.values state control ∙ sym (take-length m.stack.values);
    cells = a.cells ∙ ap (λ m. m.stack.cells) e;
  }

module _ {H : Type 0} {asked : H → Ask → Answer → H → Type 0} (l : Level) (go state control : Value) (site : Site) (m m1 m2 : Machine H) (at : ℕ)
    (is : at ≡ length m.stack.values) (e : m1 ≡ ready m go state control) where
  pub call_leads : (r : Got) → ManyOf asked (l.call m1.value (drop at m1.stack.values) site (world m1)) m1 at r m2 → (k : Next (List Value)) →
      Leads asked (point m) (l.call go (state ∷ control ∷ []) site (world m) k) (point m2) (reaches (many r (length m.stack.values) m2) k (world m2))
  call_leads r c k = rw (e, is, two_from m.stack.values state control) at c.leads k

-- a value that comes onto the stack
module _ {H : Type 0} {asked : H → Ask → Answer → H → Type 0} (m m2 m3 : Machine H) (same : m2.stack ≡ m.stack) where
  pub one_leads : (r : Done) → Pushed m2 r m3 → (run : Run) (k : Next (List Value)) → Leads asked (point m) run (point m2) (Some (k (Ok (m2.value ∷ [])) (world m2))) →
      Leads asked (point m) run (point m3) (reaches (pushed r (length m.stack.values) m3) k (world m3))
  one_leads Well e run k before =
      let v : drop (length m.stack.values) (m2.stack.values ++ m2.value ∷ []) ≡ m2.value ∷ [] =
      ap (λ s. drop (length m.stack.values) (s.values ++ m2.value ∷ [])) same ∙ drop-append_seam m.stack.values (m2.value ∷ []) in
      rw (e, v) before
  one_leads Failed e run k before = leads_on before (no_memory m2 m3 e _ k)

module _ {H : Type 0} (m m2 m3 : Machine H) (same : m2.stack ≡ m.stack) where
  pub one_above : (r : Done) → Pushed m2 r m3 → OnWell r (Above (length m.stack.values) m.stack m3.stack)
  one_above Well e = rw (e, same) record {
    within = omega (arith, length-append m.stack.values (m2.value ∷ []));
    values = take-append_seam m.stack.values (m2.value ∷ []) ∙ sym (take-length m.stack.values);
    cells = refl;
  }
  one_above Failed e = tt
