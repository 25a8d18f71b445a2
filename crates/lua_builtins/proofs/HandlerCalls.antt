-- A call of a handler with one argument.
use Rattle.std.proofs.Common.{◌≡◌, ℕ, ◌≤◌, List, [], ◌∷◌, ◌++◌, length, take, drop, sym, ap, ◌∙◌, arith, length-append}
use Rattle.std.proofs.Math.Seq.{take-length, drop-append_seam, take-append_seam}
use Rattle.object_store.specs.declared.value.Value.{Value}
use Rattle.lanes_lib.specs.declared.ask.Ask.{Ask}
use Rattle.lanes_lib.specs.declared.ask.Answer.{Answer}
use Rattle.lua_meaning.specs.declared.fault.Site.{Site}
use Rattle.lua_meaning.specs.Run.{Next, Leads, reaches}
use Rattle.lua_meaning.specs.Level.{Level}
use Rattle.lua_machine.specs.Piled.{Piled, cut, with_values}
use Rattle.lua_machine.specs.declared.machine.Machine.{Machine}
use Rattle.lua_machine.specs.declared.machine.Got.{Got}
use Rattle.lua_machine.specs.declared.machine.Done.{Done}
use Rattle.lua_machine.specs.declared.machine.Done.TheVariants.{Well, Failed}
use Rattle.lua_machine.specs.Does.{Above, OnWell, world, point, many, ManyOf}

-- the machine with which the handler is called
abbrev pub ready : {H : Type 0} → Machine H → Value → Value → Machine H
ready m go v = record m { value = go; stack = with_values m.stack (m.stack.values ++ v ∷ []) }

pub ready_is : {H : Type 0} (m m1 : Machine H) (go v : Value) → m1 ≡ record m { value = v; stack = with_values m.stack (m.stack.values ++ v ∷ []) } → record m1 { value = go } ≡ ready m go v
ready_is {H} m m1 go v e = ap (λ (x : Machine H). record x { value = go }) e

-- a stack that stays as it was before
pub well_on : (r : Done) (s s1 s2 : Piled) → OnWell r (s2 ≡ s1) → s1 ≡ s → OnWell r (s2 ≡ s)
well_on Well s s1 s2 e d = e ∙ d
well_on Failed s s1 s2 e d = tt

module _ {H : Type 0} (go v : Value) (m m1 m2 : Machine H) (at : ℕ) (is : at ≡ length m.stack.values) (e : m1 ≡ ready m go v) where
  pub at_within : at ≤ length m1.stack.values
  at_within = omega (arith, is, ap (λ m. length m.stack.values) e, length-append m.stack.values (v ∷ []))

  pub call_one : m2.stack ≡ cut at m1.stack → m2.stack ≡ m.stack
  call_one h = h ∙ ap (λ m. cut at m.stack) e ∙ ap (λ n. cut n (ready m go v).stack) is ∙ ap (with_values m.stack) (take-append_seam m.stack.values (v ∷ []))

  pub call_many : Above at m1.stack m2.stack → Above at m.stack m2.stack
  call_many a = record {
    within = a.within;
    values = a.values ∙ ap (λ m. take at m.stack.values) e ∙ ap (λ n. take n (ready m go v).stack.values) is ∙ take-append_seam m.stack.values (v ∷ []) ∙ sym (take-length m.stack.values) ∙ ap (λ n. take n m.stack.values) (sym is);
    cells = a.cells ∙ ap (λ m. m.stack.cells) e;
  }

  -- without the values
  pub call_cut : Above at m1.stack m2.stack → cut at m2.stack ≡ m.stack
  call_cut a =
      let b = call_many a in
      let x : take at m2.stack.values ≡ m.stack.values = b.values ∙ ap (λ n. take n m.stack.values) is ∙ take-length m.stack.values in
      let c : m2.stack.cells ≡ m.stack.cells = b.cells in
      λ i. record { values = x i; cells = c i }

module _ {H : Type 0} {asked : H → Ask → Answer → H → Type 0} (l : Level) (go v : Value) (site : Site) (m m1 m2 : Machine H) (at : ℕ)
    (is : at ≡ length m.stack.values) (e : m1 ≡ ready m go v) where
  pub call_leads : (r : Got) → ManyOf asked (l.call m1.value (drop at m1.stack.values) site (world m1)) m1 at r m2 → (k : Next (List Value)) →
      Leads asked (point m) (l.call go (v ∷ []) site (world m) k) (point m2) (reaches (many r at m2) k (world m2))
  call_leads r c k =
      let x : drop at m1.stack.values ≡ v ∷ [] = ap (λ m. drop at m.stack.values) e ∙ ap (λ n. drop n (m.stack.values ++ v ∷ [])) is ∙ drop-append_seam m.stack.values (v ∷ []) in
      let y = rw x at c.leads k in rw e at y
