-- The values of calls on a stack.
use Rattle.std.proofs.Common.{◌≡◌, ℕ, [], ◌∷◌, ◌++◌, length, take, refl, sym, ap, ◌∙◌, arith, length-append}
use Rattle.std.proofs.Math.Seq.{take-length, take-append_seam}
use Rattle.object_store.specs.declared.value.Value.{Value}
use Rattle.lua_machine.specs.Piled.{Piled, cut, with_values}
use Rattle.lua_machine.specs.declared.machine.Got.{Got}
use Rattle.lua_machine.specs.declared.machine.Got.TheVariants as G
use Rattle.lua_machine.specs.Does.{Above, StackGot}

-- the stack after a part that left values from a place on, and a call with them
module _ (at : ℕ) (s s1 s2 : Piled) (a : Above at s s1) where
  cut_same : cut at s1 ≡ cut at s
  cut_same =
      let v = a.values in
      let c = a.cells in
      λ i. record { values = v i; cells = c i }

  pub got_above : (r : Got) → StackGot r at s1 s2 → StackGot r at s s2
  got_above G.One e = e ∙ cut_same
  got_above G.Many b = record { within = b.within; values = b.values ∙ a.values; cells = b.cells ∙ a.cells }
  got_above G.Failed b = tt

-- one value on a stack
module _ (s s1 : Piled) (v : Value) (e : s1 ≡ with_values s (s.values ++ v ∷ [])) where
  pub one_more : Above (length s.values) s s1
  one_more = rw e (record {
    within = omega (arith, length-append s.values (v ∷ []));
    values = take-append_seam s.values (v ∷ []) ∙ sym (take-length s.values);
    cells = refl;
  })

-- the first value of a call
pub taken_stack : (s s1 : Piled) → Above (length s.values) s s1 → cut (length s.values) s1 ≡ s
taken_stack s s1 a =
    let v : take (length s.values) s1.values ≡ s.values = a.values ∙ take-length s.values in
    let c : s1.cells ≡ s.cells = a.cells in
    λ i. record { values = v i; cells = c i }

pub one_stack : (s s1 : Piled) → s1 ≡ cut (length s.values) s → s1 ≡ s
one_stack s s1 e = e ∙ ap (with_values s) (take-length s.values)

pub one_cut : (s s1 : Piled) → s1 ≡ s → s1 ≡ cut (length s.values) s
one_cut s s1 e = e ∙ ap (with_values s) (sym (take-length s.values))
