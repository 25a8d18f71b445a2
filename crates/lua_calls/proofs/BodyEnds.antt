-- The stack when a call ends.
use Rattle.std.proofs.Common.{◌≡◌, ℕ, ◌≤◌, List, ◌++◌, length, take, ap, ◌∙◌, arith}
use Rattle.std.proofs.Math.Seq.{take-length}
use Rattle.object_store.specs.declared.value.Value.{Value}
use Rattle.lua_machine.specs.Piled.{Piled, cut, with_values, with_cells}
use Rattle.lua_machine.specs.declared.machine.Window.{Window}
use Rattle.lua_machine.specs.declared.machine.Got.{Got}
use Rattle.lua_machine.specs.declared.machine.Got.TheVariants as G
use Rattle.lua_machine.specs.Does.{Around, Over, Above, StackGot}
use Rattle.lua_machine.proofs.Windows.{take_take, to_seam, seam_length, cut_length}
use Rattle.lua_machine.proofs.Frames.{below_less}
use Rattle.lua_calls.specs.Bodies.{without_cells}

-- a stack that is the same below a place
pub got_below : (r : Got) (at : ℕ) (s s1 s2 : Piled) → take at s1.values ≡ take at s.values → s1.cells ≡ s.cells → StackGot r at s1 s2 → StackGot r at s s2
got_below G.One at s s1 s2 v c e = e ∙ (λ i. record { values = v i; cells = c i })
got_below G.Many at s s1 s2 v c a = record { within = a.within; values = a.values ∙ v; cells = a.cells ∙ c }
got_below G.Failed at s s1 s2 v c a = tt

module _ (f : Window) (s s1 : Piled) (at : ℕ) (below : at ≤ f.base) where
  low : take f.base s1.values ≡ take f.base s.values → take at s1.values ≡ take at s.values
  low e = below_less at f.base s.values s1.values below e

  -- a window without cells was entered
  pub got_after : (r : Got) (s2 : Piled) → f.cells ≡ length s.cells → Around f s s1 → StackGot r at (without_cells f s1) s2 → StackGot r at s s2
  got_after r s2 fresh a e = got_below r at s (without_cells f s1) s2 (low a.values) (a.cells ∙ ap (λ n. take n s.cells) fresh ∙ take-length s.cells) e

  pub one_left : Around f s s1 → with_cells (cut at s1) (take f.cells s1.cells) ≡ cut at (without_cells f s)
  one_left a = λ i. record { values = low a.values i; cells = a.cells i }

  pub none_left : at ≤ length s1.values → Around f s s1 → Above at (without_cells f s) (with_cells (cut at s1) (take f.cells s1.cells))
  none_left h a = record {
    within = omega (arith, cut_length at s1.values h);
    values = take_take at at s1.values (omega arith) ∙ low a.values;
    cells = a.cells;
  }

  pub many_left : (vs : List Value) → at ≤ length s1.values → Over f s s1 → Above at (without_cells f s) (with_cells (with_values s1 (take at s1.values ++ vs)) (take f.cells s1.cells))
  many_left vs h a = record {
    within = omega (arith, seam_length at s1.values vs h);
    values = to_seam at s1.values vs h ∙ low a.values;
    cells = a.cells;
  }
