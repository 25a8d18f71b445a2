-- Values that stand in place of arguments.
use Rattle.std.proofs.Common.{◌≡◌, ℕ, ◌-◌, ◌≤◌, List, [], ◌∷◌, ◌++◌, length, take, drop, refl, sym, ap, ◌∙◌, arith, append_assoc, replicate}
use Rattle.std.proofs.Math.Seq.{drop-append_seam, take-append_seam}
use Rattle.std.proofs.lemmas.List.{take-append-le}
use Rattle.object_store.specs.declared.value.Value.{Value}
use Rattle.object_store.specs.declared.value.Value.TheVariants as V
use Rattle.lanes_lib.specs.declared.ask.Ask.{Ask}
use Rattle.lanes_lib.specs.declared.ask.Answer.{Answer}
use Rattle.lua_meaning.specs.Run.{here}
use Rattle.lua_meaning.specs.Names.{filled}
use Rattle.lua_machine.specs.Piled.{Piled, cut, with_values}
use Rattle.lua_machine.specs.declared.machine.Machine.{Machine}
use Rattle.lua_machine.specs.declared.machine.Got.{Got}
use Rattle.lua_machine.specs.declared.machine.Got.TheVariants as G
use Rattle.lua_machine.specs.Does.{Above, StackGot}
use Rattle.lua_machine.proofs.Windows.{from_seam, to_seam, seam_length, take_take, cut_length}
use Rattle.lua_builtins.specs.Gives.{Gives}

module _ {H : Type 0} (asked : H → Ask → Answer → H → Type 0) (m : Machine H) (at : ℕ) (within : at ≤ length m.stack.values) where
  -- values that were put there
  pub many_given : (m1 : Machine H) (v : Value) (us vs : List Value) → m1 ≡ record m { value = v; stack = with_values m.stack us } → us ≡ take at m.stack.values ++ vs → Gives asked vs m at G.Many m1
  many_given m1 v us vs e u = record {
    leads = λ k. rw (e, u, from_seam at m.stack.values vs within) here;
    stack = rw (e, u) record {
      within = omega (arith, seam_length at m.stack.values vs within);
      values = to_seam at m.stack.values vs within;
      cells = refl;
    };
  }

  -- the arguments themselves
  pub all_given : Gives asked (drop at m.stack.values) m at G.Many m
  all_given = record { leads = λ k. here; stack = record { within = within; values = refl; cells = refl } }

-- on a stack that was cut
module _ (at : ℕ) (s s1 : Piled) where
  pub above_cut : Above at (cut at s) s1 → Above at s s1
  above_cut a = record { within = a.within; values = a.values ∙ take_take at at s.values (omega arith); cells = a.cells }

  pub got_cut : (r : Got) → StackGot r at (cut at s) s1 → StackGot r at s s1
  got_cut G.One e = e ∙ ap (with_values s) (take_take at at s.values (omega arith))
  got_cut G.Many a = above_cut a
  got_cut G.Failed a = tt

-- on a stack with other values above
pub got_above : (r : Got) (at : ℕ) (s s1 s2 : Piled) → Above at s s1 → StackGot r at s1 s2 → StackGot r at s s2
got_above G.One at s s1 s2 a e =
    let v : take at s1.values ≡ take at s.values = a.values in
    let c : s1.cells ≡ s.cells = a.cells in
    e ∙ (λ i. record { values = v i; cells = c i })
got_above G.Many at s s1 s2 a b = record { within = b.within; values = b.values ∙ a.values; cells = b.cells ∙ a.cells }
got_above G.Failed at s s1 s2 a b = tt

pub two_more : (s : List Value) (a b : Value) → (s ++ a ∷ []) ++ b ∷ [] ≡ s ++ a ∷ b ∷ []
two_more s a b = append_assoc s (a ∷ []) (b ∷ [])

pub three_more : (s : List Value) (a b c : Value) → ((s ++ a ∷ []) ++ b ∷ []) ++ c ∷ [] ≡ s ++ a ∷ b ∷ c ∷ []
three_more s a b c = ap (λ l. l ++ c ∷ []) (two_more s a b) ∙ append_assoc s (a ∷ b ∷ []) (c ∷ [])

pub filled_three : (vs : List Value) → filled 3 (take 3 vs) ≡ filled 3 vs
filled_three [] = refl
filled_three (a ∷ []) = refl
filled_three (a ∷ b ∷ []) = refl
filled_three (a ∷ b ∷ c ∷ vs) =
    let z : 3 - length (a ∷ b ∷ c ∷ vs) ≡ 0 = omega arith in ap (λ n. a ∷ b ∷ c ∷ replicate n V.Nil) (sym z)

-- ---- arguments above a stack

pub all_args : (at : ℕ) (s vs : List Value) (v : Value) → at ≡ length s → drop at ((s ++ v ∷ []) ++ vs) ≡ v ∷ vs
all_args at s vs v is = ap (drop at) (append_assoc s (v ∷ []) vs) ∙ ap (λ n. drop n (s ++ v ∷ vs)) is ∙ drop-append_seam s (v ∷ vs)

pub above_all : (at : ℕ) (s s1 : Piled) (vs : List Value) (v : Value) → at ≡ length s.values → Above at (with_values s ((s.values ++ v ∷ []) ++ vs)) s1 → Above at s s1
above_all at s s1 vs v is a = record {
  within = a.within;
  values = a.values ∙ ap (take at) (append_assoc s.values (v ∷ []) vs) ∙ take-append-le at s.values (v ∷ vs) (omega (arith, is));
  cells = a.cells;
}

pub one_args : (at : ℕ) (s : List Value) (v : Value) → at ≡ length s → drop at (s ++ v ∷ []) ≡ v ∷ []
one_args at s v is = ap (λ n. drop n (s ++ v ∷ [])) is ∙ drop-append_seam s (v ∷ [])

pub one_below : (at : ℕ) (s : List Value) (v : Value) → at ≡ length s → take at (s ++ v ∷ []) ≡ s
one_below at s v is = ap (λ n. take n (s ++ v ∷ [])) is ∙ take-append_seam s (v ∷ [])

-- a stack that was cut
pub cut_is_above : (at : ℕ) (s : Piled) → at ≤ length s.values → Above at s (cut at s)
cut_is_above at s h = record { within = omega (arith, cut_length at s.values h); values = take_take at at s.values (omega arith); cells = refl }
