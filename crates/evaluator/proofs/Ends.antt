-- A call's leads, as a whole run.
use Rattle.std.proofs.Common.{◌≡◌, ◌⊎◌, inl, inr, ◌∙◌, ◌-◌, ℕ, List, Result, Ok, Err, Option, Some, ap, sym, subst}
use Rattle.lua_program.specs.declared.program.Program.{Program}
use Rattle.object_store.specs.declared.value.Value.{Value}
use Rattle.lanes_lib.specs.declared.ask.Ask.{Ask}
use Rattle.lanes_lib.specs.declared.ask.Answer.{Answer}
use Rattle.lua_meaning.specs.declared.fault.Fault.{Fault}
use Rattle.lua_meaning.specs.declared.fault.Fault.TheVariants as F
use Rattle.lua_meaning.specs.declared.fault.Site.{Site}
use Rattle.lua_meaning.specs.Run.{Store, World, Run, Next, Ended, Leads, reaches}
use Rattle.lua_meaning.specs.Level.{Loaded}
use Rattle.lua_meaning.specs.Levels.{level}
use Rattle.lua_meaning.specs.Whole.{meant}
use Rattle.lua_machine.specs.Does.{store_of}
use Rattle.evaluator.specs.declared.outcome.End.TheVariants as E
use Rattle.evaluator.specs.declared.outcome.Outcome.{Outcome}
use Rattle.evaluator.specs.Runs.{RunOf, end_of}
use Rattle.evaluator.proofs.Diaries.{ran, cut_short}

-- one call under other names
pub same_call : (p q : Loaded) (v v1 : Value) (args args1 : List Value) (site : Site) (w w1 : World) (k : Next (List Value)) → p ≡ q → v ≡ v1 → args ≡ args1 → w ≡ w1 → (level p 1000).call v args site w k ≡ (level q 1000).call v1 args1 site w1 k
same_call p q v v1 args args1 site w w1 k e u f h = λ j. (level (e j) 1000).call (u j) (f j) site (h j) k

module _ {R : Type 0} (asked : R → Ask → Answer → R → Type 0) (p : Program) (s s1 : Store) (v : Value) (args : List Value) (h h1 : R) (budget left : ℕ) where
  pub ended : (o : Result (List Value) Fault) (out : Outcome R) → Leads asked (h, s) (meant p s v args budget) (h1, s1) (reaches o Ended (record { store = s1; left = left })) → out.host ≡ h1 → store_of out.state ≡ s1 → out.steps ≡ budget - left → (out.end ≡ end_of budget o) ⊎ ((out.end ≡ E.Memory) × (vs : List Value) × (o ≡ Ok vs)) → RunOf asked p s v args h budget out
  ended o out l host store steps (inl e) = record {
    result = o;
    left = left;
    end = e;
    steps = steps;
    ran = rw (host, store) (ran asked h h1 s (meant p s v args budget) o (record { store = s1; left = left }) l);
  }
  ended o out l host store steps (inr x) =
      let led : Leads asked (h, s) (meant p s v args budget) (h1, s1) (Some (Ended (Ok x.1) (record { store = s1; left = left }))) =
      subst (λ o. Leads asked (h, s) (meant p s v args budget) (h1, s1) (reaches o Ended (record { store = s1; left = left }))) x.2 l in
      record {
        result = Err F.Memory;
        left = left;
        end = x.0;
        steps = steps;
        ran = rw (host, store) (cut_short asked h h1 s (meant p s v args budget) _ (record { store = s1; left = left }) led);
      }
