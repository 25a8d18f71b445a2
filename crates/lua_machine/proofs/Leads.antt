-- How the parts of a run follow one another.
use Rattle.std.proofs.Common.{◌≡◌, ℕ, ◌-◌, ◌<◌, Result, Ok, Err, Option, Some, None, refl, sym, ap, ◌∙◌, subst, arith, Bool, List}
use Rattle.std.proofs.lemmas.Bool.Decides.{nat_tests}
use Rattle.object_store.specs.declared.value.Value.{Value}
use Rattle.lanes_lib.specs.declared.ask.Ask.{Ask}
use Rattle.lanes_lib.specs.declared.ask.Answer.{Answer}
use Rattle.lua_meaning.specs.declared.fault.Fault.{Fault}
use Rattle.lua_meaning.specs.declared.fault.Fault.TheVariants as F
use Rattle.lua_meaning.specs.Run.{World, Run, Next, Point, reaches, Leads, here, lost, more, wrote}
use Rattle.lua_meaning.specs.Level.{tick}
use Rattle.lua_meaning.specs.Names.{is_true}
use Rattle.lua_machine.specs.declared.machine.Machine.{Machine}
use Rattle.lua_machine.specs.declared.machine.Window.{Window}
use Rattle.lua_machine.specs.declared.machine.Done.{Done}
use Rattle.lua_machine.specs.declared.machine.Done.TheVariants.{Well, Failed}
use Rattle.lua_machine.specs.declared.machine.Got.{Got}
use Rattle.lua_machine.specs.declared.machine.Got.TheVariants as G
use Rattle.lua_machine.specs.declared.machine.Test.{Test}
use Rattle.lua_machine.specs.declared.machine.Test.TheVariants as T
use Rattle.lua_machine.specs.declared.machine.FlowTag.TheVariants as tag
use Rattle.lua_machine.specs.Does.{Kept, world, point, OnWell, OnTest, unit, one, truth, UnitOf, OneOf, PushedOf, ManyOf, FlowOf, TestOf}

module _ {H : Type 0} {asked : H → Ask → Answer → H → Type 0} where
  -- a part after a part
  pub leads_on : {h h1 h2 : Point H} {r r1 : Run} {r2 : Option Run} → Leads asked h r h1 (Some r1) → Leads asked h1 r1 h2 r2 → Leads asked h r h2 r2
  leads_on here m = m
  leads_on (more s l) m = more s (leads_on l m)
  leads_on (wrote l) m = wrote (leads_on l m)

  -- a part that asks nothing
  pub same_run : {h h1 : Point H} {r r1 : Run} → h1 ≡ h → r ≡ r1 → Leads asked h r h1 (Some r1)
  same_run {h} {h1} {r} {r1} e d = subst (λ x. Leads asked h r x (Some r1)) (sym e) (subst (λ x. Leads asked h r h (Some x)) d here)

module _ {H : Type 0} {asked : H → Ask → Answer → H → Type 0} where
  -- another name of the run at the point where a part begins
  pub from : {h h1 : Point H} {r r1 : Run} {r2 : Option Run} → r ≡ r1 → Leads asked h r1 h1 r2 → Leads asked h r h1 r2
  from {h} {h1} {r} {r1} {r2} e l = subst (λ x. Leads asked h x h1 r2) (sym e) l

  -- another name of the run at the point where it ends
  pub upto : {h h1 : Point H} {r : Run} {r1 r2 : Option Run} → r1 ≡ r2 → Leads asked h r h1 r1 → Leads asked h r h1 r2
  upto {h} {h1} {r} {r1} {r2} e l = subst (λ x. Leads asked h r h1 x) e l

-- ---- steps

pub tick_spent : (w : World) (k : Next (Unit {0})) → w.left < 2 → tick w k ≡ k (Err F.Spent) (record w { left = 0 })
unfolding tick
tick_spent w k h = grind (arith, nat_tests)

pub tick_goes : (w : World) (k : Next (Unit {0})) → (w.left < 2 → ⊥) → tick w k ≡ k (Ok tt) (record w { left = w.left - 1 })
unfolding tick
tick_goes w k h = grind (arith, nat_tests)

-- ---- parts of the machine's own: they ask nothing, and change the value and the fault alone

-- for want of memory nothing is said
pub reached : {H : Type 0} {asked : H → Ask → Answer → H → Type 0} {A : Type 0} (h : Point H) (o : Result A Fault) (k : Next A) (w : World) → Leads asked h (k o w) h (reaches o k w)
reached h (Ok a) k w = here
reached h (Err (F.Raised v)) k w = here
reached h (Err F.Spent) k w = here
reached h (Err F.Cancelled) k w = here
reached h (Err F.WriteFault) k w = here
reached h (Err F.Broken) k w = here
reached h (Err F.Memory) k w = lost

-- want of memory
pub no_memory : {H : Type 0} {asked : H → Ask → Answer → H → Type 0} {A : Type 0} (m m1 : Machine H) → m1 ≡ record m { fault = F.Memory } → (r : Run) (k : Next A) → Leads asked (point m) r (point m1) (reaches (Err m1.fault) k (world m1))
no_memory m m1 e r k = rw e lost

pub given : {H : Type 0} {asked : H → Ask → Answer → H → Type 0} {A : Type 0} {m m1 : Machine H} {o o1 : Result A Fault} → Kept m m1 → o1 ≡ o → (k : Next A) → Leads asked (point m) (k o (world m)) (point m1) (reaches o1 k (world m1))
given {H} {asked} {A} {m} {m1} {o} {o1} kept e k =
    rw (e, kept.host, kept.state, kept.left) (reached (point m) o k (world m))

pub kept_by : {H : Type 0} (m m1 : Machine H) (v : Value) (f : Fault) → m1 ≡ record m { value = v; fault = f } → Kept m m1
kept_by m m1 v f e = rw e (record { state = refl; left = refl; stack = refl; host = refl })

pub always : {P : Type 0} (r : Done) → P → OnWell r P
always Well p = p
always Failed p = tt

pub on_test : {P : Type 0} (r : Test) → P → OnTest r P
on_test T.Yes p = p
on_test T.No p = p
on_test T.Failed p = tt

module _ {H : Type 0} (asked : H → Ask → Answer → H → Type 0) (m m1 : Machine H) where
  pub one_given : (r : Done) (o : Result Value Fault) → Kept m m1 → one r m1 ≡ o → OneOf asked (λ k. k o (world m)) m r m1
  one_given r o kept e = record { leads = λ k. given kept e k; stack = always r kept.stack }

  -- a value that is put there
  pub one_value : (v : Value) → m1 ≡ record m { value = v } → OneOf asked (λ k. k (Ok v) (world m)) m Well m1
  one_value v e = one_given Well (Ok v) (kept_by m m1 v m.fault e) (ap (λ x. Ok (x.value)) e)

  -- failures of the machine's own
  pub one_failed : (f : Fault) → m1 ≡ record m { fault = f } → OneOf asked (λ k. k (Err f) (world m)) m Failed m1
  one_failed f e = record { leads = λ k. rw e (reached (point m) (Err f) k (world m)); stack = tt }

  pub unit_failed : (f : Fault) → m1 ≡ record m { fault = f } → UnitOf asked (λ k. k (Err f) (world m)) m Failed m1
  unit_failed f e = record { leads = λ k. rw e (reached (point m) (Err f) k (world m)); stack = tt }

  pub pushed_failed : (at : ℕ) (f : Fault) → m1 ≡ record m { fault = f } → PushedOf asked (λ k. k (Err f) (world m)) m at Failed m1
  pushed_failed at f e = record { leads = λ k. rw e (reached (point m) (Err f) k (world m)); stack = tt }

  pub many_failed : (at : ℕ) (f : Fault) → m1 ≡ record m { fault = f } → ManyOf asked (λ k. k (Err f) (world m)) m at G.Failed m1
  many_failed at f e = record { leads = λ k. rw e (reached (point m) (Err f) k (world m)); stack = tt }

  pub test_failed : (f : Fault) → m1 ≡ record m { fault = f } → TestOf asked (λ k. k (Err f) (world m)) m T.Failed m1
  test_failed f e = record { leads = λ k. rw e (reached (point m) (Err f) k (world m)); stack = tt }

  pub flow_failed : (w : Window) (f : Fault) → m1 ≡ record m { fault = f } → FlowOf asked (λ k. k (Err f) (world m)) m w tag.Fails m1
  flow_failed w f e = record { leads = λ k. rw e (reached (point m) (Err f) k (world m)); stack = tt }

pub judged_at : {H : Type 0} (r : Test) (m : Machine H) (k : Next Bool) → truth r m ≡ Ok (is_true m.value) → Some (k (Ok (is_true m.value)) (world m)) ≡ reaches (truth r m) k (world m)
judged_at r m k e = ap (λ o. reaches o k (world m)) (sym e)
