-- Statements by their form.
use Rattle.std.proofs.Common.{◌≡◌, subst, ℕ, Ok, refl, sym, ap}
use Rattle.lua_program.specs.declared.stat.RStat.{RStat, out-RStat}
use Rattle.lua_program.specs.declared.stat.RStat.TheOpen as O
use Rattle.lua_program.specs.declared.stat.RBranch.{RBranch}
use Rattle.object_store.specs.declared.value.Value.{Value}
use Rattle.lanes_lib.specs.declared.ask.Ask.{Ask}
use Rattle.lanes_lib.specs.declared.ask.Answer.{Answer}
use Rattle.lua_meaning.specs.Run.{Run, Next, here, and_then}
use Rattle.lua_meaning.specs.Level.{Loaded, Level, Locals, Goes, Breaks, Jumps}
use Rattle.lua_meaning.specs.Statements.{goes, stmt_on}
use Rattle.lua_machine.specs.declared.machine.Machine.{Machine}
use Rattle.lua_machine.specs.declared.machine.Window.{Window}
use Rattle.lua_machine.specs.declared.machine.Done.{Done}
use Rattle.lua_machine.specs.declared.machine.FlowTag.{FlowTag}
use Rattle.lua_machine.specs.declared.machine.FlowTag.TheVariants as tag
use Rattle.lua_machine.specs.Does.{Fits, frame, locals, world, OneOf, FlowOf}
use Rattle.lua_machine.specs.Moved.{LocalsOf}
use Rattle.lua_machine.proofs.Frames.{around_same}
use Rattle.lua_commands.specs.Assigned.{flow_by}
use Rattle.lua_commands.proofs.Follow.{goes_on, goes_past}

-- a statement of which the form is known
module _ {H : Type 0} {asked : H → Ask → Answer → H → Type 0} (p : Loaded) (l : Level) (f : Window) (m m1 : Machine H) (s : RStat) (form : O.RStat-F RStat RBranch) (is : out-RStat s ≡ form) where
  pub by_form : (r : FlowTag) → FlowOf asked (stmt_on p l form (frame f m.stack) (world m)) m f r m1 → FlowOf asked (stmt_on p l (out-RStat s) (frame f m.stack) (world m)) m f r m1
  by_form r x = subst (λ form. FlowOf asked (stmt_on p l form (frame f m.stack) (world m)) m f r m1) (sym is) x

module _ {H : Type 0} {asked : H → Ask → Answer → H → Type 0} (f : Window) (m m1 : Machine H) (r : FlowTag) where
  -- a statement of locals alone
  pub by_locals : (done : Done) → r ≡ flow_by done → (meaning : Next Locals → Run) → LocalsOf asked meaning m f done m1 → FlowOf asked (λ k. meaning (goes k)) m f r m1
  by_locals done e meaning x = subst (λ r. FlowOf asked (λ k. meaning (goes k)) m f r m1) (sym e) (goes_on f m m1 meaning done x)

  -- an expression whose value is dropped
  pub by_value : Fits f m.stack → (done : Done) → r ≡ flow_by done → (meaning : Next Value → Run) → OneOf asked meaning m done m1 → FlowOf asked (λ k. meaning (and_then k (λ v w. k (Ok (Goes (locals f m.stack))) w))) m f r m1
  by_value fits done e meaning x = subst (λ r. FlowOf asked (λ k. meaning (and_then k (λ v w. k (Ok (Goes (locals f m.stack))) w))) m f r m1) (sym e) (goes_past f m m1 fits meaning done x)

  -- a goto
  pub by_jump : Fits f m.stack → (a b a1 b1 : ℕ) → r ≡ tag.Jumps → m1 ≡ record m { leaves = a; statement = b } → a ≡ a1 → b ≡ b1 → FlowOf asked (λ k. k (Ok (Jumps a1 b1 (locals f m.stack))) (world m)) m f r m1
  by_jump fits a b a1 b1 er e ea eb = subst (λ r. FlowOf asked (λ k. k (Ok (Jumps a1 b1 (locals f m.stack))) (world m)) m f r m1) (sym er) (record {
    leads = λ k. rw (e, ea, eb) here;
    stack = around_same f m.stack m1.stack fits (ap (λ (x : Machine H). x.stack) e);
  })

-- a statement that does nothing but end so
module _ {H : Type 0} {asked : H → Ask → Answer → H → Type 0} (f : Window) (m : Machine H) (fits : Fits f m.stack) where
  pub by_going : FlowOf asked (λ k. k (Ok (Goes (locals f m.stack))) (world m)) m f tag.Goes m
  by_going = record { leads = λ k. here; stack = around_same f m.stack m.stack fits refl }

  pub by_break : FlowOf asked (λ k. k (Ok (Breaks (locals f m.stack))) (world m)) m f tag.Breaks m
  by_break = record { leads = λ k. here; stack = around_same f m.stack m.stack fits refl }
