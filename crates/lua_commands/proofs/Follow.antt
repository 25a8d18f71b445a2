-- How parts of a statement follow one another.
use Rattle.std.proofs.Common.{◌≡◌, subst, Ok, Err, Some, sym, ap}
use Rattle.object_store.specs.declared.value.Value.{Value}
use Rattle.lanes_lib.specs.declared.ask.Ask.{Ask}
use Rattle.lanes_lib.specs.declared.ask.Answer.{Answer}
use Rattle.lua_meaning.specs.declared.fault.Fault.{Fault}
use Rattle.lua_meaning.specs.Run.{World, Run, Next, and_then}
use Rattle.lua_meaning.specs.Level.{Frame, Locals, Flow, Goes}
use Rattle.lua_meaning.specs.Statements.{goes, with_locals}
use Rattle.lua_machine.specs.Piled.{Piled}
use Rattle.lua_machine.specs.declared.machine.Machine.{Machine}
use Rattle.lua_machine.specs.declared.machine.Window.{Window}
use Rattle.lua_machine.specs.declared.machine.Done.{Done}
use Rattle.lua_machine.specs.declared.machine.Done.TheVariants.{Well, Failed}
use Rattle.lua_machine.specs.declared.machine.FlowTag.{FlowTag}
use Rattle.lua_machine.specs.Does.{Fits, Around, OnWell, frame, locals, world, point, OneOf, UnitOf, FlowOf}
use Rattle.lua_machine.specs.Moved.{LocalsOf}
use Rattle.lua_machine.proofs.Leads.{leads_on, from, upto, reached}
use Rattle.lua_machine.proofs.Frames.{around_same, around_then, frame_around}
use Rattle.lua_statements.specs.Locals.{past}
use Rattle.lua_commands.specs.Assigned.{flow_by}

pub past_same : (f : Window) (s s1 : Piled) (r : Done) → OnWell r (s1 ≡ s) → OnWell r (past f s1 ≡ past f s)
past_same f s s1 Well e = ap (past f) e
past_same f s s1 Failed e = tt

module _ {H : Type 0} {asked : H → Ask → Answer → H → Type 0} (f : Window) (m m1 : Machine H) where
  -- a part that changed no local
  pub locals_stay : Fits f m.stack → (meaning : Next (Unit {0}) → Run) (r : Done) → UnitOf asked meaning m r m1 → LocalsOf asked (λ k. meaning (and_then k (λ u w. k (Ok (locals f m.stack)) w))) m f r m1
  locals_stay fits meaning Well u = record {
    leads = λ k. upto (ap (λ s. Some (k (Ok (locals f s)) (world m1))) (sym u.stack)) (u.leads (and_then k (λ x w. k (Ok (locals f m.stack)) w)));
    stack = around_same f m.stack m1.stack fits u.stack;
  }
  locals_stay fits meaning Failed u = record { leads = λ k. u.leads (and_then k (λ x w. k (Ok (locals f m.stack)) w)); stack = tt }

  -- a fault of the machine's own
  pub locals_fail : (fault : Fault) → m1 ≡ record m { fault = fault } → LocalsOf asked (λ k. k (Err fault) (world m)) m f Failed m1
  locals_fail fault e = record { leads = λ k. rw e (reached (point m) (Err fault) k (world m)); stack = tt }

  -- a statement of locals alone
  pub goes_on : (meaning : Next Locals → Run) (r : Done) → LocalsOf asked meaning m f r m1 → FlowOf asked (λ k. meaning (goes k)) m f (flow_by r) m1
  goes_on meaning Well x = record { leads = λ k. x.leads (goes k); stack = x.stack }
  goes_on meaning Failed x = record { leads = λ k. x.leads (goes k); stack = tt }

  -- an expression whose value is dropped
  pub goes_past : Fits f m.stack → (meaning : Next Value → Run) (r : Done) → OneOf asked meaning m r m1 → FlowOf asked (λ k. meaning (and_then k (λ v w. k (Ok (Goes (locals f m.stack))) w))) m f (flow_by r) m1
  goes_past fits meaning Well x = record {
    leads = λ k. upto (ap (λ s. Some (k (Ok (Goes (locals f s))) (world m1))) (sym x.stack)) (x.leads (and_then k (λ v w. k (Ok (Goes (locals f m.stack))) w)));
    stack = around_same f m.stack m1.stack fits x.stack;
  }
  goes_past fits meaning Failed x = record { leads = λ k. x.leads (and_then k (λ v w. k (Ok (Goes (locals f m.stack))) w)); stack = tt }

module _ {H : Type 0} {asked : H → Ask → Answer → H → Type 0} (f : Window) (m m1 m2 : Machine H) (begins : Next Value → Run) (ends : Value → World → Next Locals → Run) where
  -- a part after a value
  pub after_value : (r : Done) → OneOf asked begins m Well m1 → LocalsOf asked (ends m1.value (world m1)) m1 f r m2 → LocalsOf asked (λ k. begins (and_then k (λ v w. ends v w k))) m f r m2
  after_value r a b = record {
    leads = λ k. leads_on (a.leads (and_then k (λ v w. ends v w k))) (b.leads k);
    stack = rw a.stack at b.stack;
  }

module _ {H : Type 0} {asked : H → Ask → Answer → H → Type 0} (f : Window) (m m1 : Machine H) (begins : Next Value → Run) (ends : Value → World → Next Locals → Run) where
  pub no_value : OneOf asked begins m Failed m1 → LocalsOf asked (λ k. begins (and_then k (λ v w. ends v w k))) m f Failed m1
  no_value a = record { leads = λ k. a.leads (and_then k (λ v w. ends v w k)); stack = tt }

-- ---- another name of what is meant

module _ {H : Type 0} {asked : H → Ask → Answer → H → Type 0} (f : Window) (m m1 : Machine H) where
  pub locals_by : (a b : Next Locals → Run) (r : Done) → ((k : Next Locals) → a k ≡ b k) → LocalsOf asked b m f r m1 → LocalsOf asked a m f r m1
  locals_by a b r e x = record { leads = λ k. from (e k) (x.leads k); stack = x.stack }

  pub flow_named : (a b : Next Flow → Run) (r : FlowTag) → ((k : Next Flow) → a k ≡ b k) → FlowOf asked b m f r m1 → FlowOf asked a m f r m1
  flow_named a b r e x = record { leads = λ k. from (e k) (x.leads k); stack = x.stack }

  -- the frame of the same stack
  pub locals_moved : (r : Done) (s s1 : Piled) → s ≡ s1 → (meaning : Frame → Next Locals → Run) → LocalsOf asked (meaning (frame f s)) m f r m1 → LocalsOf asked (meaning (frame f s1)) m f r m1
  locals_moved r s s1 e meaning x = subst (λ s. LocalsOf asked (meaning (frame f s)) m f r m1) e x

  pub one_moved : (r : Done) (s s1 : Piled) → s ≡ s1 → (meaning : Frame → Next Value → Run) → OneOf asked (meaning (frame f s)) m r m1 → OneOf asked (meaning (frame f s1)) m r m1
  one_moved r s s1 e meaning x = subst (λ s. OneOf asked (meaning (frame f s)) m r m1) e x

-- ---- a part after locals

module _ {H : Type 0} {asked : H → Ask → Answer → H → Type 0} (f : Window) (m m1 m2 : Machine H) (begins : Next Locals → Run) (ends : Frame → World → Next Locals → Run) where
  pub after_locals : Fits f m.stack → (r : Done) → LocalsOf asked begins m f Well m1 → LocalsOf asked (ends (frame f m1.stack) (world m1)) m1 f r m2 → LocalsOf asked (λ k. begins (and_then k (λ locals w. ends (with_locals (frame f m.stack) locals) w k))) m f r m2
  after_locals fits r a b = record {
    leads = λ k. leads_on (a.leads (and_then k (λ locals w. ends (with_locals (frame f m.stack) locals) w k)))
        (from (ap (λ x. ends x (world m1) k) (sym (frame_around f m.stack m1.stack fits a.stack))) (b.leads k));
    stack = around_on r a.stack b.stack;
  }
    where
      around_on : (r : Done) → Around f m.stack m1.stack → OnWell r (Around f m1.stack m2.stack) → OnWell r (Around f m.stack m2.stack)
      around_on Well a b = around_then f m.stack m1.stack m2.stack a b
      around_on Failed a b = tt

module _ {H : Type 0} {asked : H → Ask → Answer → H → Type 0} (f : Window) (m m1 : Machine H) (begins : Next Locals → Run) (ends : Frame → World → Next Locals → Run) where
  pub no_locals : LocalsOf asked begins m f Failed m1 → LocalsOf asked (λ k. begins (and_then k (λ locals w. ends (with_locals (frame f m.stack) locals) w k))) m f Failed m1
  no_locals a = record { leads = λ k. a.leads (and_then k (λ locals w. ends (with_locals (frame f m.stack) locals) w k)); stack = tt }
