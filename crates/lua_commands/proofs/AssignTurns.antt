-- The assignment of several targets.
use Rattle.std.proofs.Common.{◌≡◌, ℕ, ◌*◌, List, [], ◌++◌, length, drop, sym, ap, ◌∙◌, arith, length-drop}
use Rattle.lua_program.specs.declared.expr.RExpr.{RExpr}
use Rattle.object_store.specs.declared.value.Value.{Value}
use Rattle.lanes_lib.specs.declared.ask.Ask.{Ask}
use Rattle.lanes_lib.specs.declared.ask.Answer.{Answer}
use Rattle.lua_meaning.specs.Run.{World, Run, Next, Leads, reaches, and_then}
use Rattle.lua_meaning.specs.Level.{Loaded, Level, Locals}
use Rattle.lua_meaning.specs.Expressions.{exactly}
use Rattle.lua_meaning.specs.Statements.{Target, targets, stores, assigned}
use Rattle.lua_machine.specs.Piled.{cut}
use Rattle.lua_machine.specs.declared.machine.Machine.{Machine}
use Rattle.lua_machine.specs.declared.machine.Window.{Window}
use Rattle.lua_machine.specs.declared.machine.Done.{Done}
use Rattle.lua_machine.specs.declared.machine.Done.TheVariants.{Well}
use Rattle.lua_machine.specs.Does.{Fits, Above, frame, world, point, pushed, PushedOf}
use Rattle.lua_machine.specs.Moved.{LocalsOf}
use Rattle.lua_machine.proofs.Leads.{leads_on, from}
use Rattle.lua_machine.proofs.Frames.{frame_above, fits_above}
use Rattle.lua_statements.proofs.GenericTurns.{cut_at}
use Rattle.lua_commands.specs.Targets.{targets_of, TargetsOf}
use Rattle.lua_commands.proofs.TargetTurns.{targets_length, targets_front, above_then, above_from}

module _ {H : Type 0} {asked : H → Ask → Answer → H → Type 0} (p : Loaded) (l : Level) (f : Window) (ts es : List RExpr) (m m1 m2 : Machine H) (fits : Fits f m.stack)
    (t : TargetsOf asked (targets p l [] ts (frame f m.stack) (world m)) ts m Well m1) (n : ℕ) (is : n ≡ length ts) where
  -- the targets by their values
  abbrev pub placed : List Target
  placed = targets_of ts (drop (length m.stack.values) m1.stack.values)

  abbrev pub stores_of : Next Locals → List Value → World → Run
  stores_of k vs w = stores p l placed vs (frame f m.stack) w k

  pub values_lead : (r : Done) → PushedOf asked (exactly l n [] es (frame f m1.stack) (world m1)) m1 (length m1.stack.values) r m2 → (k : Next Locals) →
      Leads asked (point m) (assigned p l ts es (frame f m.stack) (world m) k) (point m2) (reaches (pushed r (length m1.stack.values) m2) (and_then k (stores_of k)) (world m2))
  values_lead r x k =
      leads_on (t.leads (and_then k (λ ts w. exactly l (length ts) [] es (frame f m.stack) w (and_then k (λ vs w. stores p l ts vs (frame f m.stack) w k)))))
      (from (ap (λ a. exactly l a [] es (frame f m.stack) (world m1) (and_then k (stores_of k))) (targets_length ts (drop (length m.stack.values) m1.stack.values) ∙ sym is)
      ∙ ap (λ x. exactly l n [] es x (world m1) (and_then k (stores_of k))) (sym (frame_above f m.stack m1.stack fits t.stack))) (x.leads (and_then k (stores_of k))))

  module _ (x : PushedOf asked (exactly l n [] es (frame f m1.stack) (world m1)) m1 (length m1.stack.values) Well m2) (m3 : Machine H) (at from_at : ℕ)
      (at_is : at ≡ length m.stack.values) (from_is : from_at ≡ length m1.stack.values) where
    pub values_fit : Fits f m2.stack
    values_fit = fits_above f m1.stack m2.stack (fits_above f m.stack m1.stack fits t.stack) x.stack

    all_above : Above (length m.stack.values) m.stack m2.stack
    all_above = above_then (length m.stack.values) m.stack m1.stack m2.stack t.stack x.stack

    same_frame : frame f m2.stack ≡ frame f m.stack
    same_frame = frame_above f m.stack m2.stack fits all_above

    same_targets : targets_of ts (drop at m2.stack.values) ≡ placed
    same_targets =
        let v : drop (length m.stack.values) m2.stack.values ≡ drop (length m.stack.values) m1.stack.values ++ drop (length m1.stack.values) m2.stack.values =
        above_from (length m.stack.values) m1.stack m2.stack t.stack.within x.stack in
        let c : length (drop (length m.stack.values) m1.stack.values) ≡ 2 * length ts = omega (arith, length-drop (length m.stack.values) m1.stack.values, t.count) in
        ap (λ a. targets_of ts (drop a m2.stack.values)) at_is ∙ ap (targets_of ts) v ∙ targets_front ts (drop (length m.stack.values) m1.stack.values) (drop (length m1.stack.values) m2.stack.values) c

    pub assigned_all : (r : Done) → LocalsOf asked (stores p l (targets_of ts (drop at m2.stack.values)) (drop from_at m2.stack.values) (frame f m2.stack) (world m2)) (record m2 { stack = cut at m2.stack }) f r m3 →
        LocalsOf asked (assigned p l ts es (frame f m.stack) (world m)) m f r m3
    assigned_all r s = record {
      leads = λ k. leads_on (values_lead Well x k) (from (ap (λ a. stores p l placed (drop a m2.stack.values) (frame f m.stack) (world m2) k) (sym from_is)
          ∙ ap (λ a. stores p l a (drop from_at m2.stack.values) (frame f m.stack) (world m2) k) (sym same_targets)
          ∙ ap (λ a. stores p l (targets_of ts (drop at m2.stack.values)) (drop from_at m2.stack.values) a (world m2) k) (sym same_frame)) (s.leads k));
      stack = rw (cut_at m.stack m2.stack at at_is all_above) at s.stack;
    }
