-- The turns after a goto.
use Rattle.std.proofs.Common.{◌≡◌, ℕ, zero, suc, ◌+◌, ◌-◌, ◌<◌, ◌≤◌, Result, Ok, Err, Some, List, length, drop, refl, sym, ap, ◌∙◌, arith}
use Rattle.lua_program.specs.declared.stat.RStat.{RStat}
use Rattle.lanes_lib.specs.declared.ask.Ask.{Ask}
use Rattle.lanes_lib.specs.declared.ask.Answer.{Answer}
use Rattle.lua_meaning.specs.Run.{World, Run, Next, Leads, reaches}
use Rattle.lua_meaning.specs.Level.{Level, Locals, Flow, Jumps}
use Rattle.lua_meaning.specs.Statements.{sequence, jumped, with_locals}
use Rattle.lua_machine.specs.declared.machine.Machine.{Machine}
use Rattle.lua_machine.specs.declared.machine.Window.{Window}
use Rattle.lua_machine.specs.declared.machine.FlowTag.{FlowTag}
use Rattle.lua_machine.specs.Does.{Fits, Around, frame, locals, world, point, flow}
use Rattle.lua_machine.proofs.Leads.{leads_on, from}
use Rattle.lua_machine.proofs.Frames.{frame_around}
use Rattle.lua_statements.specs.Blocks.{left_by, SequenceOf}
use Rattle.lua_statements.proofs.BlockTurns.{jumped_at}

-- where a goto leads
module _ (k : Next Flow) (jump : ℕ → Locals → World → Run) (n i : ℕ) (x : Locals) (w : World) where
  pub jump_out : 0 < n → left_by k jump (Ok (Jumps n i x)) w ≡ k (Ok (Jumps (n - 1) i x)) w
  jump_out h = let e : n ≡ suc (n - 1) = omega arith in ap (λ a. left_by k jump (Ok (Jumps a i x)) w) e

  pub jump_here : n ≤ 0 → left_by k jump (Ok (Jumps n i x)) w ≡ jump i x w
  jump_here h = let e : n ≡ zero = omega arith in ap (λ a. left_by k jump (Ok (Jumps a i x)) w) e

module _ {H : Type 0} {asked : H → Ask → Answer → H → Type 0} (l : Level) (ss xs : List RStat) (f : Window) (m m1 m2 : Machine H)
    (fits : Fits f m.stack) (around : Around f m.stack m1.stack) (turns i : ℕ) (h : i < turns) (e : xs ≡ drop (suc m1.statement) ss)
    (r : FlowTag) (s : SequenceOf asked l xs m1 f r m2) where
  -- one of them
  pub jump_turn : (run : Run) (k : Next Flow) → Leads asked (point m) run (point m1) (Some (jumped l (turns - i) ss (frame f m.stack) k m1.statement (locals f m1.stack) (world m1))) →
      Leads asked (point m) run (point m2) (reaches (flow r (length m.stack.values) f m2) (left_by k (jumped l (turns - (i + 1)) ss (frame f m.stack) k)) (world m2))
  jump_turn run k before =
      let jump = jumped l (turns - (i + 1)) ss (frame f m.stack) k in
      let after = rw around.count at s.leads jump k in
      let same : sequence l jump (drop (suc m1.statement) ss) (with_locals (frame f m.stack) (locals f m1.stack)) (world m1) k ≡ sequence l jump xs (frame f m1.stack) (world m1) k =
      ap (λ x. sequence l jump (drop (suc m1.statement) ss) x (world m1) k) (sym (frame_around f m.stack m1.stack fits around)) ∙ ap (λ x. sequence l jump x (frame f m1.stack) (world m1) k) (sym e) in
      leads_on before (from (jumped_at l ss (frame f m.stack) k turns i m1.statement (locals f m1.stack) (world m1) h ∙ same) after)
