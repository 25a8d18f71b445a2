-- The turns of loops with a condition.
use Rattle.std.proofs.Common.{◌≡◌, ℕ, zero, suc, ◌+◌, ◌-◌, ◌<◌, ◌≤◌, Result, Ok, Err, Some, List, length, refl, sym, ap, ◌∙◌, arith, if◌then◌else◌, Bool}
use Rattle.lua_program.specs.declared.expr.RExpr.{RExpr}
use Rattle.lua_program.specs.declared.stat.RStat.{RStat}
use Rattle.lanes_lib.specs.declared.ask.Ask.{Ask}
use Rattle.lanes_lib.specs.declared.ask.Answer.{Answer}
use Rattle.lua_meaning.specs.Run.{World, Run, Next, Leads, reaches, and_then}
use Rattle.lua_meaning.specs.Level.{Level, Locals, Frame, Flow, Goes}
use Rattle.lua_meaning.specs.Statements.{with_locals, turned, tested, turn, while_turns, repeat_turns}
use Rattle.lua_machine.specs.Piled.{Piled}
use Rattle.lua_machine.specs.declared.machine.Machine.{Machine}
use Rattle.lua_machine.specs.declared.machine.Window.{Window}
use Rattle.lua_machine.specs.declared.machine.FlowTag.{FlowTag}
use Rattle.lua_machine.specs.declared.machine.FlowTag.TheVariants as tag
use Rattle.lua_machine.specs.declared.machine.Test.{Test}
use Rattle.lua_machine.specs.declared.machine.Test.TheVariants as T
use Rattle.lua_machine.specs.Does.{Fits, Around, frame, locals, world, point, flow, truth, FlowOf, TestOf}
use Rattle.lua_machine.proofs.Leads.{leads_on, from, upto}
use Rattle.lua_machine.proofs.Frames.{frame_around}

-- ---- the meaning of one turn

module _ (l : Level) (e : RExpr) (body : List RStat) (f : Frame) (w : World) (k : Next Flow) where
  abbrev pub while_next : ℕ → Locals → World → Run
  while_next n locals w = while_turns l n e body (with_locals f locals) w k

  abbrev pub while_tested : ℕ → Bool → World → Run
  while_tested n truth w = if truth then turn l body f w (turned k (while_next n)) else k (Ok (Goes f.locals)) w

  pub while_at : (n i : ℕ) → i < n → while_turns l (n - i) e body f w k ≡ tested l e f w (and_then k (while_tested (n - (i + 1))))
  while_at n i h = at_suc (n - i) (n - (i + 1)) (omega arith)
    where
      at_suc : (a b : ℕ) → a ≡ suc b → while_turns l a e body f w k ≡ tested l e f w (and_then k (while_tested b))
      at_suc a b h = ap (λ a. while_turns l a e body f w k) h

  abbrev pub repeat_tested : ℕ → Locals → Bool → World → Run
  repeat_tested n locals truth w =
      if truth then k (Ok (Goes locals)) w else repeat_turns l n e body (with_locals f locals) w k

  abbrev pub repeat_next : ℕ → Locals → World → Run
  repeat_next n locals w = tested l e (with_locals f locals) w (and_then k (repeat_tested n locals))

  pub repeat_at : (n i : ℕ) → i < n → repeat_turns l (n - i) e body f w k ≡ turn l body f w (turned k (repeat_next (n - (i + 1))))
  repeat_at n i h = at_suc (n - i) (n - (i + 1)) (omega arith)
    where
      at_suc : (a b : ℕ) → a ≡ suc b → repeat_turns l a e body f w k ≡ turn l body f w (turned k (repeat_next b))
      at_suc a b h = ap (λ a. repeat_turns l a e body f w k) h

-- ---- one turn of a machine, after others that led to it

module _ {H : Type 0} {asked : H → Ask → Answer → H → Type 0} (l : Level) (e : RExpr) (body : List RStat) (f : Window) (m m1 m2 : Machine H)
    (fits : Fits f m1.stack) (count : length m1.stack.values ≡ length m.stack.values) (n i : ℕ) (h : i < n) (k : Next Flow) (run : Run) where
  -- a `while` loop
  module _ (before : Leads asked (point m) run (point m1) (Some (while_turns l (n - i) e body (frame f m1.stack) (world m1) k))) where
    pub while_test : (r : Test) → TestOf asked (tested l e (frame f m1.stack) (world m1)) m1 r m2 →
        Leads asked (point m) run (point m2) (reaches (truth r m2) (and_then k (while_tested l e body (frame f m1.stack) (world m1) k (n - (i + 1)))) (world m2))
    while_test r t = leads_on before (from (while_at l e body (frame f m1.stack) (world m1) k n i h) (t.leads (and_then k (while_tested l e body (frame f m1.stack) (world m1) k (n - (i + 1))))))

    pub while_ends : TestOf asked (tested l e (frame f m1.stack) (world m1)) m1 T.No m2 → Leads asked (point m) run (point m2) (Some (k (Ok (Goes (locals f m2.stack))) (world m2)))
    while_ends t = upto (ap (λ s. Some (k (Ok (Goes (locals f s))) (world m2))) (sym t.stack)) (while_test T.No t)

    pub while_turn : (m3 : Machine H) (r : FlowTag) → TestOf asked (tested l e (frame f m1.stack) (world m1)) m1 T.Yes m2 → FlowOf asked (turn l body (frame f m2.stack) (world m2)) m2 f r m3 →
        Leads asked (point m) run (point m3) (reaches (flow r (length m.stack.values) f m3) (turned k (while_next l e body (frame f m1.stack) (world m1) k (n - (i + 1)))) (world m3))
    while_turn m3 r t s =
        let after = rw (t.stack, count) at s.leads (turned k (while_next l e body (frame f m1.stack) (world m1) k (n - (i + 1)))) in
        leads_on (while_test T.Yes t) after

    pub while_on : (m3 : Machine H) → TestOf asked (tested l e (frame f m1.stack) (world m1)) m1 T.Yes m2 → FlowOf asked (turn l body (frame f m2.stack) (world m2)) m2 f tag.Goes m3 → Around f m1.stack m3.stack →
        Leads asked (point m) run (point m3) (Some (while_turns l (n - (i + 1)) e body (frame f m3.stack) (world m3) k))
    while_on m3 t s a = upto (ap (λ x. Some (while_turns l (n - (i + 1)) e body x (world m3) k)) (sym (frame_around f m1.stack m3.stack fits a))) (while_turn m3 tag.Goes t s)

  -- a `repeat` loop
  module _ (before : Leads asked (point m) run (point m1) (Some (repeat_turns l (n - i) e body (frame f m1.stack) (world m1) k))) where
    pub repeat_turn : (r : FlowTag) → FlowOf asked (turn l body (frame f m1.stack) (world m1)) m1 f r m2 →
        Leads asked (point m) run (point m2) (reaches (flow r (length m.stack.values) f m2) (turned k (repeat_next l e body (frame f m1.stack) (world m1) k (n - (i + 1)))) (world m2))
    repeat_turn r s =
        let after = rw count at s.leads (turned k (repeat_next l e body (frame f m1.stack) (world m1) k (n - (i + 1)))) in
        leads_on before (from (repeat_at l e body (frame f m1.stack) (world m1) k n i h) after)

    pub repeat_test : (m3 : Machine H) (r : Test) → FlowOf asked (turn l body (frame f m1.stack) (world m1)) m1 f tag.Goes m2 → TestOf asked (tested l e (frame f m2.stack) (world m2)) m2 r m3 →
        Leads asked (point m) run (point m3) (reaches (truth r m3) (and_then k (repeat_tested l e body (frame f m1.stack) (world m1) k (n - (i + 1)) (locals f m2.stack))) (world m3))
    repeat_test m3 r s t =
        let go = and_then k (repeat_tested l e body (frame f m1.stack) (world m1) k (n - (i + 1)) (locals f m2.stack)) in
        let after = from (ap (λ x. tested l e x (world m2) go) (sym (frame_around f m1.stack m2.stack fits s.stack))) (t.leads go) in
        leads_on (repeat_turn tag.Goes s) after
