-- The turns of a generic `for`.
use Rattle.std.proofs.Common.{◌≡◌, ℕ, zero, suc, ◌+◌, ◌-◌, ◌<◌, ◌≤◌, Result, Ok, Err, Some, List, [], ◌∷◌, ◌++◌, length, take, drop, refl, sym, ap, ◌∙◌, arith, if◌then◌else◌, Bool, true, false, append_assoc}
use Rattle.std.proofs.Math.Seq.{take-length, drop-append_seam, take-append_seam}
use Rattle.lua_program.specs.declared.expr.Ref.{Ref}
use Rattle.lua_program.specs.declared.stat.RStat.{RStat}
use Rattle.object_store.specs.declared.value.Value.{Value}
use Rattle.object_store.specs.Value.{is_nil}
use Rattle.lanes_lib.specs.declared.ask.Ask.{Ask}
use Rattle.lanes_lib.specs.declared.ask.Answer.{Answer}
use Rattle.lua_meaning.specs.Run.{World, Run, Next, Leads, reaches, and_then}
use Rattle.lua_meaning.specs.Level.{Loaded, Level, Locals, Frame, Flow, Goes, no_site}
use Rattle.lua_meaning.specs.Names.{first}
use Rattle.lua_meaning.specs.Statements.{with_locals, turned, in_turn, in_turns}
use Rattle.lua_machine.specs.Piled.{Piled, cut, with_values}
use Rattle.lua_machine.specs.declared.machine.Machine.{Machine}
use Rattle.lua_machine.specs.declared.machine.Window.{Window}
use Rattle.lua_machine.specs.declared.machine.Done.{Done}
use Rattle.lua_machine.specs.declared.machine.Done.TheVariants.{Well, Failed}
use Rattle.lua_machine.specs.declared.machine.FlowTag.{FlowTag}
use Rattle.lua_machine.specs.Does.{Fits, Above, Around, frame, locals, world, point, flow, pushed, FlowOf, PushedOf}
use Rattle.lua_machine.proofs.Leads.{leads_on, from, upto}
use Rattle.lua_machine.proofs.Frames.{frame_above}

-- ---- the meaning of one turn

module _ (p : Loaded) (l : Level) (go state : Value) (rs : List Ref) (body : List RStat) (f : Frame) (k : Next Flow) where
  abbrev pub in_next : ℕ → List Value → Locals → World → Run
  in_next n vs locals w = in_turns p l n go state (first vs) rs body (with_locals f locals) w k

  abbrev pub in_called : ℕ → List Value → World → Run
  in_called n vs w = if is_nil (first vs) then k (Ok (Goes f.locals)) w else in_turn p l rs vs body f w (turned k (in_next n vs))

  pub in_at : (control : Value) (w : World) (n i : ℕ) → i < n → in_turns p l (n - i) go state control rs body f w k ≡ l.call go (state ∷ control ∷ []) (no_site f) w (and_then k (in_called (n - (i + 1))))
  in_at control w n i h = at_suc (n - i) (n - (i + 1)) (omega arith)
    where
      at_suc : (a b : ℕ) → a ≡ suc b → in_turns p l a go state control rs body f w k ≡ l.call go (state ∷ control ∷ []) (no_site f) w (and_then k (in_called b))
      at_suc a b e = ap (λ a. in_turns p l a go state control rs body f w k) e

  pub in_ends : (n : ℕ) (vs : List Value) (w : World) → is_nil (first vs) ≡ true → in_called n vs w ≡ k (Ok (Goes f.locals)) w
  in_ends n vs w e = ap (λ b. if b then k (Ok (Goes f.locals)) w else in_turn p l rs vs body f w (turned k (in_next n vs))) e

  pub in_goes : (n : ℕ) (vs : List Value) (w : World) → is_nil (first vs) ≡ false → in_called n vs w ≡ in_turn p l rs vs body f w (turned k (in_next n vs))
  in_goes n vs w e = ap (λ b. if b then k (Ok (Goes f.locals)) w else in_turn p l rs vs body f w (turned k (in_next n vs))) e

-- ---- the values of a call

-- without the values above it a stack is as it was
pub cut_above : (s s1 : Piled) → Above (length s.values) s s1 → cut (length s.values) s1 ≡ s
cut_above s s1 a =
    let v : take (length s.values) s1.values ≡ s.values = a.values ∙ take-length s.values in
    let c : s1.cells ≡ s.cells = a.cells in
    λ i. record s { values = v i; cells = c i }

pub cut_at : (s s1 : Piled) (at : ℕ) → at ≡ length s.values → Above (length s.values) s s1 → cut at s1 ≡ s
cut_at s s1 at is a = ap (λ n. cut n s1) is ∙ cut_above s s1 a

-- ---- one turn of a machine, after others that led to it

module _ {H : Type 0} {asked : H → Ask → Answer → H → Type 0} (p : Loaded) (l : Level) (go state control : Value) (rs : List Ref) (body : List RStat) (f : Window) (m m1 m2 : Machine H)
    (fits : Fits f m1.stack) (at : ℕ) (is : at ≡ length m1.stack.values) (count : length m1.stack.values ≡ length m.stack.values) (n i : ℕ) (h : i < n) (k : Next Flow) (run : Run)
    (before : Leads asked (point m) run (point m1) (Some (in_turns p l (n - i) go state control rs body (frame f m1.stack) (world m1) k))) where
  pub in_call : (r : Done) → PushedOf asked (l.call go (state ∷ control ∷ []) (no_site (frame f m1.stack)) (world m1)) m1 (length m1.stack.values) r m2 →
      Leads asked (point m) run (point m2) (reaches (pushed r at m2) (and_then k (in_called p l go state rs body (frame f m1.stack) k (n - (i + 1)))) (world m2))
  in_call r c =
      let called = rw (sym is) at c.leads (and_then k (in_called p l go state rs body (frame f m1.stack) k (n - (i + 1)))) in
      leads_on before (from (in_at p l go state rs body (frame f m1.stack) k control (world m1) n i h) called)

  module _ (c : PushedOf asked (l.call go (state ∷ control ∷ []) (no_site (frame f m1.stack)) (world m1)) m1 (length m1.stack.values) Well m2) where
    cut_is : cut at m2.stack ≡ m1.stack
    cut_is = cut_at m1.stack m2.stack at is c.stack

    pub in_last : is_nil (first (drop at m2.stack.values)) ≡ true → Leads asked (point m) run (point m2) (Some (k (Ok (Goes (locals f (cut at m2.stack)))) (world m2)))
    in_last e = upto (ap Some (in_ends p l go state rs body (frame f m1.stack) k (n - (i + 1)) (drop at m2.stack.values) (world m2) e ∙ ap (λ s. k (Ok (Goes (locals f s))) (world m2)) (sym cut_is))) (in_call Well c)

    pub in_turn_leads : (m3 : Machine H) (t : FlowTag) → is_nil (first (drop at m2.stack.values)) ≡ false →
        FlowOf asked (in_turn p l rs (drop at m2.stack.values) body (frame f m2.stack) (world m2)) (record m2 { stack = cut at m2.stack }) f t m3 →
        Leads asked (point m) run (point m3) (reaches (flow t (length m.stack.values) f m3) (turned k (in_next p l go state rs body (frame f m1.stack) k (n - (i + 1)) (drop at m2.stack.values))) (world m3))
    in_turn_leads m3 t e s =
        let next = in_next p l go state rs body (frame f m1.stack) k (n - (i + 1)) (drop at m2.stack.values) in
        let same : length (take at m2.stack.values) ≡ length m.stack.values = ap (λ s. length s.values) cut_is ∙ count in
        let turn = rw same at s.leads (turned k next) in
        leads_on (in_call Well c) (from (in_goes p l go state rs body (frame f m1.stack) k (n - (i + 1)) (drop at m2.stack.values) (world m2) e
        ∙ ap (λ x. in_turn p l rs (drop at m2.stack.values) body x (world m2) (turned k next)) (sym (frame_above f m1.stack m2.stack fits c.stack))) turn)
