-- Statements with the values of a list.
use Rattle.std.proofs.Common.{◌≡◌, ℕ, Ok, List, [], length, take, drop, sym, ap, ◌∙◌, arith, Bool}
use Rattle.std.proofs.lemmas.List.{drop_all}
use Rattle.std.proofs.Math.Seq.{take-length}
use Rattle.lua_program.specs.declared.expr.RExpr.{RExpr}
use Rattle.lua_program.specs.declared.expr.Ref.{Ref}
use Rattle.lua_program.specs.declared.stat.RStat.{RStat}
use Rattle.object_store.specs.declared.value.Value.{Value}
use Rattle.lanes_lib.specs.declared.ask.Ask.{Ask}
use Rattle.lanes_lib.specs.declared.ask.Answer.{Answer}
use Rattle.lua_meaning.specs.Run.{World, Run, Next, Leads, reaches, and_then}
use Rattle.lua_meaning.specs.Level.{Loaded, Level, Flow, Returns}
use Rattle.lua_meaning.specs.Names.{first}
use Rattle.lua_meaning.specs.Expressions.{exactly, list, limited}
use Rattle.lua_meaning.specs.Statements.{declare_all, refs_of, local, in_turns, generic_for, return}
use Rattle.lua_machine.specs.Piled.{Piled, cut}
use Rattle.lua_machine.specs.declared.machine.Machine.{Machine}
use Rattle.lua_machine.specs.declared.machine.Window.{Window}
use Rattle.lua_machine.specs.declared.machine.Done.{Done}
use Rattle.lua_machine.specs.declared.machine.Done.TheVariants.{Well, Failed}
use Rattle.lua_machine.specs.declared.machine.Got.TheVariants as G
use Rattle.lua_machine.specs.declared.machine.FlowTag.{FlowTag}
use Rattle.lua_machine.specs.declared.machine.FlowTag.TheVariants as tag
use Rattle.lua_machine.specs.Does.{Fits, Above, Over, Around, frame, world, point, pushed, flow, PushedOf, ManyOf, FlowOf}
use Rattle.lua_machine.specs.Moved.{LocalsOf}
use Rattle.lua_machine.proofs.Leads.{leads_on, from, upto}
use Rattle.lua_machine.proofs.Frames.{frame_above, below_less, around_same}
use Rattle.lua_statements.proofs.GenericTurns.{cut_at}
use Rattle.lua_commands.specs.Assigned.{returned_one}

-- ---- exactly so many values, which are dropped again

module _ {H : Type 0} {asked : H → Ask → Answer → H → Type 0} (p : Loaded) (l : Level) (f : Window) (es : List RExpr) (m m1 m2 : Machine H) (fits : Fits f m.stack)
    (n at : ℕ) (at_is : at ≡ length m.stack.values) (x : PushedOf asked (exactly l n [] es (frame f m.stack) (world m)) m (length m.stack.values) Well m1) where
  same_cut : cut at m1.stack ≡ m.stack
  same_cut = cut_at m.stack m1.stack at at_is x.stack

  same_frame : frame f m1.stack ≡ frame f m.stack
  same_frame = frame_above f m.stack m1.stack fits x.stack

  pub declared_with : (ls : List (Ref × Bool)) → n ≡ length ls → (r : Done) → LocalsOf asked (declare_all p (refs_of ls) (drop at m1.stack.values) (frame f m1.stack) (world m1)) (record m1 { stack = cut at m1.stack }) f r m2 →
      LocalsOf asked (local p l ls es (frame f m.stack) (world m)) m f r m2
  declared_with ls is r d = record {
    leads = λ k. let go : List Value → World → Run = λ vs w. declare_all p (refs_of ls) vs (frame f m.stack) w k in
        leads_on (from (ap (λ a. exactly l a [] es (frame f m.stack) (world m) (and_then k go)) (sym is)) (x.leads (and_then k go)))
        (from (ap (λ a. declare_all p (refs_of ls) (drop a m1.stack.values) (frame f m.stack) (world m1) k) (sym at_is)
        ∙ ap (λ a. declare_all p (refs_of ls) (drop at m1.stack.values) a (world m1) k) (sym same_frame)) (d.leads k));
    stack = rw same_cut at d.stack;
  }

-- ---- the turns of a generic `for`

module _ {H : Type 0} (p : Loaded) (l : Level) (f : Window) (rs : List Ref) (body : List RStat) (m : Machine H) where
  abbrev pub iterated : Next Flow → List Value → World → Run
  iterated k vs w = in_turns p l w.left (first vs) (first (drop 1 vs)) (first (drop 2 vs)) rs body (frame f m.stack) w k

module _ {H : Type 0} {asked : H → Ask → Answer → H → Type 0} (p : Loaded) (l : Level) (f : Window) (rs : List Ref) (es : List RExpr) (body : List RStat) (m m1 m2 : Machine H)
    (at : ℕ) (at_is : at ≡ length m.stack.values) (x : PushedOf asked (exactly l 3 [] es (frame f m.stack) (world m)) m (length m.stack.values) Well m1)
    (go state control : Value) (go_is : go ≡ first (drop at m1.stack.values)) (state_is : state ≡ first (drop 1 (drop at m1.stack.values))) (control_is : control ≡ first (drop 2 (drop at m1.stack.values))) where
  pub turns_with : (r : FlowTag) → FlowOf asked (in_turns p l m1.left go state control rs body (frame f (cut at m1.stack)) (world m1)) (record m1 { stack = cut at m1.stack }) f r m2 →
      FlowOf asked (generic_for p l rs es body (frame f m.stack) (world m)) m f r m2
  turns_with r s =
      let same : cut at m1.stack ≡ m.stack = cut_at m.stack m1.stack at at_is x.stack in
      let go_now : first (drop (length m.stack.values) m1.stack.values) ≡ go = ap (λ a. first (drop a m1.stack.values)) (sym at_is) ∙ sym go_is in
      let state_now : first (drop 1 (drop (length m.stack.values) m1.stack.values)) ≡ state = ap (λ a. first (drop 1 (drop a m1.stack.values))) (sym at_is) ∙ sym state_is in
      let control_now : first (drop 2 (drop (length m.stack.values) m1.stack.values)) ≡ control = ap (λ a. first (drop 2 (drop a m1.stack.values))) (sym at_is) ∙ sym control_is in
      let same_frame : frame f m.stack ≡ frame f (cut at m1.stack) = ap (frame f) (sym same) in
      record {
        leads = λ k. leads_on (x.leads (and_then k (iterated p l f rs body m k))) (from (λ i. in_turns p l m1.left (go_now i) (state_now i) (control_now i) rs body (same_frame i) (world m1) k)
            (upto (ap (λ (s : Piled). reaches (flow r (length s.values) f m2) k (world m2)) same) (s.leads k)));
        stack = rw same at s.stack;
      }

-- ---- values that are returned

pub over_above : (f : Window) (s s1 : Piled) → Fits f s → Above (length s.values) s s1 → Over f s s1
over_above f s s1 fits a = record {
  count = a.within;
  values = below_less f.base (length s.values) s.values s1.values (omega (arith, fits.slots)) a.values;
  within = omega (arith, fits.cells, ap length a.cells);
  cells = ap (take f.cells) a.cells;
}

above_more : (n : ℕ) (s s1 s2 : Piled) → Above n s s1 → Above n s1 s2 → Above n s s2
above_more n s s1 s2 a b = record { within = b.within; values = b.values ∙ a.values; cells = b.cells ∙ a.cells }

pub nothing_above : (s : List Value) (at : ℕ) → at ≡ length s → drop at s ≡ []
nothing_above s at is = drop_all at s (omega (arith, is))

module _ (p : Loaded) where
  abbrev pub given_back : Next Flow → List Value → World → Run
  given_back k vs w = limited p 0 vs w (and_then k (λ vs w. k (Ok (Returns vs)) w))

module _ {H : Type 0} {asked : H → Ask → Answer → H → Type 0} (p : Loaded) (l : Level) (f : Window) (es : List RExpr) (m m1 m2 : Machine H) (fits : Fits f m.stack)
    (at : ℕ) (at_is : at ≡ length m.stack.values) where
  listed : (r : Done) → PushedOf asked (list l (drop at m.stack.values) es (frame f m.stack) (world m)) m at r m1 → (k : Next Flow) →
      Leads asked (point m) (return p l es (frame f m.stack) (world m) k) (point m1) (reaches (pushed r at m1) (and_then k (given_back p k)) (world m1))
  listed r x k = from (ap (λ vs. list l vs es (frame f m.stack) (world m) (and_then k (given_back p k))) (sym (nothing_above m.stack.values at at_is))) (x.leads (and_then k (given_back p k)))

  pub no_list : PushedOf asked (list l (drop at m.stack.values) es (frame f m.stack) (world m)) m at Failed m1 → FlowOf asked (return p l es (frame f m.stack) (world m)) m f tag.Fails m1
  no_list x = record { leads = λ k. listed Failed x k; stack = tt }

  module _ (x : PushedOf asked (list l (drop at m.stack.values) es (frame f m.stack) (world m)) m at Well m1) where
    pub list_returned : PushedOf asked (limited p 0 (drop at m1.stack.values) (world m1)) m1 at Well m2 → FlowOf asked (return p l es (frame f m.stack) (world m)) m f tag.ReturnsMany m2
    list_returned y =
        let above1 = rw at_is at x.stack in
        let above2 = rw at_is at y.stack in
        let lead = rw at_is at y.leads in
        let before = rw at_is at (listed Well x) in
        record {
          leads = λ k. leads_on (before k) (lead (and_then k (λ vs w. k (Ok (Returns vs)) w)));
          stack = over_above f m.stack m2.stack fits (above_more (length m.stack.values) m.stack m1.stack m2.stack above1 above2);
        }

    pub list_too_long : PushedOf asked (limited p 0 (drop at m1.stack.values) (world m1)) m1 at Failed m2 → FlowOf asked (return p l es (frame f m.stack) (world m)) m f tag.Fails m2
    list_too_long y = record { leads = λ k. leads_on (listed Well x k) (y.leads (and_then k (λ vs w. k (Ok (Returns vs)) w))); stack = tt }

-- ---- the values of one expression

around_cut_all : (f : Window) (s s1 : Piled) → Fits f s → s1 ≡ cut (length s.values) s → Around f s s1
around_cut_all f s s1 fits e = around_same f s s1 fits (e ∙ (λ i. record s { values = take-length s.values i }))

module _ {H : Type 0} {asked : H → Ask → Answer → H → Type 0} (p : Loaded) (l : Level) (f : Window) (e : RExpr) (m m1 m2 : Machine H) (fits : Fits f m.stack)
    (at : ℕ) (at_is : at ≡ length m.stack.values) where
  pub one_failed : ManyOf asked (l.multi e (frame f m.stack) (world m)) m (length m.stack.values) G.Failed m1 → FlowOf asked (returned_one p l (frame f m.stack) e (world m)) m f tag.Fails m1
  one_failed x = record { leads = λ k. x.leads (and_then k (given_back p k)); stack = tt }

  pub one_returned : ManyOf asked (l.multi e (frame f m.stack) (world m)) m (length m.stack.values) G.One m1 → FlowOf asked (returned_one p l (frame f m.stack) e (world m)) m f tag.ReturnsOne m1
  one_returned x = record {
    leads = λ k. x.leads (and_then k (given_back p k));
    stack = around_cut_all f m.stack m1.stack fits x.stack;
  }

  module _ (x : ManyOf asked (l.multi e (frame f m.stack) (world m)) m (length m.stack.values) G.Many m1) where
    pub many_returned : PushedOf asked (limited p 0 (drop at m1.stack.values) (world m1)) m1 at Well m2 → FlowOf asked (returned_one p l (frame f m.stack) e (world m)) m f tag.ReturnsMany m2
    many_returned y =
        let above2 = rw at_is at y.stack in
        let lead = rw at_is at y.leads in
        record {
          leads = λ k. leads_on (x.leads (and_then k (given_back p k))) (lead (and_then k (λ vs w. k (Ok (Returns vs)) w)));
          stack = over_above f m.stack m2.stack fits (above_more (length m.stack.values) m.stack m1.stack m2.stack x.stack above2);
        }

    pub many_too_long : PushedOf asked (limited p 0 (drop at m1.stack.values) (world m1)) m1 at Failed m2 → FlowOf asked (returned_one p l (frame f m.stack) e (world m)) m f tag.Fails m2
    many_too_long y =
        let lead = rw at_is at y.leads in
        record { leads = λ k. leads_on (x.leads (and_then k (given_back p k))) (lead (and_then k (λ vs w. k (Ok (Returns vs)) w))); stack = tt }
