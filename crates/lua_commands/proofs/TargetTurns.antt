-- Targets of an assignment, one after another.
use Rattle.std.proofs.Common.{◌≡◌, ℕ, zero, suc, ◌+◌, ◌*◌, ◌<◌, ◌≤◌, Ok, Some, List, [], ◌∷◌, ◌++◌, length, take, drop, get_or, refl, sym, ap, ◌∙◌, arith, add-one, drop-cons, length-drop}
use Rattle.std.proofs.lemmas.List.{drop_all, drop-drop, take_more, length-take-le, take_all}
use Rattle.std.proofs.lemmas.Grind.{common_steps}
use Rattle.std.proofs.Math.Seq.{take-length}
use Rattle.lua_program.specs.declared.expr.RExpr.{RExpr}
use Rattle.object_store.specs.declared.value.Value.{Value}
use Rattle.lanes_lib.specs.declared.ask.Ask.{Ask}
use Rattle.lanes_lib.specs.declared.ask.Answer.{Answer}
use Rattle.lua_meaning.specs.Run.{World, Run, Next, Leads, here, reaches, and_then}
use Rattle.lua_meaning.specs.Level.{Loaded, Level, Frame}
use Rattle.lua_meaning.specs.Names.{first}
use Rattle.lua_meaning.specs.Statements.{Target, target, targets}
use Rattle.lua_machine.specs.Piled.{Piled}
use Rattle.lua_machine.specs.declared.machine.Machine.{Machine}
use Rattle.lua_machine.specs.declared.machine.Window.{Window}
use Rattle.lua_machine.specs.declared.machine.Done.{Done}
use Rattle.lua_machine.specs.Does.{Fits, Above, frame, world, point}
use Rattle.lua_machine.proofs.Leads.{leads_on, from, upto}
use Rattle.lua_machine.proofs.Frames.{frame_above, below_less}
use Rattle.lua_commands.specs.Targets.{target_of, targets_of, held, TargetOf}

-- ---- the targets of values

pub targets_length : (es : List RExpr) (vs : List Value) → length (targets_of es vs) ≡ length es
targets_length [] vs = refl
targets_length (e ∷ es) vs = ap suc (targets_length es (drop 2 vs))

-- values past those of the targets are no matter
pub targets_front : (es : List RExpr) (us vs : List Value) → length us ≡ 2 * length es → targets_of es (us ++ vs) ≡ targets_of es us
targets_front [] us vs h = refl
targets_front (e ∷ es) [] vs h = absurd (omega arith)
targets_front (e ∷ es) (a ∷ []) vs h = absurd (omega arith)
targets_front (e ∷ es) (a ∷ b ∷ us) vs h = ap (λ ts. target_of e a b ∷ ts) (targets_front es us vs (omega arith))

-- one more target
pub targets_more : (es : List RExpr) (e : RExpr) (us vs : List Value) → length us ≡ 2 * length es → targets_of (es ++ e ∷ []) (us ++ vs) ≡ targets_of es us ++ target_of e (first vs) (first (drop 1 vs)) ∷ []
targets_more [] e [] vs h = refl
targets_more [] e (a ∷ us) vs h = absurd (omega arith)
targets_more (d ∷ es) e [] vs h = absurd (omega arith)
targets_more (d ∷ es) e (a ∷ []) vs h = absurd (omega arith)
targets_more (d ∷ es) e (a ∷ b ∷ us) vs h = ap (λ ts. target_of d a b ∷ ts) (targets_more es e us vs (omega arith))

pub targets_from : (es : List RExpr) (i : ℕ) (e : RExpr) (vs : List Value) → i < length es → e ≡ get_or es i e → drop i (targets_of es vs) ≡ target_of e (first (drop (2 * i) vs)) (first (drop 1 (drop (2 * i) vs))) ∷ drop (suc i) (targets_of es vs)
targets_from [] i e vs h is = absurd (omega arith)
targets_from (d ∷ es) zero e vs h is = ap (λ x. target_of x (first vs) (first (drop 1 vs)) ∷ targets_of es (drop 2 vs)) (sym is)
targets_from (d ∷ es) (suc i) e vs h is =
    let n : 2 + 2 * i ≡ 2 * suc i = omega arith in
    let v : drop (2 * i) (drop 2 vs) ≡ drop (2 * suc i) vs = drop-drop (2 * i) 2 vs ∙ ap (λ a. drop a vs) n in
    targets_from es i e (drop 2 vs) (omega arith) is ∙ ap (λ x. target_of e (first x) (first (drop 1 x)) ∷ drop (suc i) (targets_of es (drop 2 vs))) v

-- ---- the meaning of one more target

module _ (p : Loaded) (l : Level) (f : Frame) (w : World) (k : Next (List Target)) where
  abbrev pub targets_next : List Target → List RExpr → Target → World → Run
  targets_next ts es t w = targets p l (ts ++ t ∷ []) es f w k

  pub targets_at : (ts : List Target) (es : List RExpr) (i : ℕ) (e : RExpr) → i < length es → e ≡ get_or es i e → targets p l ts (drop i es) f w k ≡ target p l e f w (and_then k (targets_next ts (drop (i + 1) es)))
  targets_at ts es i e h is =
      let d : drop i es ≡ get_or es i e ∷ drop (i + 1) es = rw (add-one, drop-cons es i e) in
      ap (λ x. targets p l ts x f w k) (d ∙ ap (λ x. x ∷ drop (i + 1) es) (sym is))

  pub targets_end : (ts : List Target) (es : List RExpr) (i : ℕ) → length es ≤ i → targets p l ts (drop i es) f w k ≡ k (Ok ts) w
  targets_end ts es i h = ap (λ x. targets p l ts x f w k) (drop_all i es h)

-- ---- values above values

pub above_self : (s : Piled) → Above (length s.values) s s
above_self s = record { within = omega arith; values = refl; cells = refl }

pub above_then : (n : ℕ) (s s1 s2 : Piled) → Above n s s1 → Above (length s1.values) s1 s2 → Above n s s2
above_then n s s1 s2 a b = record {
  within = omega (arith, a.within, b.within);
  values = below_less n (length s1.values) s1.values s2.values a.within b.values ∙ a.values;
  cells = b.cells ∙ a.cells;
}

-- a stack, and the values above it
pub above_is : (s s1 : Piled) → Above (length s.values) s s1 → s1.values ≡ s.values ++ drop (length s.values) s1.values
above_is s s1 a =
    let t : take (length s.values) s1.values ≡ s.values = a.values ∙ take-length s.values in
    sym (take_drop (length s.values) s1.values) ∙ ap (λ x. x ++ drop (length s.values) s1.values) t
  where
    take_drop : (n : ℕ) (xs : List Value) → take n xs ++ drop n xs ≡ xs
    take_drop n xs = grind (arith, common_steps)

pub drop_before : (n : ℕ) (us vs : List Value) → n ≤ length us → drop n (us ++ vs) ≡ drop n us ++ vs
drop_before n us vs h = grind (arith, common_steps)

-- what stands from a place on, and then the values above
pub above_from : (n : ℕ) (s s1 : Piled) → n ≤ length s.values → Above (length s.values) s s1 → drop n s1.values ≡ drop n s.values ++ drop (length s.values) s1.values
above_from n s s1 h a = ap (drop n) (above_is s s1 a) ∙ drop_before n s.values (drop (length s.values) s1.values) h

-- ---- one more target of a machine, after others that led to it

module _ {H : Type 0} {asked : H → Ask → Answer → H → Type 0} (p : Loaded) (l : Level) (f : Window) (es : List RExpr) (m m1 m2 : Machine H) (fits : Fits f m.stack)
    (above : Above (length m.stack.values) m.stack m1.stack) (i : ℕ) (e : RExpr) (h : i < length es) (is : e ≡ get_or es i e)
    (r : Done) (t : TargetOf asked (target p l e (frame f m1.stack) (world m1)) (target_of e) m1 r m2) (run : Run) (k : Next (List Target))
    (before : Leads asked (point m) run (point m1) (Some (targets p l (targets_of (take i es) (drop (length m.stack.values) m1.stack.values)) (drop i es) (frame f m.stack) (world m1) k))) where
  abbrev next : Next Target
  next = and_then k (targets_next p l (frame f m.stack) (world m1) k (targets_of (take i es) (drop (length m.stack.values) m1.stack.values)) (drop (i + 1) es))

  pub target_turn : Leads asked (point m) run (point m2) (reaches (held r (target_of e) (length m1.stack.values) m2) next (world m2))
  target_turn = leads_on before (from (targets_at p l (frame f m.stack) (world m1) k (targets_of (take i es) (drop (length m.stack.values) m1.stack.values)) es i e h is
      ∙ ap (λ x. target p l e x (world m1) next) (sym (frame_above f m.stack m1.stack fits above))) (t.leads next))

module _ (es : List RExpr) (s s1 s2 : Piled) (above : Above (length s.values) s s1) (b : Above (length s1.values) s1 s2) (i : ℕ) (e : RExpr) (h : i < length es) (is : e ≡ get_or es i e)
    (count : length s1.values ≡ length s.values + 2 * i) where
  pub targets_now : targets_of (take i es) (drop (length s.values) s1.values) ++ target_of e (first (drop (length s1.values) s2.values)) (first (drop 1 (drop (length s1.values) s2.values))) ∷ [] ≡ targets_of (take (i + 1) es) (drop (length s.values) s2.values)
  targets_now =
      let us : List Value = drop (length s.values) s1.values in
      let vs : List Value = drop (length s1.values) s2.values in
      let n : length (take i es) ≡ i = length-take-le i es (omega (arith, h)) in
      let c : length us ≡ 2 * length (take i es) = omega (arith, length-drop (length s.values) s1.values, count, n) in
      let v : drop (length s.values) s2.values ≡ us ++ vs = above_from (length s.values) s1 s2 above.within b in
      let t : take (i + 1) es ≡ take i es ++ e ∷ [] = take_more es i e h ∙ ap (λ x. take i es ++ x ∷ []) (sym is) in
      sym (ap (λ x. targets_of x (drop (length s.values) s2.values)) t ∙ ap (targets_of (take i es ++ e ∷ [])) v ∙ targets_more (take i es) e us vs c)

-- no further target
module _ {H : Type 0} {asked : H → Ask → Answer → H → Type 0} (p : Loaded) (l : Level) (f : Frame) (es : List RExpr) (m m1 : Machine H) (i : ℕ) (h : i ≡ length es) (k : Next (List Target)) where
  pub targets_whole : Leads asked (point m1) (targets p l (targets_of (take i es) (drop (length m.stack.values) m1.stack.values)) (drop i es) f (world m1) k) (point m1) (Some (k (Ok (targets_of es (drop (length m.stack.values) m1.stack.values))) (world m1)))
  targets_whole =
      let n : length es ≤ i = omega (arith, h) in
      from (targets_end p l f (world m1) k (targets_of (take i es) (drop (length m.stack.values) m1.stack.values)) es i n)
      (upto (ap (λ x. Some (k (Ok (targets_of x (drop (length m.stack.values) m1.stack.values))) (world m1))) (take_all i es n)) here)
