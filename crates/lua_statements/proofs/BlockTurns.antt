-- Statements one after another.
use Rattle.std.proofs.Common.{◌≡◌, ℕ, zero, suc, ◌+◌, ◌-◌, ◌<◌, ◌≤◌, Result, Ok, Err, List, ◌∷◌, length, drop, get_or, refl, sym, ap, ◌∙◌, arith, add-one, drop-cons}
use Rattle.std.proofs.lemmas.List.{drop_all}
use Rattle.lua_program.specs.declared.stat.RStat.{RStat}
use Rattle.lua_meaning.specs.declared.fault.Fault.{Fault}
use Rattle.lua_meaning.specs.declared.fault.Fault.TheVariants as F
use Rattle.lua_meaning.specs.Run.{World, Run, Next}
use Rattle.lua_meaning.specs.Level.{Level, Frame, Locals, Flow, Goes, Jumps}
use Rattle.lua_meaning.specs.Statements.{with_locals, after, sequence, jumped}
use Rattle.lua_statements.specs.Blocks.{left_by, landed}

module _ (l : Level) (jump : ℕ → Locals → World → Run) (k : Next Flow) where
  pub sequence_at : (ss : List RStat) (i : ℕ) (s : RStat) (f : Frame) (w : World) → i < length ss → s ≡ get_or ss i s → sequence l jump (drop i ss) f w k ≡ l.stmt s f w (after k (λ locals w. sequence l jump (drop (i + 1) ss) (with_locals f locals) w k) jump)
  sequence_at ss i s f w h is =
      let e : drop i ss ≡ get_or ss i s ∷ drop (i + 1) ss = rw (add-one, drop-cons ss i s) in
      ap (λ x. sequence l jump x f w k) (e ∙ ap (λ x. x ∷ drop (i + 1) ss) (sym is))

  pub sequence_end : (ss : List RStat) (i : ℕ) (f : Frame) (w : World) → length ss ≤ i → sequence l jump (drop i ss) f w k ≡ k (Ok (Goes f.locals)) w
  sequence_end ss i f w h = ap (λ x. sequence l jump x f w k) (drop_all i ss h)

-- a goto needs nothing of what follows the statement
pub jump_alone : (k : Next Flow) (go go1 : Locals → World → Run) (jump : ℕ → Locals → World → Run) (n i : ℕ) (x : Locals) (w : World) → after k go jump (Ok (Jumps n i x)) w ≡ after k go1 jump (Ok (Jumps n i x)) w
jump_alone k go go1 jump zero i x w = refl
jump_alone k go go1 jump (suc n) i x w = refl

-- ---- after a goto

module _ (l : Level) (ss : List RStat) (f : Frame) (k : Next Flow) where
  -- it needs nothing of the locals before
  pub jumped_same : (turns : ℕ) (x : Locals) → jumped l turns ss (with_locals f x) k ≡ jumped l turns ss f k
  jumped_same zero x = refl
  jumped_same (suc turns) x = λ j n locals w. sequence l (jumped_same turns x j) (drop (suc n) ss) (with_locals f locals) w k

  pub landed_same : (x : Locals) (o : Result Flow Fault) (w : World) → landed l ss (with_locals f x) o w k ≡ landed l ss f o w k
  landed_same x o w = λ j. left_by k (λ n locals w. jumped_same w.left x j n locals w) o w

  pub jumped_at : (turns i n : ℕ) (x : Locals) (w : World) → i < turns → jumped l (turns - i) ss f k n x w ≡ sequence l (jumped l (turns - (i + 1)) ss f k) (drop (suc n) ss) (with_locals f x) w k
  jumped_at turns i n x w h = at_suc (turns - i) (turns - (i + 1)) (omega arith)
    where
      at_suc : (a b : ℕ) → a ≡ suc b → jumped l a ss f k n x w ≡ sequence l (jumped l b ss f k) (drop (suc n) ss) (with_locals f x) w k
      at_suc a b e = ap (λ a. jumped l a ss f k n x w) e

  pub jumped_end : (turns i n : ℕ) (x : Locals) (w : World) → turns ≤ i → jumped l (turns - i) ss f k n x w ≡ k (Err F.Spent) (record w { left = 0 })
  jumped_end turns i n x w h = let e : turns - i ≡ zero = omega arith in ap (λ a. jumped l a ss f k n x w) e
