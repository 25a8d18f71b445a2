-- Values that come into targets, one after another.
use Rattle.std.proofs.Common.{◌≡◌, ℕ, suc, ◌+◌, ◌*◌, ◌<◌, ◌≤◌, Ok, List, ◌∷◌, length, drop, get_or, sym, ap, ◌∙◌, arith}
use Rattle.std.proofs.lemmas.List.{drop_all}
use Rattle.lua_program.specs.declared.expr.RExpr.{RExpr}
use Rattle.object_store.specs.declared.value.Value.{Value}
use Rattle.lua_meaning.specs.Run.{World, Run, Next, and_then}
use Rattle.lua_meaning.specs.Level.{Loaded, Level, Locals, Frame}
use Rattle.lua_meaning.specs.Names.{first}
use Rattle.lua_meaning.specs.Statements.{with_locals, store, stores}
use Rattle.lua_machine.proofs.Windows.{drop_past}
use Rattle.lua_commands.specs.Targets.{target_of, targets_of}
use Rattle.lua_commands.proofs.TargetTurns.{targets_from, targets_length}

module _ (p : Loaded) (l : Level) (ts : List RExpr) (vs us : List Value) (i : ℕ) (f : Frame) (w : World) (k : Next Locals) where
  abbrev pub store_next : Locals → World → Run
  store_next locals w = stores p l (drop (i + 1) (targets_of ts vs)) (drop (i + 1) us) (with_locals f locals) w k

  pub store_at : (t : RExpr) → i < length ts → t ≡ get_or ts i t → stores p l (drop i (targets_of ts vs)) (drop i us) f w k ≡ store p l f (target_of t (first (drop (2 * i) vs)) (first (drop (2 * i + 1) vs))) (first (drop i us)) w (and_then k store_next)
  store_at t h is =
      let one : suc i ≡ i + 1 = omega arith in
      let d : drop i (targets_of ts vs) ≡ target_of t (first (drop (2 * i) vs)) (first (drop 1 (drop (2 * i) vs))) ∷ drop (i + 1) (targets_of ts vs) =
      targets_from ts i t vs h is ∙ ap (λ n. target_of t (first (drop (2 * i) vs)) (first (drop 1 (drop (2 * i) vs))) ∷ drop n (targets_of ts vs)) one in
      ap (λ x. stores p l x (drop i us) f w k) d
      ∙ ap (λ x. store p l f (target_of t (first (drop (2 * i) vs)) (first x)) (first (drop i us)) w (and_then k (λ locals w. stores p l (drop (i + 1) (targets_of ts vs)) (drop 1 (drop i us)) (with_locals f locals) w k))) (sym (drop_past (2 * i) vs))
      ∙ ap (λ x. store p l f (target_of t (first (drop (2 * i) vs)) (first (drop (2 * i + 1) vs))) (first (drop i us)) w (and_then k (λ locals w. stores p l (drop (i + 1) (targets_of ts vs)) x (with_locals f locals) w k))) (sym (drop_past i us))

  pub store_end : length ts ≤ i → stores p l (drop i (targets_of ts vs)) (drop i us) f w k ≡ k (Ok f.locals) w
  store_end h = ap (λ x. stores p l x (drop i us) f w k) (drop_all i (targets_of ts vs) (omega (arith, h, targets_length ts vs)))

-- the same with other names of the values
module _ (p : Loaded) (l : Level) (f : Frame) (t : RExpr) (a a1 b b1 v v1 : Value) (w : World) (k : Next Locals) where
  pub store_same : a ≡ a1 → b ≡ b1 → v ≡ v1 → store p l f (target_of t a b) v w k ≡ store p l f (target_of t a1 b1) v1 w k
  store_same ea eb ev = λ i. store p l f (target_of t (ea i) (eb i)) (ev i) w k
