-- The branches of an `if` statement.
use Rattle.std.proofs.Common.{◌≡◌, ℕ, ◌+◌, ◌<◌, ◌≤◌, Result, Ok, Err, Option, List, [], ◌∷◌, length, drop, get_or, sym, ap, ◌∙◌, add-one, drop-cons, if◌then◌else◌, Bool}
use Rattle.std.proofs.lemmas.List.{drop_all}
use Rattle.lua_program.specs.declared.stat.RStat.{RStat}
use Rattle.lua_program.specs.declared.stat.RBranch.{RBranch, out-RBranch}
use Rattle.lua_meaning.specs.Run.{World, Run, Next, and_then}
use Rattle.lua_meaning.specs.Level.{Loaded, Level, Frame, Flow}
use Rattle.lua_meaning.specs.Statements.{block, tested, otherwise, branches}

module _ (p : Loaded) (l : Level) (last : Option (List RStat)) (f : Frame) (w : World) (k : Next Flow) (bs : List RBranch) (i : ℕ) where
  -- what is done once the condition of a branch is known
  abbrev pub branch_tested : RBranch → Bool → World → Run
  branch_tested b truth w = if truth then block l (out-RBranch b).block f w k else branches p l (drop (i + 1) bs) last f w k

  pub branch_at : (b : RBranch) → i < length bs → b ≡ get_or bs i b → branches p l (drop i bs) last f w k ≡ tested l (out-RBranch b).condition f w (and_then k (branch_tested b))
  branch_at b h is =
      let e : drop i bs ≡ get_or bs i b ∷ drop (i + 1) bs = rw (add-one, drop-cons bs i b) in
      ap (λ x. branches p l x last f w k) (e ∙ ap (λ x. x ∷ drop (i + 1) bs) (sym is))

  pub branch_end : length bs ≤ i → branches p l (drop i bs) last f w k ≡ otherwise p l last f w k
  branch_end h = ap (λ x. branches p l x last f w k) (drop_all i bs h)
