-- How a run with one word finishes.
use Rattle.std.proofs.Common.{◌≡◌, ◌⊎◌, inl, inr, ◌∙◌, ℕ, ◌<◌, ◌≤◌, get_or, arith, List, [], ◌∷◌, length, Result, Ok, Err, ap, sym, subst, refl}
use Rattle.std.specs.Result.{IfOk}
use Rattle.std.specs.declared.option.Option.{Option}
use Rattle.lua_tokens.specs.declared.token.Token.{Token}
use Rattle.lua_lexer.specs.Tokens.{Lexes}
use Rattle.lua_lexer.specs.View.{marks}
use Rattle.lua_parser.specs.Answers.{Answers}
use Rattle.lua_program.specs.declared.program.Program.{Program}
use Rattle.lua_scope.specs.Stands.{IsSpelled, Stands}
use Rattle.lua_tree.specs.declared.stat.Tree.{Tree}
use Rattle.script_run.specs.declared.script.ProgramEnd.{ProgramEnd}
use Rattle.script_run.specs.declared.script.ProgramEnd.TheVariants as program
use Rattle.plain_host.specs.Writing.{Told}
use Rattle.lanes_program.specs.declared.run.End.{End}
use Rattle.lanes_program.specs.declared.run.End.TheVariants as E
use Rattle.lanes_program.specs.Finish.{Finishes, IsProgramOf, RunsScript}
use Rattle.lanes_program.specs.Refusals.{script_name}
use Rattle.lanes_program.specs.Status.{IsOwnStatus, name_of, program_line, program_status, status_of}
use Rattle.lanes_program.proofs.RefusalLemmas.{program_here}

-- the one word names the script
pub one_word : {S : Type 0} (bytes : S → List ℕ) (ws : List S) (w : S) → 1 ≤ length ws → length ws < 2 → w ≡ get_or ws 0 w → name_of bytes ws ≡ script_name (bytes w)
one_word bytes [] w low high e = absurd (omega (arith, low))
one_word bytes (x ∷ []) w low high e = ap (λ y. script_name (bytes y)) (sym e)
one_word bytes (x ∷ y ∷ ws) w low high e = absurd (omega (arith, high))

never3 : IsOwnStatus 3 → ⊥
never3 (inl e) = omega (arith, e)
never3 (inr (inl e)) = omega (arith, e)
never3 (inr (inr (inl e))) = omega (arith, e)
never3 (inr (inr (inr e))) = omega (arith, e)

never4 : IsOwnStatus 4 → ⊥
never4 (inl e) = omega (arith, e)
never4 (inr (inl e)) = omega (arith, e)
never4 (inr (inr (inl e))) = omega (arith, e)
never4 (inr (inr (inr e))) = omega (arith, e)

never5 : IsOwnStatus 5 → ⊥
never5 (inl e) = omega (arith, e)
never5 (inr (inl e)) = omega (arith, e)
never5 (inr (inr (inl e))) = omega (arith, e)
never5 (inr (inr (inr e))) = omega (arith, e)

module _ {X : Type 0} (l0 l1 : Option (List ℕ)) (name : List ℕ) (t0 t1 : Option (List ℕ)) (f0 f1 : ℕ) (e0 e1 : Option (List ℕ)) (u0 u1 : ℕ) where
  pub finishes : (end : End) (status : ℕ) → (status ≡ status_of end) ⊎ ((status_of end ≡ 3) × (status ≡ 4)) → ((p : ProgramEnd) → end ≡ E.Ran p → RunsScript l0 l1 name t0 t1 f0 f1 p ⊎ ((p ≡ program.Memory) × X)) → ((p : ProgramEnd) → end ≡ E.Ran p → Told u0 u1 e0 e1 (program_line p)) → IsOwnStatus status → Finishes l0 l1 name t0 t1 f0 f1 e0 e1 u0 u1 status
  finishes end status (inr h) ran told own = absurd (never4 (subst IsOwnStatus h.1 own))
  finishes (E.Ran p) status (inl is) ran told own = by (ran p refl)
    where
      by : RunsScript l0 l1 name t0 t1 f0 f1 p ⊎ ((p ≡ program.Memory) × X) → Finishes l0 l1 name t0 t1 f0 f1 e0 e1 u0 u1 status
      by (inl r) = record { end = p; is = is; ran = r; told = told p refl }
      by (inr x) = absurd (never4 (subst IsOwnStatus (is ∙ ap program_status x.0) own))
  finishes (E.Refused r) status (inl is) ran told own = absurd (never3 (subst IsOwnStatus is own))
  finishes E.Memory status (inl is) ran told own = absurd (never4 (subst IsOwnStatus is own))
  finishes E.ReadFault status (inl is) ran told own = absurd (never5 (subst IsOwnStatus is own))

-- the program that a tree has
pub program_all : (script name : List ℕ) (tokens : List Token) (tree : Tree) (r : Result Program End) → Lexes script (marks tokens) → Answers tokens (Ok tree) → IfOk r (λ p. IsSpelled tree → Stands p name tree) → IfOk r (λ p. IsProgramOf script name p)
program_all script name tokens tree (Ok p) lexes answers h = program_here script name tokens tree p lexes answers h
program_all script name tokens tree (Err e) lexes answers h = tt
