-- Conditions that are evaluated without a value.
use Rattle.std.proofs.Common.{◌≡◌, ℕ, Bool, true, false, if◌then◌else◌, Result, Ok, Err, refl, sym, ap, ◌∙◌}
use Rattle.lua_program.specs.declared.expr.RExpr.{RExpr}
use Rattle.lua_program.specs.declared.expr.RExprKind.{RExprKind}
use Rattle.lua_program.specs.declared.expr.RExprKind.TheOpen as E
use Rattle.lua_program.specs.declared.expr.RPair.{RPair}
use Rattle.lua_program.specs.declared.expr.RField.{RField}
use Rattle.object_store.specs.declared.value.Value.{Value}
use Rattle.lua_meaning.specs.declared.fault.Fault.{Fault}
use Rattle.lua_meaning.specs.Run.{Run, World, Next, and_then}
use Rattle.lua_meaning.specs.Level.{Loaded, Level, Frame}
use Rattle.lua_meaning.specs.Names.{is_true}
use Rattle.lua_meaning.specs.Statements.{tested}
use Rattle.lua_statements.specs.Conditions.{judged, either_tested}

-- a condition as an expression whose value is judged
pub tested_is : (l : Level) (e : RExpr) (f : Frame) (w : World) (k : Next Bool) → tested l e f w k ≡ l.expr e f w (judged k)
unfolding tested judged
tested_is l e f w k = refl

module _ (p : Loaded) (l : Level) (f : Frame) (two : E.RPair-F RExprKind RField RExpr RPair) (w : World) (k : Next Bool) where
  -- what follows the first condition of `and`, and of `or`
  abbrev pub after_and : Bool → World → Run
  after_and truth w = if truth then tested l two.right f w k else k (Ok false) w

  abbrev pub after_or : Bool → World → Run
  after_or truth w = if truth then k (Ok true) w else tested l two.right f w k

  pub and_is : either_tested p l f false two w k ≡ tested l two.left f w (and_then k after_and)
  unfolding either_tested tested judged
  and_is = λ i. l.expr two.left f w (λ r w. next r w i)
    where
      judge : Next Value
      judge = and_then k (λ v w. k (Ok (is_true v)) w)

      by : (b : Bool) (w : World) → (if (if b then false else true) then k (Ok b) w else l.expr two.right f w judge) ≡ after_and b w
      by true w = refl
      by false w = refl

      next : (r : Result Value Fault) (w : World) → and_then judge (λ a w. if (if is_true a then false else true) then judge (Ok a) w else l.expr two.right f w judge) r w ≡ and_then (and_then k after_and) (λ v w. and_then k after_and (Ok (is_true v)) w) r w
      next (Ok a) w = by (is_true a) w
      next (Err x) w = refl

  pub or_is : either_tested p l f true two w k ≡ tested l two.left f w (and_then k after_or)
  unfolding either_tested tested judged
  or_is = λ i. l.expr two.left f w (λ r w. next r w i)
    where
      judge : Next Value
      judge = and_then k (λ v w. k (Ok (is_true v)) w)

      by : (b : Bool) (w : World) → (if b then k (Ok b) w else l.expr two.right f w judge) ≡ after_or b w
      by true w = refl
      by false w = refl

      next : (r : Result Value Fault) (w : World) → and_then judge (λ a w. if is_true a then judge (Ok a) w else l.expr two.right f w judge) r w ≡ and_then (and_then k after_or) (λ v w. and_then k after_or (Ok (is_true v)) w) r w
      next (Ok a) w = by (is_true a) w
      next (Err x) w = refl
