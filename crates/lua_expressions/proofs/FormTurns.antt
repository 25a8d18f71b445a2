-- Expressions by their form.
use Rattle.std.proofs.Common.{◌≡◌, ℕ, Ok, List, [], ◌∷◌, refl, sym, ap, ◌∙◌, Bool, true, false, if◌then◌else◌}
use Rattle.object_store.specs.declared.value.Value.{Value}
use Rattle.object_store.specs.Value.{TableId}
use Rattle.lua_program.specs.declared.expr.RExpr.{RExpr}
use Rattle.lua_program.specs.declared.expr.RExprKind.{RExprKind, out-RExprKind, roll-RExprKind, roll-out-RExprKind}
use Rattle.lua_program.specs.declared.expr.RExprKind.TheOpen as E
use Rattle.lua_program.specs.declared.expr.RExprKind.TheVariants as T
use Rattle.lua_program.specs.declared.expr.RPair.{RPair}
use Rattle.lua_program.specs.declared.expr.RField.{RField}
use Rattle.lua_program.specs.declared.expr.Ref.{Ref}
use Rattle.lua_program.specs.declared.expr.Ref.TheVariants as R
use Rattle.lua_meaning.specs.Run.{World, Run, Next, and_then}
use Rattle.lua_meaning.specs.Level.{Loaded, Level, Frame}
use Rattle.lua_meaning.specs.Names.{is_true, local_value}
use Rattle.lua_meaning.specs.Expressions.{expr_on, multi_on, name}

pub table_is : (id : TableId) (n : ℕ) → id.number ≡ n → id ≡ record { number = n; kind = record {} }
table_is id n e = ap (λ (x : ℕ). record { number = x; kind = record {} }) e

-- a name that is no global
pub name_local : (p : Loaded) (l : Level) (f : Frame) (line : ℕ) (r : Ref) (w : World) (k : Next Value) → ((t : _) → r ≡ R.Global t → ⊥) → name p l f line r w k ≡ k (local_value w.store.heap f r) w
name_local p l f line (R.Slot i) w k h = refl
name_local p l f line (R.CellSlot i) w k h = refl
name_local p l f line (R.Up j) w k h = refl
name_local p l f line (R.Global t) w k h = absurd (h t refl)

-- ---- `and` and `or`

module _ (l : Level) (f : Frame) (k : Next Value) (two : E.RPair-F RExprKind RField RExpr RPair) where
  -- what follows the first operand
  abbrev pub either_next : Bool → Value → World → Run
  either_next stops a w =
      if (if stops then is_true a else (if is_true a then false else true)) then k (Ok a) w else
      l.expr two.right f w k

  pub and_stops : (a : Value) (w : World) → is_true a ≡ false → either_next false a w ≡ k (Ok a) w
  and_stops a w e = ap (λ b. if (if b then false else true) then k (Ok a) w else l.expr two.right f w k) e

  pub and_goes : (a : Value) (w : World) → is_true a ≡ true → either_next false a w ≡ l.expr two.right f w k
  and_goes a w e = ap (λ b. if (if b then false else true) then k (Ok a) w else l.expr two.right f w k) e

  pub or_stops : (a : Value) (w : World) → is_true a ≡ true → either_next true a w ≡ k (Ok a) w
  or_stops a w e = ap (λ b. if b then k (Ok a) w else l.expr two.right f w k) e

  pub or_goes : (a : Value) (w : World) → is_true a ≡ false → either_next true a w ≡ l.expr two.right f w k
  or_goes a w e = ap (λ b. if b then k (Ok a) w else l.expr two.right f w k) e

-- ---- forms that give one value

module _ (p : Loaded) (l : Level) (f : Frame) (line : ℕ) (w : World) (k : Next (List Value)) where
  abbrev pub alone : Value → World → Run
  alone v w = k (Ok (v ∷ [])) w

  single : (e : E.RExprKind-F RExprKind RField RExpr RPair) → ((t : _) → e ≡ E.Dots t → ⊥) → ((a : _) (b : _) → e ≡ E.Call a b → ⊥) → ((a : _) (b : _) (c : _) → e ≡ E.Method a b c → ⊥) → multi_on p l f line e w k ≡ expr_on p l f line e w (and_then k alone)
  single E.Nil d c m = refl
  single E.True d c m = refl
  single E.False d c m = refl
  single (E.Int n) d c m = refl
  single (E.Text t place) d c m = refl
  single (E.Dots place) d c m = absurd (d place refl)
  single (E.Name r place) d c m = refl
  single (E.Index two) d c m = refl
  single (E.Call e es) d c m = absurd (c e es refl)
  single (E.Method e t es) d c m = absurd (m e t es refl)
  single (E.Function n) d c m = refl
  single (E.Binary o two) d c m = refl
  single (E.Unary o e) d c m = refl
  single (E.And two) d c m = refl
  single (E.Or two) d c m = refl
  single (E.Paren e) d c m = refl
  single (E.Table ds) d c m = refl

  pub single_form : (e : RExprKind) → ((t : _) → e ≡ T.Dots t → ⊥) → ((a : _) (b : _) → e ≡ T.Call a b → ⊥) → ((a : _) (b : _) (c : _) → e ≡ T.Method a b c → ⊥) → multi_on p l f line (out-RExprKind e) w k ≡ expr_on p l f line (out-RExprKind e) w (and_then k alone)
  single_form e d c m =
      single (out-RExprKind e) (λ t h. d t (sym (roll-out-RExprKind e) ∙ ap roll-RExprKind h ∙ T.rolls-Dots t))
      (λ x y h. c x y (sym (roll-out-RExprKind e) ∙ ap roll-RExprKind h ∙ T.rolls-Call x y))
      (λ x y z h. m x y z (sym (roll-out-RExprKind e) ∙ ap roll-RExprKind h ∙ T.rolls-Method x y z))
