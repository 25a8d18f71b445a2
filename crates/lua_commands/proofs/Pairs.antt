-- Targets and other expressions by their form.
use Rattle.std.proofs.Common.{◌≡◌, subst, ℕ, Err, refl, sym, ap, ◌∙◌}
use Rattle.lua_program.specs.declared.expr.RExpr.{RExpr, out-RExpr}
use Rattle.lua_program.specs.declared.expr.RExprKind.{RExprKind, out-RExprKind, roll-RExprKind, roll-out-RExprKind}
use Rattle.lua_program.specs.declared.expr.RExprKind.TheVariants as K
use Rattle.lua_program.specs.declared.expr.RExprKind.TheOpen as E
use Rattle.lua_program.specs.declared.expr.RPair.{RPair}
use Rattle.lua_program.specs.declared.expr.RField.{RField}
use Rattle.object_store.specs.declared.value.Value.{Value}
use Rattle.lua_meaning.specs.declared.fault.Fault.TheVariants as F
use Rattle.lua_meaning.specs.Run.{World, Next}
use Rattle.lua_meaning.specs.Level.{Loaded, Level, Frame}
use Rattle.lua_meaning.specs.Statements.{Target, Field, target, target_on}
use Rattle.lanes_lib.specs.declared.ask.Ask.{Ask}
use Rattle.lanes_lib.specs.declared.ask.Answer.{Answer}
use Rattle.lua_machine.specs.declared.machine.Machine.{Machine}
use Rattle.lua_machine.specs.declared.machine.Window.{Window}
use Rattle.lua_machine.specs.declared.machine.Done.{Done}
use Rattle.lua_machine.specs.Does.{frame, world}
use Rattle.lua_machine.specs.Moved.{LocalsOf}
use Rattle.lua_commands.specs.Assigned.{assigned_one, stored_in}
use Rattle.lua_commands.specs.Targets.{target_by, target_of, TargetOf}

abbrev Form : Type 0
Form = E.RExprKind-F RExprKind RField RExpr RPair

-- what is no name
pub no_name : (line : ℕ) (what : Form) (object key : Value) → ((r : _) (place : _) → what ≡ E.Name r place → ⊥) → target_by line what object key ≡ Field object key line
no_name line E.Nil object key h = refl
no_name line E.True object key h = refl
no_name line E.False object key h = refl
no_name line (E.Int n) object key h = refl
no_name line (E.Text a n) object key h = refl
no_name line (E.Dots a) object key h = refl
no_name line (E.Name r a) object key h = absurd (h r a refl)
no_name line (E.Index a) object key h = refl
no_name line (E.Call a b) object key h = refl
no_name line (E.Method a b c) object key h = refl
no_name line (E.Function n) object key h = refl
no_name line (E.Binary o a) object key h = refl
no_name line (E.Unary o a) object key h = refl
no_name line (E.And a) object key h = refl
no_name line (E.Or a) object key h = refl
no_name line (E.Paren a) object key h = refl
no_name line (E.Table a) object key h = refl

pub no_name_at : (line : ℕ) (what : RExprKind) (object key : Value) → ((r : _) (place : _) → what ≡ K.Name r place → ⊥) → target_by line (out-RExprKind what) object key ≡ Field object key line
no_name_at line what object key a =
    no_name line (out-RExprKind what) object key (λ r x h. a r x (sym (roll-out-RExprKind what) ∙ ap roll-RExprKind h ∙ K.rolls-Name r x))

-- what is neither a name nor an index
module _ (p : Loaded) (l : Level) (f : Frame) (w : World) (k : Next Target) (line : ℕ) where
  pub no_target : (what : Form) → ((r : _) (place : _) → what ≡ E.Name r place → ⊥) → ((two : _) → what ≡ E.Index two → ⊥) → target_on p l line what f w k ≡ k (Err F.Broken) w
  no_target E.Nil a b = refl
  no_target E.True a b = refl
  no_target E.False a b = refl
  no_target (E.Int n) a b = refl
  no_target (E.Text x n) a b = refl
  no_target (E.Dots x) a b = refl
  no_target (E.Name r x) a b = absurd (a r x refl)
  no_target (E.Index x) a b = absurd (b x refl)
  no_target (E.Call x y) a b = refl
  no_target (E.Method x y z) a b = refl
  no_target (E.Function n) a b = refl
  no_target (E.Binary o x) a b = refl
  no_target (E.Unary o x) a b = refl
  no_target (E.And x) a b = refl
  no_target (E.Or x) a b = refl
  no_target (E.Paren x) a b = refl
  no_target (E.Table x) a b = refl

  pub no_target_at : (what : RExprKind) → ((r : _) (place : _) → what ≡ K.Name r place → ⊥) → ((two : _) → what ≡ K.Index two → ⊥) → target_on p l line (out-RExprKind what) f w k ≡ k (Err F.Broken) w
  no_target_at what a b =
      no_target (out-RExprKind what) (λ r x h. a r x (sym (roll-out-RExprKind what) ∙ ap roll-RExprKind h ∙ K.rolls-Name r x)) (λ x h. b x (sym (roll-out-RExprKind what) ∙ ap roll-RExprKind h ∙ K.rolls-Index x))

-- an expression of which the form is known
module _ {H : Type 0} {asked : H → Ask → Answer → H → Type 0} (p : Loaded) (l : Level) (f : Window) (m m1 : Machine H) (t : RExpr) where
  pub target_form : (form : Form) → out-RExprKind (out-RExpr t).what ≡ form → (r : Done) →
      TargetOf asked (λ k. target_on p l (out-RExpr t).line form (frame f m.stack) (world m) k) (λ a b. target_by (out-RExpr t).line form a b) m r m1 → TargetOf asked (target p l t (frame f m.stack) (world m)) (target_of t) m r m1
  target_form form is r x = subst (λ form. TargetOf asked (λ k. target_on p l (out-RExpr t).line form (frame f m.stack) (world m) k) (λ a b. target_by (out-RExpr t).line form a b) m r m1) (sym is) x

module _ {H : Type 0} {asked : H → Ask → Answer → H → Type 0} (p : Loaded) (l : Level) (f : Window) (m m1 : Machine H) (t e : RExpr) where
  pub assigned_form : (form : Form) → out-RExprKind (out-RExpr t).what ≡ form → (r : Done) →
      LocalsOf asked (λ k. target_on p l (out-RExpr t).line form (frame f m.stack) (world m) (stored_in p l (frame f m.stack) e k)) m f r m1 → LocalsOf asked (assigned_one p l (frame f m.stack) t e (world m)) m f r m1
  assigned_form form is r x = subst (λ form. LocalsOf asked (λ k. target_on p l (out-RExpr t).line form (frame f m.stack) (world m) (stored_in p l (frame f m.stack) e k)) m f r m1) (sym is) x
