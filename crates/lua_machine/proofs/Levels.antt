-- What stands on a level, by what stands on the one below.
use Rattle.std.proofs.Common.{◌≡◌, ℕ, zero, suc, ◌-◌, Ok, Option, Some, List, [], ◌∷◌, refl, sym, ap, arith, ◌∙◌}
use Rattle.object_store.specs.declared.value.Value.{Value}
use Rattle.lua_program.specs.declared.expr.RExpr.{RExpr, out-RExpr}
use Rattle.lua_program.specs.declared.expr.RExprKind.{RExprKind, out-RExprKind, roll-RExprKind, roll-out-RExprKind}
use Rattle.lua_program.specs.declared.expr.RExprKind.TheOpen as E
use Rattle.lua_program.specs.declared.expr.RExprKind.TheVariants as T
use Rattle.lua_program.specs.declared.expr.RPair.{RPair}
use Rattle.lua_program.specs.declared.expr.RField.{RField}
use Rattle.lanes_lib.specs.declared.ask.Ask.{Ask}
use Rattle.lanes_lib.specs.declared.ask.Answer.{Answer}
use Rattle.lua_meaning.specs.Run.{World, Run, Next, Point, Leads, and_then}
use Rattle.lua_meaning.specs.Level.{Loaded, Level, Frame, tick}
use Rattle.lua_meaning.specs.Levels.{level, above, past_last, expr_at}
use Rattle.lua_meaning.specs.Expressions.{expr_on, multi_on}
use Rattle.lua_machine.specs.declared.machine.Machine.{Machine}
use Rattle.lua_machine.specs.Does.{point, world}
use Rattle.lua_machine.proofs.Leads.{leads_on, from}

pub above_level : (p : Loaded) (n : ℕ) → (n ≡ 0 → ⊥) → level p n ≡ above p (level p (n - 1))
unfolding level
above_level p zero some = absurd (some refl)
above_level p (suc n) some = let e : suc n - 1 ≡ n = omega arith in ap (λ i. above p (level p i)) (sym e)

pub last_level : (p : Loaded) (n : ℕ) → n ≡ 0 → level p n ≡ past_last
unfolding level
last_level p n e = ap (level p) e

-- an expression of this form begins with one step
pub stepped : {H : Type 0} {asked : H → Ask → Answer → H → Type 0} (p : Loaded) (n : ℕ) (e : RExpr) (view : E.RExprKind-F RExprKind RField RExpr RPair) (f : Frame) (m m1 : Machine H) {h2 : Point H} {goal : Option Run} (k : Next Value) → (n ≡ 0 → ⊥) → out-RExprKind (out-RExpr e).what ≡ view → ((j : Next (Unit {0})) → Leads asked (point m) (tick (world m) j) (point m1) (Some (j (Ok tt) (world m1)))) → Leads asked (point m1) (expr_on p (level p (n - 1)) f (out-RExpr e).line view (world m1) k) h2 goal → Leads asked (point m) ((level p n).expr e f (world m) k) h2 goal
stepped p n e view f m m1 k some is t x =
    from (ap (λ l. l.expr e f (world m) k) (above_level p n some)) (leads_on (t _) (from (ap (λ v. expr_on p (level p (n - 1)) f (out-RExpr e).line v (world m1) k) is) x))

-- and so it does where the step spends the budget
pub unstepped : {H : Type 0} {asked : H → Ask → Answer → H → Type 0} (p : Loaded) (n : ℕ) (e : RExpr) (f : Frame) (m : Machine H) {h2 : Point H} {goal : Option Run} (k : Next Value) → (n ≡ 0 → ⊥) → Leads asked (point m) (tick (world m) (and_then k (λ u w. expr_at p (level p (n - 1)) e f w k))) h2 goal → Leads asked (point m) ((level p n).expr e f (world m) k) h2 goal
unstepped p n e f m k some t = from (ap (λ l. l.expr e f (world m) k) (above_level p n some)) t

-- ---- forms that give one value

module _ (p : Loaded) (l : Level) (f : Frame) (line : ℕ) (w : World) (k : Next (List Value)) where
  abbrev pub alone : Value → World → Run
  alone v w = k (Ok (v ∷ [])) w

  single : (e : E.RExprKind-F RExprKind RField RExpr RPair) → ((t : _) → e ≡ E.Dots t → ⊥) → ((a : _) (b : _) → e ≡ E.Call a b → ⊥) → ((a : _) (b : _) (c : _) → e ≡ E.Method a b c → ⊥) → multi_on p l f line e w k ≡ expr_on p l f line e w (and_then k alone)
  single E.Nil d c m = refl
  single E.True d c m = refl
  single E.False d c m = refl
  single (E.Int n) d c m = refl
  single (E.Text t place) d c m = refl
  single (E.Dots place) d c m = absurd (d place refl)
  single (E.Name r place) d c m = refl
  single (E.Index two) d c m = refl
  single (E.Call e es) d c m = absurd (c e es refl)
  single (E.Method e t es) d c m = absurd (m e t es refl)
  single (E.Function n) d c m = refl
  single (E.Binary o two) d c m = refl
  single (E.Unary o e) d c m = refl
  single (E.And two) d c m = refl
  single (E.Or two) d c m = refl
  single (E.Paren e) d c m = refl
  single (E.Table ds) d c m = refl

  pub single_form : (e : RExprKind) → ((t : _) → e ≡ T.Dots t → ⊥) → ((a : _) (b : _) → e ≡ T.Call a b → ⊥) → ((a : _) (b : _) (c : _) → e ≡ T.Method a b c → ⊥) → multi_on p l f line (out-RExprKind e) w k ≡ expr_on p l f line (out-RExprKind e) w (and_then k alone)
  single_form e d c m =
      single (out-RExprKind e) (λ t h. d t (sym (roll-out-RExprKind e) ∙ ap roll-RExprKind h ∙ T.rolls-Dots t))
      (λ x y h. c x y (sym (roll-out-RExprKind e) ∙ ap roll-RExprKind h ∙ T.rolls-Call x y))
      (λ x y z h. m x y z (sym (roll-out-RExprKind e) ∙ ap roll-RExprKind h ∙ T.rolls-Method x y z))

-- such an expression gives its one value on each level
pub single_level : (p : Loaded) (n : ℕ) (f : Frame) (w : World) (k : Next (List Value)) (e : RExpr) → ((t : _) → (out-RExpr e).what ≡ T.Dots t → ⊥) → ((a : _) (b : _) → (out-RExpr e).what ≡ T.Call a b → ⊥) → ((a : _) (b : _) (c : _) → (out-RExpr e).what ≡ T.Method a b c → ⊥) → (level p n).multi e f w k ≡ (level p n).expr e f w (and_then k (λ v w. k (Ok (v ∷ [])) w))
unfolding level
single_level p zero f w k e d c m = refl
single_level p (suc n) f w k e d c m = λ i. tick w (and_then k (λ u w. single_form p (level p n) f (out-RExpr e).line w k (out-RExpr e).what d c m i))
