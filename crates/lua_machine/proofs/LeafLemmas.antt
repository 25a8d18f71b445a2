-- Leaves: what they mean on a level.
use Rattle.std.proofs.Common.{◌≡◌, ℕ, ◌-◌, ◌<◌, Ok, Err, Result, Option, Some, None, refl, sym, ap, ◌∙◌}
use Rattle.std.specs.Option.{unwrap_or}
use Rattle.std.proofs.lemmas.Option.{none-some}
use Rattle.object_store.specs.declared.value.Value.{Value}
use Rattle.object_store.specs.declared.value.Value.TheVariants as V
use Rattle.lua_program.specs.declared.expr.RExpr.{RExpr, out-RExpr}
use Rattle.lua_program.specs.declared.expr.RExprKind.{RExprKind, out-RExprKind}
use Rattle.lua_program.specs.declared.expr.RExprKind.TheOpen as E
use Rattle.lua_program.specs.declared.expr.RPair.{RPair}
use Rattle.lua_program.specs.declared.expr.RField.{RField}
use Rattle.lua_program.specs.declared.expr.Ref.{Ref}
use Rattle.lua_program.specs.declared.expr.Ref.TheVariants as R
use Rattle.lanes_lib.specs.declared.ask.Ask.{Ask}
use Rattle.lanes_lib.specs.declared.ask.Answer.{Answer}
use Rattle.lua_meaning.specs.declared.fault.Fault.{Fault}
use Rattle.lua_meaning.specs.declared.fault.Fault.TheVariants as F
use Rattle.lua_meaning.specs.Run.{World, Run, Next, and_then, here}
use Rattle.lua_meaning.specs.Level.{Loaded, Level, Frame, tick, or_broken}
use Rattle.lua_meaning.specs.Levels.{level, expr_at}
use Rattle.lua_meaning.specs.Names.{local_value}
use Rattle.lua_meaning.specs.Expressions.{expr_on, name, key_at}
use Rattle.lua_machine.specs.Leaves.{value_if, leaf_value}
use Rattle.lua_machine.specs.Does.{GivesOne, frame, world}
use Rattle.lua_machine.specs.declared.machine.Machine.{Machine}
use Rattle.lua_machine.specs.declared.machine.Window.{Window}
use Rattle.lua_machine.specs.declared.machine.Done.TheVariants.{Well}
use Rattle.lua_machine.proofs.Leads.{from, tick_goes}
use Rattle.lua_machine.proofs.Levels.{above_level}

some_same : {A : Type 0} (a b : A) → Some a ≡ Some b → a ≡ b
some_same a b e = ap (λ o. unwrap_or o a) e

value_is : (r : Result Value Fault) (v : Value) → value_if r ≡ Some v → r ≡ Ok v
value_is (Ok u) v e = ap Ok (some_same u v e)
value_is (Err x) v e = absurd (none-some _ e)

named_leaf : (p : Loaded) (l : Level) (f : Frame) (line : ℕ) (r : Ref) (w : World) (k : Next Value) (v : Value) → local_value w.store.heap f r ≡ Ok v → name p l f line r w k ≡ k (Ok v) w
named_leaf p l f line (R.Slot i) w k v e = ap (λ o. k o w) e
named_leaf p l f line (R.CellSlot i) w k v e = ap (λ o. k o w) e
named_leaf p l f line (R.Up j) w k v e = ap (λ o. k o w) e
named_leaf p l f line (R.Global t) w k v e = absurd (no_value e)
  where
    no_value : {A : Type 0} {x : Fault} {u : Value} → Err x ≡ Ok u → A
    no_value {A} h = absurd (none-some _ (ap value_if h))

-- a leaf's meaning is its value
pub leaf_means : (p : Loaded) (l : Level) (f : Frame) (line : ℕ) (e : E.RExprKind-F RExprKind RField RExpr RPair) (w : World) (k : Next Value) (v : Value) → leaf_value p w.store.heap f e ≡ Some v → expr_on p l f line e w k ≡ k (Ok v) w
leaf_means p l f line (E.Int n) w k v h = ap (λ u. k (Ok u) w) (some_same _ _ h)
leaf_means p l f line (E.Text t place) w k v h = ap (λ o. k (or_broken o) w) h
leaf_means p l f line (E.Name r place) w k v h = named_leaf p l f line r w k v (value_is _ v h)
leaf_means p l f line E.Nil w k v h = absurd (none-some _ h)
leaf_means p l f line E.True w k v h = absurd (none-some _ h)
leaf_means p l f line E.False w k v h = absurd (none-some _ h)
leaf_means p l f line (E.Dots place) w k v h = absurd (none-some _ h)
leaf_means p l f line (E.Index two) w k v h = absurd (none-some _ h)
leaf_means p l f line (E.Call a es) w k v h = absurd (none-some _ h)
leaf_means p l f line (E.Method a t es) w k v h = absurd (none-some _ h)
leaf_means p l f line (E.Function n) w k v h = absurd (none-some _ h)
leaf_means p l f line (E.Binary o two) w k v h = absurd (none-some _ h)
leaf_means p l f line (E.Unary o a) w k v h = absurd (none-some _ h)
leaf_means p l f line (E.And two) w k v h = absurd (none-some _ h)
leaf_means p l f line (E.Or two) w k v h = absurd (none-some _ h)
leaf_means p l f line (E.Paren a) w k v h = absurd (none-some _ h)
leaf_means p l f line (E.Table ds) w k v h = absurd (none-some _ h)

-- a leaf that was read in place, with one step
pub leaf_read : {H : Type 0} (asked : H → Ask → Answer → H → Type 0) (p : Loaded) (n : ℕ) (m m1 m2 : Machine H) (f : Window) (e : RExpr) → (n ≡ 0 → ⊥) → (m.left < 2 → ⊥) → leaf_value p m.state.heap (frame f m.stack) (out-RExprKind (out-RExpr e).what) ≡ Some m1.value → m1 ≡ record m { value = m1.value } → m2 ≡ record m1 { left = m1.left - 1 } → GivesOne asked (level p n) m f e Well m2
leaf_read {H} asked p n m m1 m2 f e some steps value taken counted = record {
  leads = λ k. from (ap (λ l. l.expr e (frame f m.stack) (world m) k) (above_level p n some)
      ∙ tick_goes (world m) (and_then k (λ u w. expr_at p (level p (n - 1)) e (frame f m.stack) w k)) steps
      ∙ leaf_means p (level p (n - 1)) (frame f m.stack) (out-RExpr e).line (out-RExprKind (out-RExpr e).what) (record (world m) { left = m.left - 1 }) k m1.value value)
      (rw (counted, taken) here);
  stack = ap (λ x. x.stack) counted ∙ ap (λ x. x.stack) taken;
}
