-- Lists of one expression.
use Rattle.std.proofs.Common.{◌≡◌, ℕ, get_or, Result, Ok, Err, List, [], ◌∷◌, length, refl, sym, ap, ◌∙◌, arith}
use Rattle.lua_program.specs.declared.expr.RExpr.{RExpr}
use Rattle.lua_program.specs.declared.expr.Ref.{Ref}
use Rattle.object_store.specs.declared.value.Value.{Value}
use Rattle.lua_meaning.specs.declared.fault.Fault.{Fault}
use Rattle.lua_meaning.specs.Run.{World, Run, Next, and_then}
use Rattle.lua_meaning.specs.Level.{Loaded, Level, Frame, Locals, Flow, Returns}
use Rattle.lua_meaning.specs.Expressions.{exactly, limited}
use Rattle.lua_meaning.specs.Statements.{Target, Field, target, store, stores, assigned, declare, declare_all, local, return}
use Rattle.lua_meaning.specs.Expressions.{globals}
use Rattle.object_store.specs.declared.value.Value.TheVariants as V
use Rattle.object_store.specs.Value.{TableId}
use Rattle.lua_commands.specs.Assigned.{pair_target, stored, stored_in, assigned_field, assigned_one, declared_one, returned_one}

-- a part that is followed by nothing
pub and_no_more : {A : Type 0} (k : Next A) → and_then k (λ a w. k (Ok a) w) ≡ k
and_no_more {A} k = λ i o w. same o w i
  where
    same : (o : Result A Fault) (w : World) → and_then k (λ a w. k (Ok a) w) o w ≡ k o w
    same (Ok a) w = refl
    same (Err e) w = refl

-- a part whose outcome is followed by another part
pub and_after : {A B C : Type 0} (k : Next C) (f : B → World → Run) (g : A → B) → and_then (and_then k f) (λ a w. and_then k f (Ok (g a)) w) ≡ and_then k (λ a w. f (g a) w)
and_after {A} {B} {C} k f g = λ i o w. same o w i
  where
    same : (o : Result A Fault) (w : World) → and_then (and_then k f) (λ a w. and_then k f (Ok (g a)) w) o w ≡ and_then k (λ a w. f (g a) w) o w
    same (Ok a) w = refl
    same (Err e) w = refl

-- a part whose failure passes through two others
pub and_and : {A B C : Type 0} (k : Next C) (f : B → World → Run) (g : A → World → Run) → and_then (and_then k f) g ≡ and_then k g
and_and {A} {B} {C} k f g = λ i o w. same o w i
  where
    same : (o : Result A Fault) (w : World) → and_then (and_then k f) g o w ≡ and_then k g o w
    same (Ok a) w = refl
    same (Err e) w = refl

pub globals_is : (id : TableId) → id.number ≡ 0 → V.Table id ≡ globals
globals_is id e = ap (λ n. V.Table (record { number = n; kind = record {} })) e

-- a list of one
pub only : {A : Type 0} (xs : List A) (x : A) → length xs ≡ 1 → x ≡ get_or xs 0 x → xs ≡ x ∷ []
only [] x h is = absurd (omega (arith, h))
only (y ∷ []) x h is = ap (λ z. z ∷ []) (sym is)
only (y ∷ z ∷ xs) x h is = absurd (omega (arith, h))

module _ (p : Loaded) (l : Level) (f : Frame) (w : World) where
  -- exactly one value of one expression
  pub exactly_one : (e : RExpr) (k : Next Locals) (go : List Value → World → Run) → exactly l 1 [] (e ∷ []) f w (and_then k go) ≡ l.expr e f w (and_then k (λ v w. go (v ∷ []) w))
  exactly_one e k go = ap (l.expr e f w) (and_after k go (λ v. v ∷ []))

  pub local_single : (r : Ref) (e : RExpr) (b : _) (k : Next Locals) → local p l ((r, b) ∷ []) (e ∷ []) f w k ≡ declared_one p l f r e w k
  local_single r e b k = exactly_one e k (λ vs w. declare_all p (r ∷ []) vs f w k) ∙ ap (λ (x : Next Locals). l.expr e f w (and_then k (λ v w. declare p f r v w x))) (and_no_more k)

  pub assigned_single : (t e : RExpr) (k : Next Locals) → assigned p l (t ∷ []) (e ∷ []) f w k ≡ assigned_one p l f t e w k
  assigned_single t e k =
      ap (target p l t f w) (and_after k (λ ts w. exactly l (length ts) [] (e ∷ []) f w (and_then k (λ vs w. stores p l ts vs f w k))) (λ t. t ∷ []))
      ∙ (λ i. target p l t f w (and_then k (λ t w. one t w i)))
    where
      one : (t : Target) (w : World) → exactly l 1 [] (e ∷ []) f w (and_then k (λ vs w. stores p l (t ∷ []) vs f w k)) ≡ l.expr e f w (and_then k (λ v w. store p l f t v w k))
      one t w = ap (l.expr e f w) (and_after k (λ vs w. stores p l (t ∷ []) vs f w k) (λ v. v ∷ [])) ∙ ap (λ (x : Next Locals). l.expr e f w (and_then k (λ v w. store p l f t v w x))) (and_no_more k)

  pub return_single : (e : RExpr) (k : Next Flow) → return p l (e ∷ []) f w k ≡ returned_one p l f e w k
  return_single e k = ap (l.multi e f w) (and_after k (λ vs w. limited p 0 vs w (and_then k (λ vs w. k (Ok (Returns vs)) w))) (λ us. us))

  pub pair_stored : (line : ℕ) (object key e : RExpr) (k : Next Locals) → pair_target p l f line object key w (stored_in p l f e k) ≡ assigned_field p l f line object key e w k
  pair_stored line object key e k =
      ap (l.expr object f w) (and_and k (λ t w. stored p l f e t w k) (λ o w. l.expr key f w (and_then (stored_in p l f e k) (λ key w. stored p l f e (Field o key line) w k))))
      ∙ (λ i. l.expr object f w (and_then k (λ o w. l.expr key f w (and_and k (λ t w. stored p l f e t w k) (λ key w. stored p l f e (Field o key line) w k) i))))
