-- Lists of expressions, by place.
use Rattle.std.proofs.Common.{◌≡◌, ℕ, ◌+◌, ◌<◌, ◌≤◌, Result, Ok, Err, List, [], ◌∷◌, ◌++◌, length, drop, get_or, refl, sym, ap, ◌∙◌, add-one, drop-cons, arith, if◌then◌else◌, nat_le, true, false}
use Rattle.std.proofs.lemmas.List.{drop_all}
use Rattle.object_store.specs.declared.value.Value.{Value}
use Rattle.lua_program.specs.declared.expr.RExpr.{RExpr}
use Rattle.lua_meaning.specs.declared.fault.Fault.{Fault}
use Rattle.lua_meaning.specs.Run.{World, Run, Next, and_then}
use Rattle.lua_meaning.specs.Level.{Level, Frame}
use Rattle.lua_meaning.specs.Names.{filled}
use Rattle.lua_meaning.specs.Expressions.{list, exactly}
use Rattle.lua_lists.specs.Ones.{ones}

module _ (l : Level) (f : Frame) (w : World) (k : Next (List Value)) where
  -- what follows the value of one expression
  abbrev pub ones_next : List Value → List RExpr → ℕ → Value → World → Run
  ones_next vs es i v w = ones l (vs ++ v ∷ []) (drop (i + 1) es) f w k

  pub ones_at : (vs : List Value) (es : List RExpr) (i : ℕ) (e : RExpr) → i < length es → e ≡ get_or es i e → ones l vs (drop i es) f w k ≡ l.expr e f w (and_then k (ones_next vs es i))
  ones_at vs es i e h is =
      let d : drop i es ≡ get_or es i e ∷ drop (i + 1) es = rw (add-one, drop-cons es i e) in
      ap (λ x. ones l vs x f w k) (d ∙ ap (λ x. x ∷ drop (i + 1) es) (sym is))

  pub ones_end : (vs : List Value) (es : List RExpr) (i : ℕ) → length es ≤ i → ones l vs (drop i es) f w k ≡ k (Ok vs) w
  ones_end vs es i h = ap (λ x. ones l vs x f w k) (drop_all i es h)

-- ---- the front of a list, and its last expression

-- two ways to go on with a value, after which a fault goes the same way
alike : {A B C : Type 0} (k : Next C) (go : B → World → Run) (h h1 : A → World → Run) → ((a : A) (w : World) → h a w ≡ h1 a w) → and_then {A = A} {B = C} k h ≡ and_then {A = A} {B = B} (and_then k go) h1
alike {A} {B} {C} k go h h1 e = λ i o w. at o w i
  where
    at : (o : Result A Fault) (w : World) → and_then {A = A} {B = C} k h o w ≡ and_then {A = A} {B = B} (and_then k go) h1 o w
    at (Ok a) w = e a w
    at (Err x) w = refl

module _ (l : Level) (f : Frame) (k : Next (List Value)) (go : List Value → List RExpr → World → Run)
    (step : (vs : List Value) (e d : RExpr) (es : List RExpr) (w : World) → go vs (e ∷ d ∷ es) w ≡ l.expr e f w (and_then k (λ v w. go (vs ++ v ∷ []) (d ∷ es) w))) where
  abbrev after_ones : RExpr → List Value → World → Run
  after_ones e vs w = go vs (e ∷ []) w

  split : (es : List RExpr) (vs : List Value) (e : RExpr) (w : World) → go vs (es ++ e ∷ []) w ≡ ones l vs es f w (and_then k (after_ones e))
  split [] vs e w = refl
  split (d ∷ []) vs e w = step vs d e [] w ∙ ap (λ n. l.expr d f w n) (alike k (after_ones e) (λ v w. go (vs ++ v ∷ []) (e ∷ []) w) (λ v w. ones l (vs ++ v ∷ []) [] f w (and_then k (after_ones e))) (λ v w. split [] (vs ++ v ∷ []) e w))
  split (d ∷ c ∷ es) vs e w = step vs d c (es ++ e ∷ []) w ∙ ap (λ n. l.expr d f w n) (alike k (after_ones e) (λ v w. go (vs ++ v ∷ []) (c ∷ es ++ e ∷ []) w) (λ v w. ones l (vs ++ v ∷ []) (c ∷ es) f w (and_then k (after_ones e))) (λ v w. split (c ∷ es) (vs ++ v ∷ []) e w))

module _ (l : Level) (f : Frame) (k : Next (List Value)) where
  pub list_none : (es : List RExpr) (vs : List Value) (w : World) → length es ≡ 0 → list l vs es f w k ≡ k (Ok vs) w
  list_none [] vs w h = refl
  list_none (e ∷ es) vs w h = absurd (omega arith)

  pub exactly_none : (n : ℕ) (es : List RExpr) (vs : List Value) (w : World) → length es ≡ 0 → exactly l n vs es f w k ≡ k (Ok (filled n vs)) w
  exactly_none n [] vs w h = refl
  exactly_none n (e ∷ es) vs w h = absurd (omega arith)

  abbrev pub list_last : RExpr → List Value → World → Run
  list_last e vs w = list l vs (e ∷ []) f w k

  pub list_split : (es : List RExpr) (vs : List Value) (e : RExpr) (w : World) → list l vs (es ++ e ∷ []) f w k ≡ ones l vs es f w (and_then k (list_last e))
  list_split = split l f k (λ vs es w. list l vs es f w k) (λ vs e d es w. refl)

  abbrev pub exactly_last : ℕ → RExpr → List Value → World → Run
  exactly_last n e vs w = exactly l n vs (e ∷ []) f w k

  pub exactly_split : (n : ℕ) (es : List RExpr) (vs : List Value) (e : RExpr) (w : World) → exactly l n vs (es ++ e ∷ []) f w k ≡ ones l vs es f w (and_then k (exactly_last n e))
  exactly_split n = split l f k (λ vs es w. exactly l n vs es f w k) (λ vs e d es w. refl)

  -- the last expression gives one value where no more are wanted
  abbrev pub one_next : ℕ → List Value → Value → World → Run
  one_next n vs v w = k (Ok (filled n (vs ++ v ∷ []))) w

  abbrev pub all_next : ℕ → List Value → List Value → World → Run
  all_next n vs us w = k (Ok (filled n (vs ++ us))) w

  pub exactly_one : (n : ℕ) (vs : List Value) (e : RExpr) (w : World) → nat_le n (length vs + 1) ≡ true → exactly l n vs (e ∷ []) f w k ≡ l.expr e f w (and_then k (one_next n vs))
  exactly_one n vs e w h = ap (λ b. if b then l.expr e f w (and_then k (one_next n vs)) else l.multi e f w (and_then k (all_next n vs))) h

  pub exactly_all : (n : ℕ) (vs : List Value) (e : RExpr) (w : World) → nat_le n (length vs + 1) ≡ false → exactly l n vs (e ∷ []) f w k ≡ l.multi e f w (and_then k (all_next n vs))
  exactly_all n vs e w h = ap (λ b. if b then l.expr e f w (and_then k (one_next n vs)) else l.multi e f w (and_then k (all_next n vs))) h
