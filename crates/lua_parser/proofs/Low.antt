-- What is read has at most the depth of the parts.
use Rattle.std.proofs.Common.{◌≡◌, refl, ◌∙◌, ap, subst, ℕ, zero, suc, ◌≤◌, List, Ok, Err, arith}
use Rattle.lua_tokens.specs.declared.place.Place.{Place}
use Rattle.lua_tokens.specs.declared.token.Token.{Token}
use Rattle.lua_tree.specs.declared.expr.Expr.{Expr}
use Rattle.lua_tree.specs.declared.stat.Stat.{Stat}
use Rattle.lua_tree.specs.declared.operator.Binary.TheVariants as b
use Rattle.lua_grammar.specs.declared.measured.Measured.{Measured}
use Rattle.lua_grammar.specs.Tokens.{Op, or, and, plain, op_level, right_level}
use Rattle.lua_grammar.specs.Written.{Bytes}
use Rattle.lua_grammar.specs.Input.{Outcome, and_then}
use Rattle.lua_grammar.specs.Expressions.{Parts, name_leaf, only, list, more_exprs}
use Rattle.lua_grammar.specs.Statements.{levels, parts}
use Rattle.lua_grammar.proofs.Fronts.{Meets}
use Rattle.lua_grammar.proofs.Levels.{parts_depth}
use Rattle.lua_grammar.proofs.Shorter.{parts_shorter}
use Rattle.lua_grammar.proofs.SoundScript.{parts_sound}
use Rattle.lua_grammar.proofs.SoundArgs.{list_meets}

meets_ok : {A : Type 0} (T : A → List Token → Type 0) (Z : List Token → Type 0) (r : Outcome A) (x : A) (us : List Token) → r ≡ Ok (x, us) → Meets T Z r → T x us
meets_ok T Z r x us e m = subst (Meets T Z) e m

module _ (ts us : List Token) (x : Measured Expr) where
  pub expr_low : (d m : ℕ) → m ≤ 11 → (parts d).expr m ts ≡ Ok (x, us) → x.depth ≤ d
  expr_low zero m low e = absurd (meets_ok (λ x rest. ⊥) (λ rest. rest ≡ ts) ((parts 0).expr m ts) x us e ((parts_sound 0).flat (parts_depth 0) m ts))
  expr_low (suc d) m low e =
      let r = meets_ok _ _ ((parts (suc d)).expr m ts) x us e ((parts_sound (suc d)).expr (omega (arith, parts_depth (suc d))) m low ts) in
      omega (arith, r.0.depth, r.0.good.low, parts_depth (suc d))

  pub first_low : (d : ℕ) → (parts d).expr 0 ts ≡ Ok (x, us) → x.depth ≤ d
  first_low d e = expr_low d 0 (omega arith) e

  pub unary_low : (d : ℕ) → (parts d).expr 11 ts ≡ Ok (x, us) → x.depth ≤ d
  unary_low d e = expr_low d 11 (omega arith) e

  pub table_low : (d : ℕ) (p : Place) → (parts d).table p ts ≡ Ok (x, us) → x.depth ≤ d
  unfolding levels
  table_low zero p e = cc
  table_low (suc d) p e =
      let r = meets_ok _ _ ((parts (suc d)).table p ts) x us e ((parts_sound (suc d)).table (omega (arith, parts_depth (suc d))) p ts) in
      omega (arith, r.depth, r.good.low, parts_depth (suc d))

  pub rest_low : (d : ℕ) (n : Bytes) (p : Place) → (parts d).rest (name_leaf n p) ts ≡ Ok (x, us) → x.depth ≤ d
  unfolding levels
  rest_low zero n p e = cc
  rest_low (suc d) n p e =
      let r = meets_ok _ _ ((parts (suc d)).rest (name_leaf n p) ts) x us e ((parts_sound (suc d)).rest (omega (arith, parts_depth (suc d))) n p ts) in
      omega (arith, r.0.depth, r.0.good.low, parts_depth (suc d))

pub block_low : (ts us : List Token) (x : Measured (List Stat)) (d : ℕ) → (parts d).block ts ≡ Ok (x, us) → x.depth ≤ d
unfolding levels
block_low ts us x zero e = cc
block_low ts us x (suc d) e =
    let r = meets_ok _ _ ((parts (suc d)).block ts) x us e ((parts_sound (suc d)).block (omega (arith, parts_depth (suc d))) ts) in
    omega (arith, r.depth, r.low, parts_depth (suc d))

-- ---- the right part of a binary operator

right_most : (op : Op) → right_level (op_level op) ≤ 11
right_most or = omega arith
right_most and = omega arith
right_most (plain b.Lt) = omega arith
right_most (plain b.Gt) = omega arith
right_most (plain b.Le) = omega arith
right_most (plain b.Ge) = omega arith
right_most (plain b.Ne) = omega arith
right_most (plain b.Eq) = omega arith
right_most (plain b.BitOr) = omega arith
right_most (plain b.BitXor) = omega arith
right_most (plain b.BitAnd) = omega arith
right_most (plain b.ShiftLeft) = omega arith
right_most (plain b.ShiftRight) = omega arith
right_most (plain b.Concat) = omega arith
right_most (plain b.Add) = omega arith
right_most (plain b.Sub) = omega arith
right_most (plain b.Mul) = omega arith
right_most (plain b.FloorDiv) = omega arith
right_most (plain b.Mod) = omega arith

pub right_low : (ts us : List Token) (x : Measured Expr) (d : ℕ) (op : Op) → (parts d).expr (right_level (op_level op)) ts ≡ Ok (x, us) → x.depth ≤ d
right_low ts us x d op e = expr_low ts us x d (right_level (op_level op)) (right_most op) e

-- ---- a list

pub list_low : (ts us : List Token) (x : Measured (List Expr)) (d : ℕ) → list (parts d) ts ≡ Ok (x, us) → x.depth ≤ d
unfolding list
list_low ts us x zero e = by_first ((parts 0).expr 0 ts) ((parts_sound 0).flat (parts_depth 0) 0 ts) e
  where
    by_first : (r : Outcome (Measured Expr)) → Meets (λ x rest. ⊥) (λ rest. rest ≡ ts) r → and_then r (λ e. more_exprs (parts 0) (only e)) ≡ Ok (x, us) → x.depth ≤ 0
    by_first (Ok y) m k = absurd m
    by_first (Err stop) m k = cc
list_low ts us x (suc d) e =
    let r = meets_ok _ _ (list (parts (suc d)) ts) x us e (list_meets (parts (suc d)) (parts_shorter (suc d)) (parts_sound (suc d)) (omega (arith, parts_depth (suc d))) ts) in
    omega (arith, r.depth, r.good.low, parts_depth (suc d))

by_list : (P : Parts) (ts : List Token) → list P ts ≡ and_then (P.expr 0 ts) (λ e. more_exprs P (only e))
unfolding list
by_list P ts = refl

pub exprs_low : (ts us vs : List Token) (y : Measured Expr) (x : Measured (List Expr)) (d : ℕ) → (parts d).expr 0 ts ≡ Ok (y, us) → more_exprs (parts d) (only y) us ≡ Ok (x, vs) → x.depth ≤ d
exprs_low ts us vs y x d e f = list_low ts vs x d (by_list (parts d) ts ∙ ap (λ r. and_then r (λ e. more_exprs (parts d) (only e))) e ∙ f)
