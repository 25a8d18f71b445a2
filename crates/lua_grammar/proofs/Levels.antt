-- The readers of each depth, over those of the depths below.
use Rattle.std.proofs.Common.{◌≡◌, refl, ap, ℕ, zero, suc, ◌-◌, arith, true, false}
use Rattle.lua_tokens.specs.declared.place.Place.{Place}
use Rattle.lua_tree.specs.declared.expr.Expr.{Expr}
use Rattle.lua_grammar.specs.declared.measured.Measured.{Measured}
use Rattle.lua_grammar.specs.Expressions.{from_level, rest_of, table}
use Rattle.lua_grammar.specs.Statements.{block, levels, no_parts, parts}

pub parts_depth : (d : ℕ) → (parts d).depth ≡ d
unfolding levels
parts_depth zero = refl
parts_depth (suc d) = ap suc (parts_depth d)

pub parts_below : (d : ℕ) → (levels d).below ≡ parts (d - 1)
unfolding levels
parts_below zero = refl
parts_below (suc d) = let e : d ≡ suc d - 1 = omega arith in ap parts e

pub parts_lower : (d : ℕ) → (levels d).lower ≡ parts (d - 2)
unfolding levels
parts_lower zero = refl
parts_lower (suc zero) = refl
parts_lower (suc (suc d)) = let e : d ≡ suc (suc d) - 2 = omega arith in ap parts e

module _ (d : ℕ) where
  pub expr_deeper : (m : ℕ) → (parts (suc d)).expr m ≡ from_level (parts d) true m
  unfolding levels
  expr_deeper m = refl

  pub rest_deeper : (e : Measured Expr) → (parts (suc d)).rest e ≡ rest_of (parts d) e
  unfolding levels
  rest_deeper e = refl

  pub table_deeper : (p : Place) → (parts (suc d)).table p ≡ table (parts d) p
  unfolding levels
  table_deeper p = refl

  pub block_deeper : (parts (suc d)).block ≡ block (parts d) (levels d).below (levels d).lower
  unfolding levels
  block_deeper = refl

pub expr_flat : (m : ℕ) → (parts 0).expr m ≡ from_level no_parts false m
unfolding levels
expr_flat m = refl
