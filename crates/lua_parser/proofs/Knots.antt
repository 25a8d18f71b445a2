-- The readers of a depth are made of those of the depth below.
use Rattle.std.proofs.Common.{◌≡◌, refl, ◌∙◌, ap, ℕ, zero, suc, ◌-◌, ◌<◌, List, Err, true, false, arith}
use Rattle.lua_tokens.specs.declared.place.Place.{Place}
use Rattle.lua_tokens.specs.declared.token.Token.{Token}
use Rattle.lua_tree.specs.declared.expr.Expr.{Expr}
use Rattle.lua_grammar.specs.declared.measured.Measured.{Measured}
use Rattle.lua_grammar.specs.Input.{bad, deep}
use Rattle.lua_grammar.specs.Expressions.{from_level, rest_of, table}
use Rattle.lua_grammar.specs.Statements.{block, levels, parts}
use Rattle.lua_parser.specs.declared.parts.Part.{Part}
use Rattle.lua_parser.specs.declared.parts.Part.TheVariants as part
use Rattle.lua_parser.specs.Looks.{begins_at}
use Rattle.lua_parser.proofs.OperandTurns.{flat_deep, flat_bad}
use Rattle.lua_parser.specs.Nests.{part_of}
use Rattle.lua_grammar.proofs.Levels.{parts_below, parts_lower, block_deeper}

-- of a depth above 0
module _ (d : ℕ) (ts : List Token) where
  pub expr_knot : 0 < d → (m : ℕ) → (parts d).expr m ts ≡ from_level (parts (d - 1)) true m ts
  unfolding levels
  expr_knot pos m = by_depth d pos
    where
      by_depth : (d : ℕ) → 0 < d → (parts d).expr m ts ≡ from_level (parts (d - 1)) true m ts
      by_depth zero p = absurd (omega (arith, p))
      by_depth (suc c) p = let e : c ≡ suc c - 1 = omega arith in ap (λ n. from_level (parts n) true m ts) e

  pub rest_knot : 0 < d → (e : Measured Expr) → (parts d).rest e ts ≡ rest_of (parts (d - 1)) e ts
  unfolding levels
  rest_knot pos e = by_depth d pos
    where
      by_depth : (d : ℕ) → 0 < d → (parts d).rest e ts ≡ rest_of (parts (d - 1)) e ts
      by_depth zero p = absurd (omega (arith, p))
      by_depth (suc c) p = let k : c ≡ suc c - 1 = omega arith in ap (λ n. rest_of (parts n) e ts) k

  pub table_knot : 0 < d → (p : Place) → (parts d).table p ts ≡ table (parts (d - 1)) p ts
  unfolding levels
  table_knot pos q = by_depth d pos
    where
      by_depth : (d : ℕ) → 0 < d → (parts d).table q ts ≡ table (parts (d - 1)) q ts
      by_depth zero p = absurd (omega (arith, p))
      by_depth (suc c) p = let k : c ≡ suc c - 1 = omega arith in ap (λ n. table (parts n) q ts) k

  pub block_knot : 0 < d → (parts d).block ts ≡ block (parts (d - 1)) (parts (d - 1 - 1)) (parts (d - 1 - 2)) ts
  block_knot pos = by_depth d pos
    where
      same : (c n : ℕ) → c ≡ n → block (parts c) (parts (c - 1)) (parts (c - 2)) ts ≡ block (parts n) (parts (n - 1)) (parts (n - 2)) ts
      same c n e = ap (λ n. block (parts n) (parts (n - 1)) (parts (n - 2)) ts) e

      by_depth : (d : ℕ) → 0 < d → (parts d).block ts ≡ block (parts (d - 1)) (parts (d - 1 - 1)) (parts (d - 1 - 2)) ts
      by_depth zero p = absurd (omega (arith, p))
      by_depth (suc c) p =
          ap (λ r. r ts) (block_deeper c) ∙ ap (λ q. block (parts c) q (levels c).lower ts) (parts_below c) ∙ ap (λ r. block (parts c) (parts (c - 1)) r ts) (parts_lower c)
          ∙ same c (suc c - 1) (omega arith)

pub block_flat : (ts : List Token) → (parts 0).block ts ≡ Err (bad, ts)
unfolding levels
block_flat ts = refl

-- ---- by the part

module _ (d : ℕ) (x : Part) (ts : List Token) where
  pub part_level : (m : ℕ) → 0 < d → x ≡ part.Level m → part_of d x ts ≡ from_level (parts (d - 1)) true m ts
  part_level m pos e = ap (λ y. part_of d y ts) e ∙ expr_knot d ts pos m

  pub part_rest : (first : Measured Expr) → 0 < d → x ≡ part.Rest first → part_of d x ts ≡ rest_of (parts (d - 1)) first ts
  part_rest first pos e = ap (λ y. part_of d y ts) e ∙ rest_knot d ts pos first

  pub part_table : (p : Place) → 0 < d → x ≡ part.Table p → part_of d x ts ≡ table (parts (d - 1)) p ts
  part_table p pos e = ap (λ y. part_of d y ts) e ∙ table_knot d ts pos p

  pub flat_level_deep : (m : ℕ) → x ≡ part.Level m → begins_at ts ≡ true → part_of 0 x ts ≡ Err (deep, ts)
  flat_level_deep m e h = ap (λ y. part_of 0 y ts) e ∙ flat_deep m ts h

  pub flat_level_bad : (m : ℕ) → x ≡ part.Level m → begins_at ts ≡ false → part_of 0 x ts ≡ Err (bad, ts)
  flat_level_bad m e h = ap (λ y. part_of 0 y ts) e ∙ flat_bad m ts h

  pub flat_other : ((m : ℕ) → x ≡ part.Level m → ⊥) → part_of 0 x ts ≡ Err (bad, ts)
  unfolding levels
  flat_other other = by_part x other
    where
      by_part : (y : Part) → ((m : ℕ) → y ≡ part.Level m → ⊥) → part_of 0 y ts ≡ Err (bad, ts)
      by_part (part.Level m) n = absurd (n m refl)
      by_part (part.Rest first) n = refl
      by_part (part.Table p) n = refl

pub ruleset flat_rules = (flat_level_deep, flat_level_bad, flat_other)

pub ruleset knot_rules = (part_level, part_rest, part_table, block_knot, block_flat)
