-- Levels of operators, by arithmetic.
use Rattle.std.proofs.Common.{◌≡◌, refl, sym, ◌∙◌, ap, ℕ, ◌+◌, nat_eq, nat_le, if◌then◌else◌, ◌<◌, ◌≤◌, Bool, true, false, List, [], ◌∷◌, Some, None, arith, eqb-true}
use Rattle.std.proofs.lemmas.Bool.{leb-false, eqb-false}
use Rattle.lua_tokens.specs.declared.token.Token.{Token}
use Rattle.lua_tree.specs.declared.operator.Binary.TheVariants as b
use Rattle.lua_grammar.specs.Tokens.{Op, or, and, plain, op_level, op_lexeme, left_level, right_level}
use Rattle.lua_grammar.specs.Written.{Exp, atom, function, variable, group, field, item, call, method, table, unary, binary}
use Rattle.lua_grammar.specs.Formed.{level, IsPrefix}
use Rattle.lua_grammar.specs.Next.{of_level, an_op_from}
use Rattle.lua_grammar.proofs.Found.{op_is}
use Rattle.lua_grammar.proofs.Fronts.{Misses}
use Rattle.lua_grammar.proofs.Answered.{Below, edge}

pub op_low : (op : Op) → op_level op ≤ 10
op_low or = omega arith
op_low and = omega arith
op_low (plain b.Lt) = omega arith
op_low (plain b.Gt) = omega arith
op_low (plain b.Le) = omega arith
op_low (plain b.Ge) = omega arith
op_low (plain b.Ne) = omega arith
op_low (plain b.Eq) = omega arith
op_low (plain b.BitOr) = omega arith
op_low (plain b.BitXor) = omega arith
op_low (plain b.BitAnd) = omega arith
op_low (plain b.ShiftLeft) = omega arith
op_low (plain b.ShiftRight) = omega arith
op_low (plain b.Concat) = omega arith
op_low (plain b.Add) = omega arith
op_low (plain b.Sub) = omega arith
op_low (plain b.Mul) = omega arith
op_low (plain b.FloorDiv) = omega arith
op_low (plain b.Mod) = omega arith

-- ---- the levels of parts

pub right_at_most : (n : ℕ) → right_level n ≤ n + 1
right_at_most n = by_test (nat_eq n 8)
  where
    by_test : (c : Bool) → (if c then n else n + 1) ≤ n + 1
    by_test true = omega arith
    by_test false = omega arith

pub left_at_most : (n : ℕ) → left_level n ≤ n + 1
left_at_most n = by_test (nat_eq n 8)
  where
    by_test : (c : Bool) → (if c then n + 1 else n) ≤ n + 1
    by_test true = omega arith
    by_test false = omega arith

pub right_at_least : (n : ℕ) → n ≤ right_level n
right_at_least n = by_test (nat_eq n 8)
  where
    by_test : (c : Bool) → n ≤ (if c then n else n + 1)
    by_test true = omega arith
    by_test false = omega arith

pub left_at_least : (n : ℕ) → n ≤ left_level n
left_at_least n = by_test (nat_eq n 8)
  where
    by_test : (c : Bool) → n ≤ (if c then n + 1 else n)
    by_test true = omega arith
    by_test false = omega arith

-- what doesn't go on with the right part of an operator may have it for its left part
between : (n m : ℕ) → n < right_level m → left_level n ≤ m
between n m h = by_tests (nat_eq n 8) refl (nat_eq m 8) refl h
  where
    by_tests : (c : Bool) → nat_eq n 8 ≡ c → (d : Bool) → nat_eq m 8 ≡ d → n < (if d then m else m + 1) → (if c then n + 1 else n) ≤ m
    by_tests true e true f h = omega (arith, h)
    by_tests true e false f h = by_order (omega (arith, h, eqb-true n 8 e, eqb-false m 8 f))
      where
        by_order : n + 1 ≤ m → n + 1 ≤ m
        by_order x = x
    by_tests false e true f h = omega (arith, h)
    by_tests false e false f h = omega (arith, h)

pub may_stand_left : (op : Op) (e : Exp) → op_level op < edge e → left_level (op_level op) ≤ level e
may_stand_left op (binary inner p x y) h = between (op_level op) (op_level inner) h
may_stand_left op (atom a p) h = omega (arith, op_low op, left_at_most (op_level op))
may_stand_left op (function p b) h = omega (arith, op_low op, left_at_most (op_level op))
may_stand_left op (variable n p) h = omega (arith, op_low op, left_at_most (op_level op))
may_stand_left op (group p e q) h = omega (arith, op_low op, left_at_most (op_level op))
may_stand_left op (field e p n q) h = omega (arith, op_low op, left_at_most (op_level op))
may_stand_left op (item e p x q) h = omega (arith, op_low op, left_at_most (op_level op))
may_stand_left op (call e a) h = omega (arith, op_low op, left_at_most (op_level op))
may_stand_left op (method e p n q a) h = omega (arith, op_low op, left_at_most (op_level op))
may_stand_left op (table p fs q) h = omega (arith, op_low op, left_at_most (op_level op))
may_stand_left op (unary u p e) h = omega (arith, op_low op, left_at_most (op_level op))

pub edge_high : (e : Exp) → 11 ≤ level e → edge e ≡ 12
edge_high (binary op p x y) h = absurd (omega (arith, h, op_low op))
edge_high (atom a p) h = refl
edge_high (function p b) h = refl
edge_high (variable n p) h = refl
edge_high (group p e q) h = refl
edge_high (field e p n q) h = refl
edge_high (item e p x q) h = refl
edge_high (call e a) h = refl
edge_high (method e p n q a) h = refl
edge_high (table p fs q) h = refl
edge_high (unary u p e) h = refl

pub prefix_high : (e : Exp) → IsPrefix e → 11 ≤ level e
prefix_high (variable n p) i = omega arith
prefix_high (group p e q) i = omega arith
prefix_high (field e p n q) i = omega arith
prefix_high (item e p x q) i = omega arith
prefix_high (call e a) i = omega arith
prefix_high (method e p n q a) i = omega arith
prefix_high (atom a p) i = absurd i
prefix_high (function p b) i = absurd i
prefix_high (table p fs q) i = absurd i
prefix_high (unary u p e) i = absurd i
prefix_high (binary op p x y) i = absurd i

pub below_high : (ts : List Token) → Below 12 ts
below_high ts op h = omega (arith, op_low op)

-- no operator of a level or above was found
pub below_of : (m : ℕ) (ts : List Token) → Misses (an_op_from m) ts → Below m ts
below_of m [] h op e = cc
below_of m (x ∷ ts) h op e =
    let same : x.what ≡ op_lexeme op = cc in
    by_test (nat_le m (op_level op)) refl (ap (of_level m) (sym (op_is op)) ∙ ap (an_op_from m) (sym same) ∙ h)
  where
    by_test : (c : Bool) → nat_le m (op_level op) ≡ c → (if c then Some op else None) ≡ None → op_level op < m
    by_test true f k = cc
    by_test false f k = leb-false m (op_level op) f
