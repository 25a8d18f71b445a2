-- Binary operators, and the turns of climbing over them.
use Rattle.std.proofs.Common.{◌≡◌, refl, sym, ◌∙◌, ap, ℕ, ◌+◌, ◌<◌, nat_le, Bool, true, false, List, length, Option, Some, None, Ok, Err}
use Rattle.std.specs.Option.{is_some}
use Rattle.lua_tokens.specs.declared.place.Place.{Place}
use Rattle.lua_tokens.specs.declared.token.Token.{Token}
use Rattle.lua_tree.specs.declared.expr.Expr.{Expr}
use Rattle.lua_tree.specs.declared.operator.Binary.{Binary}
use Rattle.lua_tree.specs.declared.operator.Binary.TheVariants as b
use Rattle.lua_grammar.specs.declared.measured.Measured.{Measured}
use Rattle.lua_grammar.specs.Tokens.{Op, plain, op_level, right_level}
use Rattle.lua_grammar.specs.Next.{an_op_from}
use Rattle.lua_grammar.specs.Input.{Stop, deep, and_then, pure, again}
use Rattle.lua_grammar.specs.Expressions.{binary_node, op_turn, climb, operand, from_level}
use Rattle.lua_grammar.specs.Statements.{parts}
use Rattle.lua_grammar.proofs.Levels.{parts_depth}
use Rattle.lua_grammar.proofs.Loops.{many_done, many_fails, many_again}
use Rattle.lua_grammar.proofs.Shorter.{parts_shorter, op_shrinks}
use Rattle.lua_parser.specs.Looks.{rest, op_at}
use Rattle.lua_parser.proofs.Less.{turn_less}
use Rattle.lua_parser.proofs.Steps.{look_hit, look_deep, look_miss}

pub right_concat : (x : Binary) → x ≡ b.Concat → right_level (op_level (plain x)) ≡ op_level (plain x)
right_concat x e = ap (λ x. right_level (op_level (plain x))) e ∙ ap (λ x. op_level (plain x)) (sym e)

pub right_other : (x : Binary) → (x ≡ b.Concat → ⊥) → right_level (op_level (plain x)) ≡ op_level (plain x) + 1
right_other b.Concat n = absurd (n refl)
right_other _ n = refl

pub ruleset right_rules = (right_concat, right_other)

roomy : (d n : ℕ) (c : Bool) → nat_le n d ≡ c → nat_le n (parts d).depth ≡ c
roomy d n c h = ap (nat_le n) (parts_depth d) ∙ h

module _ (d m : ℕ) (x : Measured Expr) (ts : List Token) where
  at_op : (op : Op) (p : Place) → op_at m ts ≡ Some (op, p) → nat_le x.depth d ≡ true
      → op_turn (parts d) m x ts ≡ and_then ((parts d).expr (right_level (op_level op)) (rest ts)) (λ y. pure (again (binary_node op p x y)))
  unfolding op_at
  at_op op p h r = look_hit (an_op_from m) _ _ _ ts op p h (roomy d x.depth true r)

  turn_on : (op : Op) (p : Place) (y : Measured Expr) (us : List Token) → op_at m ts ≡ Some (op, p) → nat_le x.depth d ≡ true
      → (parts d).expr (right_level (op_level op)) (rest ts) ≡ Ok (y, us) → op_turn (parts d) m x ts ≡ Ok (again (binary_node op p x y), us)
  turn_on op p y us h r k = at_op op p h r ∙ ap (λ r. and_then r (λ y. pure (again (binary_node op p x y)))) k

  pub op_more : (op : Op) (p : Place) (y : Measured Expr) (us : List Token) → op_at m ts ≡ Some (op, p) → nat_le x.depth d ≡ true
      → (parts d).expr (right_level (op_level op)) (rest ts) ≡ Ok (y, us) → climb (parts d) m x ts ≡ climb (parts d) m (binary_node op p x y) us
  unfolding climb
  op_more op p y us h r k = many_again (op_turn (parts d) m) (op_shrinks (parts d) (parts_shorter d) m) x (binary_node op p x y) ts us (turn_on op p y us h r k)

  pub op_stop : (op : Op) (p : Place) (stop : Stop) → op_at m ts ≡ Some (op, p) → nat_le x.depth d ≡ true
      → (parts d).expr (right_level (op_level op)) (rest ts) ≡ Err stop → climb (parts d) m x ts ≡ Err stop
  unfolding climb
  op_stop op p stop h r k = many_fails (op_turn (parts d) m) (op_shrinks (parts d) (parts_shorter d) m) x ts stop
      (at_op op p h r ∙ ap (λ r. and_then r (λ y. pure (again (binary_node op p x y)))) k)

  pub op_deep : (op_at m ts ≡ None → ⊥) → nat_le x.depth d ≡ false → climb (parts d) m x ts ≡ Err (deep, ts)
  unfolding climb op_at
  op_deep h r = many_fails (op_turn (parts d) m) (op_shrinks (parts d) (parts_shorter d) m) x ts (deep, ts) (look_deep (an_op_from m) _ _ _ ts h (roomy d x.depth false r))

  pub op_end : op_at m ts ≡ None → climb (parts d) m x ts ≡ Ok (x, ts)
  unfolding climb op_at
  op_end h = many_done (op_turn (parts d) m) (op_shrinks (parts d) (parts_shorter d) m) x ts ts x (look_miss (an_op_from m) _ _ _ ts h)

  pub op_less : (op : Op) (p : Place) (y : Measured Expr) (us : List Token) → op_at m ts ≡ Some (op, p) → nat_le x.depth d ≡ true
      → (parts d).expr (right_level (op_level op)) (rest ts) ≡ Ok (y, us) → length us < length ts
  op_less op p y us h r k = turn_less (op_turn (parts d) m) (op_shrinks (parts d) (parts_shorter d) m) x (binary_node op p x y) ts us (turn_on op p y us h r k)

-- ---- an operand before them

none_of : {B : Type 0} (o : Option B) → is_some o ≡ false → o ≡ None
none_of None e = refl
none_of (Some b) e = cc

module _ (d m : ℕ) (ts : List Token) where
  pub level_climbs : (x : Measured Expr) (us : List Token) → operand (parts d) true ts ≡ Ok (x, us) → from_level (parts d) true m ts ≡ climb (parts d) m x us
  unfolding from_level
  level_climbs x us h = ap (λ r. and_then r (climb (parts d) m)) h

  pub level_alone : (x : Measured Expr) (us : List Token) → operand (parts d) true ts ≡ Ok (x, us) → is_some (op_at m us) ≡ false → from_level (parts d) true m ts ≡ Ok (x, us)
  level_alone x us h n = level_climbs x us h ∙ op_end d m x us (none_of (op_at m us) n)

  pub level_stop : (stop : Stop) → operand (parts d) true ts ≡ Err stop → from_level (parts d) true m ts ≡ Err stop
  unfolding from_level
  level_stop stop h = ap (λ r. and_then r (climb (parts d) m)) h

pub ruleset level_rules = (level_climbs, level_alone, level_stop)

pub ruleset climb_rules = (op_more, op_stop, op_deep, op_end, op_less)
