-- The turns of a table constructor.
use Rattle.std.proofs.Common.{◌≡◌, refl, ◌∙◌, ap, ℕ, ◌<◌, nat_le, Bool, true, false, List, length, Some, None, Ok, Err}
use Rattle.lua_tokens.specs.declared.place.Place.{Place}
use Rattle.lua_tokens.specs.declared.token.Token.{Token}
use Rattle.lua_tokens.specs.declared.token.Lexeme.TheVariants as l
use Rattle.lua_tokens.specs.declared.sign.Sign.TheVariants as s
use Rattle.lua_tree.specs.declared.expr.Expr.{Expr}
use Rattle.lua_tree.specs.declared.expr.Field.{Field}
use Rattle.lua_grammar.specs.declared.measured.Measured.{Measured}
use Rattle.lua_grammar.specs.Written.{Bytes}
use Rattle.lua_grammar.specs.Next.{is_sign, a_name}
use Rattle.lua_grammar.specs.Input.{Parser, Stop, bad, deep, and_then, ◌>>=◌, pure, refuse, on, expect, Turn, again, done}
use Rattle.lua_grammar.specs.Expressions.{Parts, name_leaf, nothing, with_one, separated, named_field, keyed_field, single_field, field_turn, table, table_node}
use Rattle.lua_grammar.specs.Statements.{parts}
use Rattle.lua_grammar.proofs.Levels.{parts_depth}
use Rattle.lua_grammar.proofs.Loops.{many_done, many_fails, many_again}
use Rattle.lua_grammar.proofs.Shorter.{parts_shorter, field_shrinks}
use Rattle.lua_parser.specs.Looks.{rest, place_of, name_at}
use Rattle.lua_parser.specs.Fields.{item, named, keyed, name_field, key_field, one_field, separator, more_fields}
use Rattle.lua_parser.proofs.Less.{turn_less}
use Rattle.lua_parser.proofs.SuffixSteps.{GoesOn, on_then, bind_then}
use Rattle.lua_parser.proofs.Steps.{is_hit, is_deep, is_miss, name_hit, name_deep, name_miss}

module _ (ts : List Token) where
  pub separator_comma : (p : Place) → place_of (l.Sign s.Comma) ts ≡ Some p → separator ts ≡ Ok (true, rest ts)
  unfolding separator
  separator_comma p h = is_hit (l.Sign s.Comma) true _ _ ts p h refl

  pub separator_semicolon : (p : Place) → place_of (l.Sign s.Comma) ts ≡ None → place_of (l.Sign s.Semicolon) ts ≡ Some p → separator ts ≡ Ok (true, rest ts)
  unfolding separator
  separator_semicolon p n h = is_miss (l.Sign s.Comma) true _ _ ts n ∙ is_hit (l.Sign s.Semicolon) true _ _ ts p h refl

  pub separator_end : (p : Place) → place_of (l.Sign s.Comma) ts ≡ None → place_of (l.Sign s.Semicolon) ts ≡ None → place_of (l.Sign s.CloseBrace) ts ≡ Some p → separator ts ≡ Ok (false, rest ts)
  unfolding separator
  separator_end p n m h = is_miss (l.Sign s.Comma) true _ _ ts n ∙ is_miss (l.Sign s.Semicolon) true _ _ ts m ∙ is_hit (l.Sign s.CloseBrace) true _ _ ts p h refl

  pub separator_bad : place_of (l.Sign s.Comma) ts ≡ None → place_of (l.Sign s.Semicolon) ts ≡ None → place_of (l.Sign s.CloseBrace) ts ≡ None → separator ts ≡ Err (bad, ts)
  unfolding separator
  separator_bad n m h = is_miss (l.Sign s.Comma) true _ _ ts n ∙ is_miss (l.Sign s.Semicolon) true _ _ ts m ∙ is_miss (l.Sign s.CloseBrace) true _ _ ts h

pub ruleset separator_rules = (separator_comma, separator_semicolon, separator_end, separator_bad)

module _ (d : ℕ) (n : Bytes) (p : Place) (ts : List Token) where
  pub name_value : (q : Place) (e : Measured Expr) (us : List Token) → place_of (l.Sign s.Equal) ts ≡ Some q → (parts d).expr 0 (rest ts) ≡ Ok (e, us)
      → name_field (parts d) n p ts ≡ Ok (named n e, us)
  unfolding name_field
  name_value q e us h k = is_hit (l.Sign s.Equal) true _ _ ts q h refl ∙ ap (λ r. and_then r (λ e. pure (named n e))) k

  pub name_value_stop : (q : Place) (stop : Stop) → place_of (l.Sign s.Equal) ts ≡ Some q → (parts d).expr 0 (rest ts) ≡ Err stop → name_field (parts d) n p ts ≡ Err stop
  unfolding name_field
  name_value_stop q stop h k = is_hit (l.Sign s.Equal) true _ _ ts q h refl ∙ ap (λ r. and_then r (λ e. pure (named n e))) k

  pub name_item : (e : Measured Expr) (us : List Token) → place_of (l.Sign s.Equal) ts ≡ None → (parts d).rest (name_leaf n p) ts ≡ Ok (e, us) → name_field (parts d) n p ts ≡ Ok (item e, us)
  unfolding name_field
  name_item e us h k = is_miss (l.Sign s.Equal) true _ _ ts h ∙ ap (λ r. and_then r (λ e. pure (item e))) k

  pub name_item_stop : (stop : Stop) → place_of (l.Sign s.Equal) ts ≡ None → (parts d).rest (name_leaf n p) ts ≡ Err stop → name_field (parts d) n p ts ≡ Err stop
  unfolding name_field
  name_item_stop stop h k = is_miss (l.Sign s.Equal) true _ _ ts h ∙ ap (λ r. and_then r (λ e. pure (item e))) k

pub ruleset name_rules = (name_value, name_value_stop, name_item, name_item_stop)

roomy : (d : ℕ) (c : Bool) → nat_le 1 d ≡ c → nat_le 1 (parts d).depth ≡ c
roomy d c h = ap (nat_le 1) (parts_depth d) ∙ h

module _ (d : ℕ) (ts : List Token) where
  pub field_name : (n : Bytes) (p : Place) → name_at ts ≡ Some (n, p) → nat_le 1 d ≡ true → one_field (parts d) ts ≡ name_field (parts d) n p (rest ts)
  unfolding one_field
  field_name n p h r = name_hit _ _ _ ts n p h (roomy d true r)

  pub field_name_deep : (name_at ts ≡ None → ⊥) → nat_le 1 d ≡ false → one_field (parts d) ts ≡ Err (deep, ts)
  unfolding one_field
  field_name_deep h r = name_deep _ _ _ ts h (roomy d false r)

  pub field_key : (p : Place) → name_at ts ≡ None → place_of (l.Sign s.OpenBracket) ts ≡ Some p → nat_le 1 d ≡ true → one_field (parts d) ts ≡ key_field (parts d) (rest ts)
  unfolding one_field
  field_key p n h r = name_miss _ _ _ ts n ∙ is_hit (l.Sign s.OpenBracket) _ _ _ ts p h (roomy d true r)

  pub field_key_deep : name_at ts ≡ None → (place_of (l.Sign s.OpenBracket) ts ≡ None → ⊥) → nat_le 1 d ≡ false → one_field (parts d) ts ≡ Err (deep, ts)
  unfolding one_field
  field_key_deep n h r = name_miss _ _ _ ts n ∙ is_deep (l.Sign s.OpenBracket) _ _ _ ts h (roomy d false r)

  pub field_item : (e : Measured Expr) (us : List Token) → name_at ts ≡ None → place_of (l.Sign s.OpenBracket) ts ≡ None → (parts d).expr 0 ts ≡ Ok (e, us) → one_field (parts d) ts ≡ Ok (item e, us)
  unfolding one_field
  field_item e us n m k = name_miss _ _ _ ts n ∙ is_miss (l.Sign s.OpenBracket) _ _ _ ts m ∙ ap (λ r. and_then r (λ e. pure (item e))) k

  pub field_item_stop : (stop : Stop) → name_at ts ≡ None → place_of (l.Sign s.OpenBracket) ts ≡ None → (parts d).expr 0 ts ≡ Err stop → one_field (parts d) ts ≡ Err stop
  unfolding one_field
  field_item_stop stop n m k = name_miss _ _ _ ts n ∙ is_miss (l.Sign s.OpenBracket) _ _ _ ts m ∙ ap (λ r. and_then r (λ e. pure (item e))) k

pub ruleset field_rules = (field_name, field_name_deep, field_key, field_key_deep, field_item, field_item_stop)

-- ---- the turns

abbrev Fields : Type 0
Fields = Measured (List Field)

abbrev turned : Fields → Bool → Turn Fields Fields
turned found true = again found
turned found false = done found

separated_by : (P : Parts) (found : Fields) → GoesOn (λ c. pure (turned found c)) (separated P found) separator
unfolding separator
separated_by P found = on_then last _ _ _ _ _ _ (λ _ _. so true) (on_then last _ _ _ _ _ _ (λ _ _. so true) (on_then last _ _ _ _ _ _ (λ _ _. so false) nowhere))
  where
    last : Bool → Parser (Turn Fields Fields)
    last c = pure (turned found c)

    so : (c : Bool) → GoesOn last (last c) (pure c)
    so c = record { by = λ ts. refl }

    nowhere : GoesOn last refuse refuse
    nowhere = record { by = λ ts. refl }

module _ (d : ℕ) (found : Fields) where
  abbrev put : Measured Field → Parser (Turn Fields Fields)
  put x = separated (parts d) (with_one found x)

  one : (x : Measured Field) → GoesOn put (put x) (pure x)
  one x = record { by = λ ts. refl }

  by_name : (n : Bytes) (p : Place) → GoesOn put (named_field (parts d) found n p) (name_field (parts d) n p)
  unfolding named_field name_field
  by_name n p = on_then put _ _ _ _ _ _ (λ _ _. bind_then put ((parts d).expr 0) _ _ (λ e. one (named n e))) (bind_then put ((parts d).rest (name_leaf n p)) _ _ (λ e. one (item e)))

  by_key : GoesOn put (keyed_field (parts d) found) (key_field (parts d))
  unfolding keyed_field key_field
  by_key = bind_then put ((parts d).expr 0) _ _ (λ x. bind_then put (expect (l.Sign s.CloseBracket)) _ _ (λ _. bind_then put (expect (l.Sign s.Equal)) _ _ (λ _.
      bind_then put ((parts d).expr 0) _ _ (λ e. one (keyed x e)))))

  by_field : GoesOn put
      (on a_name (nat_le 1 (parts d).depth) (named_field (parts d) found)
      (on (is_sign s.OpenBracket) (nat_le 1 (parts d).depth) (λ _ _. keyed_field (parts d) found) ((parts d).expr 0 >>= single_field (parts d) found)))
      (one_field (parts d))
  unfolding one_field
  by_field = on_then put _ _ _ _ _ _ by_name (on_then put _ _ _ _ _ _ (λ _ _. by_key) (bind_then put ((parts d).expr 0) _ _ (λ e. one (item e))))

  of_field : (ts : List Token) → place_of (l.Sign s.CloseBrace) ts ≡ None → field_turn (parts d) found ts ≡ and_then (one_field (parts d) ts) put
  of_field ts h = is_miss (l.Sign s.CloseBrace) true _ _ ts h ∙ by_field.by ts

module _ (d : ℕ) (found : Fields) (ts : List Token) where
  turn_is : (x : Measured Field) (us vs : List Token) (c : Bool) → place_of (l.Sign s.CloseBrace) ts ≡ None → one_field (parts d) ts ≡ Ok (x, us) → separator us ≡ Ok (c, vs)
      → field_turn (parts d) found ts ≡ Ok (turned (with_one found x) c, vs)
  turn_is x us vs c n h k = of_field d found ts n ∙ ap (λ r. and_then r (put d found)) h ∙ (separated_by (parts d) (with_one found x)).by us
      ∙ ap (λ r. and_then r (λ c. pure (turned (with_one found x) c))) k

  pub fields_more : (x : Measured Field) (us vs : List Token) → place_of (l.Sign s.CloseBrace) ts ≡ None → one_field (parts d) ts ≡ Ok (x, us) → separator us ≡ Ok (true, vs)
      → more_fields d found ts ≡ more_fields d (with_one found x) vs
  unfolding more_fields
  fields_more x us vs n h k = many_again (field_turn (parts d)) (field_shrinks (parts d) (parts_shorter d)) found (with_one found x) ts vs (turn_is x us vs true n h k)

  pub fields_last : (x : Measured Field) (us vs : List Token) → place_of (l.Sign s.CloseBrace) ts ≡ None → one_field (parts d) ts ≡ Ok (x, us) → separator us ≡ Ok (false, vs)
      → more_fields d found ts ≡ Ok (with_one found x, vs)
  unfolding more_fields
  fields_last x us vs n h k = many_done (field_turn (parts d)) (field_shrinks (parts d) (parts_shorter d)) found ts vs (with_one found x) (turn_is x us vs false n h k)

  pub fields_unclosed : (x : Measured Field) (us : List Token) (stop : Stop) → place_of (l.Sign s.CloseBrace) ts ≡ None → one_field (parts d) ts ≡ Ok (x, us) → separator us ≡ Err stop
      → more_fields d found ts ≡ Err stop
  unfolding more_fields
  fields_unclosed x us stop n h k = many_fails (field_turn (parts d)) (field_shrinks (parts d) (parts_shorter d)) found ts stop
      (of_field d found ts n ∙ ap (λ r. and_then r (put d found)) h ∙ (separated_by (parts d) (with_one found x)).by us ∙ ap (λ r. and_then r (λ c. pure (turned (with_one found x) c))) k)

  pub fields_stop : (stop : Stop) → place_of (l.Sign s.CloseBrace) ts ≡ None → one_field (parts d) ts ≡ Err stop → more_fields d found ts ≡ Err stop
  unfolding more_fields
  fields_stop stop n h = many_fails (field_turn (parts d)) (field_shrinks (parts d) (parts_shorter d)) found ts stop (of_field d found ts n ∙ ap (λ r. and_then r (put d found)) h)

  pub fields_end : (p : Place) → place_of (l.Sign s.CloseBrace) ts ≡ Some p → more_fields d found ts ≡ Ok (found, rest ts)
  unfolding more_fields
  fields_end p h = many_done (field_turn (parts d)) (field_shrinks (parts d) (parts_shorter d)) found ts (rest ts) found (is_hit (l.Sign s.CloseBrace) true _ _ ts p h refl)

  pub fields_less : (x : Measured Field) (us vs : List Token) → place_of (l.Sign s.CloseBrace) ts ≡ None → one_field (parts d) ts ≡ Ok (x, us) → separator us ≡ Ok (true, vs) → length vs < length ts
  fields_less x us vs n h k = turn_less (field_turn (parts d)) (field_shrinks (parts d) (parts_shorter d)) found (with_one found x) ts vs (turn_is x us vs true n h k)

module _ (d : ℕ) (p : Place) (ts : List Token) where
  pub table_fields : (fs : Fields) (us : List Token) → more_fields d nothing ts ≡ Ok (fs, us) → table (parts d) p ts ≡ Ok (table_node p fs, us)
  unfolding table more_fields
  table_fields fs us h = ap (λ r. and_then r (λ fs. pure (table_node p fs))) h

  pub table_stop : (stop : Stop) → more_fields d nothing ts ≡ Err stop → table (parts d) p ts ≡ Err stop
  unfolding table more_fields
  table_stop stop h = ap (λ r. and_then r (λ fs. pure (table_node p fs))) h

pub ruleset table_rules = (fields_more, fields_last, fields_unclosed, fields_stop, fields_end, fields_less, table_fields, table_stop)
