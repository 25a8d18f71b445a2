-- What the readers of a `local` give, by the next token.
use Rattle.std.proofs.Common.{◌≡◌, ◌∙◌, ap, ℕ, true, false, nat_le, List, [], Some, None, Ok, Err}
use Rattle.lua_tokens.specs.declared.place.Place.{Place}
use Rattle.lua_tokens.specs.declared.token.Token.{Token}
use Rattle.lua_tokens.specs.declared.token.Lexeme.TheVariants as l
use Rattle.lua_tokens.specs.declared.sign.Sign.TheVariants as s
use Rattle.lua_tokens.specs.declared.word.Word.TheVariants as w
use Rattle.lua_tree.specs.declared.stat.Body.{Body}
use Rattle.lua_tree.specs.declared.stat.Stat.TheVariants as st
use Rattle.lua_grammar.specs.declared.measured.Measured.{Measured}
use Rattle.lua_grammar.specs.Written.{Bytes}
use Rattle.lua_grammar.specs.Next.{a_name}
use Rattle.lua_grammar.specs.Input.{Stop, bad, deep, and_then, ◌>>=◌, pure, refuse, on, expect, attribute_name}
use Rattle.lua_grammar.specs.Expressions.{measured, nothing, list, function_body}
use Rattle.lua_grammar.specs.Statements as spec
use Rattle.lua_grammar.specs.Statements.{parts}
use Rattle.lua_grammar.proofs.Levels.{parts_depth}
use Rattle.lua_parser.specs.Looks.{rest, place_of, name_at}
use Rattle.lua_parser.specs.Steps.{over}
use Rattle.lua_parser.proofs.Steps.{is_miss, is_deep}
use Rattle.lua_parser.proofs.NextFound.{it_stands, name_stands, name_miss}
use Rattle.lua_grammar.specs.Next.{is_sign, is_word}

module _ (d : ℕ) (ts : List Token) where
  at_less : (p : Place) → place_of (l.Sign s.Less) ts ≡ Some p → over d spec.attrib ts ≡ and_then (attribute_name (rest ts)) (λ _. expect (l.Sign s.Greater) >>= λ _. pure true)
  unfolding spec.attrib on
  at_less p h = ap (over d spec.attrib) (it_stands (l.Sign s.Less) tt ts p h)

  at_greater : (p q : Place) (us : List Token) → place_of (l.Sign s.Less) ts ≡ Some p → attribute_name (rest ts) ≡ Ok (q, us) → over d spec.attrib ts ≡ and_then (expect (l.Sign s.Greater) us) (λ _. pure true)
  at_greater p q us h e = at_less p h ∙ ap (λ r. and_then r (λ _. expect (l.Sign s.Greater) >>= λ _. pure true)) e

  pub attrib_read : (p q r : Place) (us vs : List Token) → place_of (l.Sign s.Less) ts ≡ Some p → attribute_name (rest ts) ≡ Ok (q, us) → expect (l.Sign s.Greater) us ≡ Ok (r, vs)
      → over d spec.attrib ts ≡ Ok (true, vs)
  attrib_read p q r us vs h e f = at_greater p q us h e ∙ ap (λ r. and_then r (λ _. pure true)) f

  pub attrib_name_stops : (p : Place) (stop : Stop) → place_of (l.Sign s.Less) ts ≡ Some p → attribute_name (rest ts) ≡ Err stop → over d spec.attrib ts ≡ Err stop
  attrib_name_stops p stop h e = at_less p h ∙ ap (λ r. and_then r (λ _. expect (l.Sign s.Greater) >>= λ _. pure true)) e

  pub attrib_stops : (p q : Place) (us : List Token) (stop : Stop) → place_of (l.Sign s.Less) ts ≡ Some p → attribute_name (rest ts) ≡ Ok (q, us) → expect (l.Sign s.Greater) us ≡ Err stop
      → over d spec.attrib ts ≡ Err stop
  attrib_stops p q us stop h e f = at_greater p q us h e ∙ ap (λ r. and_then r (λ _. pure true)) f

  pub no_attrib : place_of (l.Sign s.Less) ts ≡ None → over d spec.attrib ts ≡ Ok (false, ts)
  unfolding spec.attrib
  no_attrib h = is_miss (l.Sign s.Less) _ _ _ ts h

  values_at : over d spec.values ts ≡ on (is_sign s.Equal) (nat_le 1 d) (λ _ _. list (parts d)) (pure nothing) ts
  unfolding spec.values
  values_at = ap (λ m. on (is_sign s.Equal) (nat_le 1 m) (λ _ _. list (parts d)) (pure nothing) ts) (parts_depth d)

  pub values_read : (p : Place) → place_of (l.Sign s.Equal) ts ≡ Some p → nat_le 1 d ≡ true → over d spec.values ts ≡ list (parts d) (rest ts)
  unfolding on
  values_read p h r = values_at ∙ ap (λ c. on (is_sign s.Equal) c (λ _ _. list (parts d)) (pure nothing) ts) r ∙ ap (on (is_sign s.Equal) true (λ _ _. list (parts d)) (pure nothing)) (it_stands (l.Sign s.Equal) tt ts p h)

  pub values_deep : (place_of (l.Sign s.Equal) ts ≡ None → ⊥) → nat_le 1 d ≡ false → over d spec.values ts ≡ Err (deep, ts)
  values_deep h r = values_at ∙ is_deep (l.Sign s.Equal) _ _ _ ts h r

  pub no_values : place_of (l.Sign s.Equal) ts ≡ None → over d spec.values ts ≡ Ok (nothing, ts)
  unfolding spec.values
  no_values h = is_miss (l.Sign s.Equal) _ _ _ ts h

module _ (d : ℕ) (at : Place) (ts : List Token) where
  at_function : (p : Place) (n : Bytes) → name_at ts ≡ Some (n, p) → over d spec.local_function at ts ≡ and_then (function_body (parts d) at [] (rest ts)) (λ b. pure (measured (st.LocalFunction n p b.what) b.depth))
  unfolding spec.local_function on
  at_function p n h = ap (over d spec.local_function at) (name_stands ts n p h)

  pub function_read : (p : Place) (n : Bytes) (us : List Token) (b : Measured Body) → name_at ts ≡ Some (n, p) → function_body (parts d) at [] (rest ts) ≡ Ok (b, us)
      → over d spec.local_function at ts ≡ Ok (measured (st.LocalFunction n p b.what) b.depth, us)
  function_read p n us b h e = at_function p n h ∙ ap (λ r. and_then r (λ b. pure (measured (st.LocalFunction n p b.what) b.depth))) e

  pub function_stops : (p : Place) (n : Bytes) (stop : Stop) → name_at ts ≡ Some (n, p) → function_body (parts d) at [] (rest ts) ≡ Err stop → over d spec.local_function at ts ≡ Err stop
  function_stops p n stop h e = at_function p n h ∙ ap (λ r. and_then r (λ b. pure (measured (st.LocalFunction n p b.what) b.depth))) e

  pub function_nothing : name_at ts ≡ None → over d spec.local_function at ts ≡ Err (bad, ts)
  unfolding spec.local_function
  function_nothing h = name_miss _ _ _ ts h

module _ (d : ℕ) (ts : List Token) where
  local_at : over d spec.after_local ts ≡ on (is_word w.Function) (nat_le 1 d) (λ _ p. over d spec.local_function p) (on a_name true (over d spec.local_names) refuse) ts
  unfolding spec.after_local
  local_at = ap (λ m. on (is_word w.Function) (nat_le 1 m) (λ _ p. over d spec.local_function p) (on a_name true (over d spec.local_names) refuse) ts) (parts_depth d)

  pub local_function_read : (p : Place) → place_of (l.Word w.Function) ts ≡ Some p → nat_le 1 d ≡ true → over d spec.after_local ts ≡ over d spec.local_function p (rest ts)
  unfolding on
  local_function_read p h r = local_at ∙ ap (λ c. on (is_word w.Function) c (λ _ p. over d spec.local_function p) (on a_name true (over d spec.local_names) refuse) ts) r
      ∙ ap (on (is_word w.Function) true (λ _ p. over d spec.local_function p) (on a_name true (over d spec.local_names) refuse)) (it_stands (l.Word w.Function) tt ts p h)

  pub local_function_deep : (place_of (l.Word w.Function) ts ≡ None → ⊥) → nat_le 1 d ≡ false → over d spec.after_local ts ≡ Err (deep, ts)
  local_function_deep h r = local_at ∙ is_deep (l.Word w.Function) _ _ _ ts h r

  pub local_names_read : (p : Place) (n : Bytes) → name_at ts ≡ Some (n, p) → over d spec.after_local ts ≡ over d spec.local_names n p (rest ts)
  unfolding spec.after_local on
  local_names_read p n h = ap (over d spec.after_local) (name_stands ts n p h)

  pub local_nothing : place_of (l.Word w.Function) ts ≡ None → name_at ts ≡ None → over d spec.after_local ts ≡ Err (bad, ts)
  unfolding spec.after_local
  local_nothing h e = is_miss (l.Word w.Function) _ _ _ ts h ∙ name_miss _ _ _ ts e

pub ruleset attrib_rules = (attrib_read, attrib_name_stops, attrib_stops, no_attrib)

pub ruleset values_rules = (values_read, values_deep, no_values)

pub ruleset local_function_rules = (function_read, function_stops, function_nothing)

pub ruleset local_rules = (local_function_read, local_function_deep, local_names_read, local_nothing)
