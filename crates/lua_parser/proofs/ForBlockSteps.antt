-- What the readers of a `for` give, part by part.
use Rattle.std.proofs.Common.{◌≡◌, refl, ◌∙◌, ap, ℕ, List, [], ◌∷◌, Option, Ok, Err}
use Rattle.lua_tokens.specs.declared.place.Place.{Place}
use Rattle.lua_tokens.specs.declared.token.Token.{Token}
use Rattle.lua_tokens.specs.declared.token.Lexeme.TheVariants as l
use Rattle.lua_tokens.specs.declared.sign.Sign.TheVariants as s
use Rattle.lua_tokens.specs.declared.word.Word.TheVariants as w
use Rattle.lua_tree.specs.declared.expr.Expr.{Expr}
use Rattle.lua_tree.specs.declared.stat.Stat.{Stat}
use Rattle.lua_grammar.specs.declared.measured.Measured.{Measured}
use Rattle.lua_grammar.specs.Written.{Bytes}
use Rattle.lua_grammar.specs.Input.{Outcome, Parser, Stop, and_then, ◌>>=◌, pure, expect}
use Rattle.lua_grammar.specs.Expressions.{list}
use Rattle.lua_grammar.specs.Statements as spec
use Rattle.lua_grammar.specs.Statements.{parts}
use Rattle.lua_parser.specs.Steps.{over}
use Rattle.lua_parser.specs.ForBlocks.{loop_block, numbers_stat, numbers_block, numbers_from, each_block}

module _ (d : ℕ) (n : Bytes) (q : Place) (ts : List Token) where
  numbers_at : over d spec.for_numbers n q ts ≡ and_then ((parts d).expr 0 ts) (λ from. expect (l.Sign s.Comma) >>= λ _. numbers_from d n q from)
  unfolding spec.for_numbers numbers_from numbers_block numbers_stat
  numbers_at = refl

  pub numbers_start : (stop : Stop) → (parts d).expr 0 ts ≡ Err stop → over d spec.for_numbers n q ts ≡ Err stop
  numbers_start stop h = numbers_at ∙ ap (λ r. and_then r (λ from. expect (l.Sign s.Comma) >>= λ _. numbers_from d n q from)) h

  at_comma : (from : Measured Expr) (us : List Token) → (parts d).expr 0 ts ≡ Ok (from, us) → over d spec.for_numbers n q ts ≡ and_then (expect (l.Sign s.Comma) us) (λ _. numbers_from d n q from)
  at_comma from us h = numbers_at ∙ ap (λ r. and_then r (λ from. expect (l.Sign s.Comma) >>= λ _. numbers_from d n q from)) h

  pub numbers_comma : (from : Measured Expr) (us : List Token) (stop : Stop) → (parts d).expr 0 ts ≡ Ok (from, us) → expect (l.Sign s.Comma) us ≡ Err stop → over d spec.for_numbers n q ts ≡ Err stop
  numbers_comma from us stop h e = at_comma from us h ∙ ap (λ r. and_then r (λ _. numbers_from d n q from)) e

  pub numbers_read : (from : Measured Expr) (p : Place) (us vs : List Token) → (parts d).expr 0 ts ≡ Ok (from, us) → expect (l.Sign s.Comma) us ≡ Ok (p, vs) → over d spec.for_numbers n q ts ≡ numbers_from d n q from vs
  numbers_read from p us vs h e = at_comma from us h ∙ ap (λ r. and_then r (λ _. numbers_from d n q from)) e

  from_at : (from : Measured Expr) → numbers_from d n q from ts ≡ and_then ((parts d).expr 0 ts) (λ to. over d spec.for_step >>= λ by. numbers_block (parts d) n q from to by)
  unfolding numbers_from
  from_at from = refl

  pub from_limit : (from : Measured Expr) (stop : Stop) → (parts d).expr 0 ts ≡ Err stop → numbers_from d n q from ts ≡ Err stop
  from_limit from stop h = from_at from ∙ ap (λ r. and_then r (λ to. over d spec.for_step >>= λ by. numbers_block (parts d) n q from to by)) h

  at_step : (from to : Measured Expr) (us : List Token) → (parts d).expr 0 ts ≡ Ok (to, us) → numbers_from d n q from ts ≡ and_then (over d spec.for_step us) (numbers_block (parts d) n q from to)
  at_step from to us h = from_at from ∙ ap (λ r. and_then r (λ to. over d spec.for_step >>= λ by. numbers_block (parts d) n q from to by)) h

  pub from_step : (from to : Measured Expr) (us : List Token) (stop : Stop) → (parts d).expr 0 ts ≡ Ok (to, us) → over d spec.for_step us ≡ Err stop → numbers_from d n q from ts ≡ Err stop
  from_step from to us stop h e = at_step from to us h ∙ ap (λ r. and_then r (numbers_block (parts d) n q from to)) e

  pub from_read : (from to : Measured Expr) (by : Measured (Option Expr)) (us vs : List Token) → (parts d).expr 0 ts ≡ Ok (to, us) → over d spec.for_step us ≡ Ok (by, vs)
      → numbers_from d n q from ts ≡ numbers_block (parts d) n q from to by vs
  from_read from to by us vs h e = at_step from to us h ∙ ap (λ r. and_then r (numbers_block (parts d) n q from to)) e

  -- ---- of a generic one

  abbrev AfterNames : List (Bytes × Place) → Parser (Measured Stat)
  AfterNames ns = list (parts d) >>= λ es. each_block (parts d) ns es

  each_at : over d spec.for_each n q ts ≡ and_then (over d spec.for_names ((n, q) ∷ []) ts) AfterNames
  unfolding spec.for_each each_block
  each_at = refl

  pub each_names : (stop : Stop) → over d spec.for_names ((n, q) ∷ []) ts ≡ Err stop → over d spec.for_each n q ts ≡ Err stop
  each_names stop h = each_at ∙ ap (λ r. and_then r AfterNames) h

  at_values : (ns : List (Bytes × Place)) (us : List Token) → over d spec.for_names ((n, q) ∷ []) ts ≡ Ok (ns, us) → over d spec.for_each n q ts ≡ and_then (list (parts d) us) (each_block (parts d) ns)
  at_values ns us h = each_at ∙ ap (λ r. and_then r AfterNames) h

  pub each_values : (ns : List (Bytes × Place)) (us : List Token) (stop : Stop) → over d spec.for_names ((n, q) ∷ []) ts ≡ Ok (ns, us) → list (parts d) us ≡ Err stop → over d spec.for_each n q ts ≡ Err stop
  each_values ns us stop h e = at_values ns us h ∙ ap (λ r. and_then r (each_block (parts d) ns)) e

  pub each_read : (ns : List (Bytes × Place)) (us vs : List Token) (es : Measured (List Expr)) → over d spec.for_names ((n, q) ∷ []) ts ≡ Ok (ns, us) → list (parts d) us ≡ Ok (es, vs)
      → over d spec.for_each n q ts ≡ each_block (parts d) ns es vs
  each_read ns us vs es h e = at_values ns us h ∙ ap (λ r. and_then r (each_block (parts d) ns)) e

-- ---- blocks

module _ (d : ℕ) (n : Bytes) (q : Place) (from to : Measured Expr) (by : Measured (Option Expr)) (ts : List Token) where
  by_end : (b : Measured (List Stat)) (r : Outcome Place) → and_then r (λ _. pure (numbers_stat n q from to by b)) ≡ and_then (and_then r (λ _. pure b)) (λ b. pure (numbers_stat n q from to by b))
  by_end b (Ok x) = refl
  by_end b (Err stop) = refl

  by_block : (r : Outcome (Measured (List Stat))) → and_then r (λ b. expect (l.Word w.End) >>= λ _. pure (numbers_stat n q from to by b))
      ≡ and_then (and_then r (λ b. expect (l.Word w.End) >>= λ _. pure b)) (λ b. pure (numbers_stat n q from to by b))
  by_block (Ok x) = by_end x.0 (expect (l.Word w.End) x.1)
  by_block (Err stop) = refl

  by_do : (r : Outcome Place) → and_then r (λ _. (parts d).block >>= λ b. expect (l.Word w.End) >>= λ _. pure (numbers_stat n q from to by b))
      ≡ and_then (and_then r (λ _. (parts d).block >>= λ b. expect (l.Word w.End) >>= λ _. pure b)) (λ b. pure (numbers_stat n q from to by b))
  by_do (Ok x) = by_block ((parts d).block x.1)
  by_do (Err stop) = refl

  block_by : numbers_block (parts d) n q from to by ts ≡ and_then (loop_block (parts d) ts) (λ b. pure (numbers_stat n q from to by b))
  unfolding numbers_block loop_block
  block_by = by_do (expect (l.Word w.Do) ts)

  pub numbers_block_stops : (stop : Stop) → loop_block (parts d) ts ≡ Err stop → numbers_block (parts d) n q from to by ts ≡ Err stop
  numbers_block_stops stop h = block_by ∙ ap (λ r. and_then r (λ b. pure (numbers_stat n q from to by b))) h

  pub numbers_end : (b : Measured (List Stat)) (us : List Token) → loop_block (parts d) ts ≡ Ok (b, us) → numbers_block (parts d) n q from to by ts ≡ Ok (numbers_stat n q from to by b, us)
  numbers_end b us h = block_by ∙ ap (λ r. and_then r (λ b. pure (numbers_stat n q from to by b))) h

pub ruleset numbers_rules = (numbers_start, numbers_comma, numbers_read)

pub ruleset from_rules = (from_limit, from_step, from_read)

pub ruleset numbers_block_rules = (numbers_block_stops, numbers_end)

pub ruleset each_rules = (each_names, each_values, each_read)
