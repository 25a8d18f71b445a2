-- What one turn gives in the loop that reads the statements of a block.
use Rattle.std.proofs.Common.{◌≡◌, refl, ◌∙◌, ap, ℕ, ◌-◌, ◌<◌, true, false, nat_le, List, [], ◌∷◌, length, Option, Some, None, Ok, Err}
use Rattle.lua_tokens.specs.declared.place.Place.{Place}
use Rattle.lua_tokens.specs.declared.token.Token.{Token}
use Rattle.lua_tokens.specs.declared.token.Lexeme.TheVariants as l
use Rattle.lua_tokens.specs.declared.sign.Sign.TheVariants as s
use Rattle.lua_tokens.specs.declared.word.Word.TheVariants as w
use Rattle.lua_tree.specs.declared.expr.Expr.{Expr}
use Rattle.lua_tree.specs.declared.stat.Stat.{Stat}
use Rattle.lua_tree.specs.declared.stat.Stat.TheVariants as st
use Rattle.lua_grammar.specs.declared.measured.Measured.{Measured}
use Rattle.lua_grammar.specs.Input.{Outcome, Parser, Stop, and_then, ◌>>=◌, pure, on, before, Turn, again, done}
use Rattle.lua_grammar.specs.Expressions.{measured, name_leaf, nothing, with_one, list}
use Rattle.lua_grammar.specs.Statements as spec
use Rattle.lua_grammar.specs.Statements.{parts}
use Rattle.lua_grammar.proofs.Levels.{parts_depth}
use Rattle.lua_grammar.proofs.Loops.{Shrinks}
use Rattle.lua_grammar.proofs.Shorter as shorter
use Rattle.lua_grammar.proofs.Shorter.{parts_shorter}
use Rattle.lua_parser.specs.Looks.{rest, place_of}
use Rattle.lua_parser.specs.Steps.{over}
use Rattle.lua_parser.proofs.Steps.{is_miss}
use Rattle.lua_parser.proofs.NextFound.{many_stops, many_ends}
use Rattle.std.proofs.Common.{sym, subst, if◌then◌else◌}
use Rattle.lua_grammar.specs.Next.{ends_return}
use Rattle.lua_grammar.proofs.Loops.{AtTurn, many_again, many_done}
use Rattle.lua_parser.specs.Looks.{after, ends_at}
use Rattle.lua_parser.proofs.Steps.{is_hit}
use Rattle.lua_tokens.specs.declared.token.Lexeme.{Lexeme}
use Rattle.lua_grammar.specs.Tokens.{token}
use Rattle.lua_grammar.specs.Input.{deep}
use Rattle.lua_grammar.specs.Tokens.{name}
use Rattle.std.proofs.Common.{Bool, ◌≤◌, arith}
use Rattle.lua_parser.specs.declared.start.Start.{Start}
use Rattle.lua_parser.specs.declared.start.Start.TheVariants.{Semicolon, Return, Name as Named, Stat as One, End}
use Rattle.lua_parser.specs.declared.start.Kind.{Kind}
use Rattle.lua_parser.specs.Starts.{start_of, start_at}
use Rattle.lua_parser.specs.OneStat.{needs_name, name_stat, after_kind, one_stat}
use Rattle.std.proofs.lemmas.Bool.{le-leb}

-- ---- `return`

module _ (d : ℕ) (ts : List Token) where
  pub returned_nothing : ends_at ts ≡ true → over d spec.returned ts ≡ Ok (nothing, ts)
  unfolding spec.returned before ends_at
  returned_nothing h = at_tokens ts h
    where
      at_tokens : (ts : List Token) → ends_at ts ≡ true → before ends_return (pure nothing) (list (parts d)) ts ≡ Ok (nothing, ts)
      at_tokens [] h = cc
      at_tokens (x ∷ us) h = ap (λ c. if c then Ok (nothing, x ∷ us) else list (parts d) (x ∷ us)) h

  pub returned_values : ends_at ts ≡ false → over d spec.returned ts ≡ list (parts d) ts
  unfolding spec.returned before ends_at
  returned_values h = at_tokens ts h
    where
      at_tokens : (ts : List Token) → ends_at ts ≡ false → before ends_return (pure nothing) (list (parts d)) ts ≡ list (parts d) ts
      at_tokens [] h = refl
      at_tokens (x ∷ us) h = ap (λ c. if c then Ok (nothing, x ∷ us) else list (parts d) (x ∷ us)) h

  at_values : (us : List Token) (es : Measured (List Expr)) → over d spec.returned ts ≡ Ok (es, us) → over d spec.after_return ts ≡ and_then (over d spec.semicolon us) (λ _. pure (measured (st.Return es.what) es.depth))
  unfolding spec.after_return
  at_values us es h = ap (λ r. and_then r (λ es. over d spec.semicolon >>= λ _. pure (measured (st.Return es.what) es.depth))) h

  no_semicolon : (us : List Token) → place_of (l.Sign s.Semicolon) us ≡ None → over d spec.semicolon us ≡ Ok (tt, us)
  unfolding spec.semicolon
  no_semicolon us h = is_miss (l.Sign s.Semicolon) _ _ _ us h

  a_semicolon : (us : List Token) (p : Place) → place_of (l.Sign s.Semicolon) us ≡ Some p → over d spec.semicolon us ≡ Ok (tt, rest us)
  unfolding spec.semicolon
  a_semicolon us p h = is_hit (l.Sign s.Semicolon) _ _ _ us p h refl

  pub return_read : (us : List Token) (es : Measured (List Expr)) (o : Option Place) → over d spec.returned ts ≡ Ok (es, us) → o ≡ place_of (l.Sign s.Semicolon) us → over d spec.after_return ts ≡ Ok (measured (st.Return es.what) es.depth, after o us)
  return_read us es None h e = at_values us es h ∙ ap (λ r. and_then r (λ _. pure (measured (st.Return es.what) es.depth))) (no_semicolon us (sym e))
  return_read us es (Some p) h e = at_values us es h ∙ ap (λ r. and_then r (λ _. pure (measured (st.Return es.what) es.depth))) (a_semicolon us p (sym e))

  pub return_stops : (stop : Stop) → over d spec.returned ts ≡ Err stop → over d spec.after_return ts ≡ Err stop
  unfolding spec.after_return
  return_stops stop h = ap (λ r. and_then r (λ es. over d spec.semicolon >>= λ _. pure (measured (st.Return es.what) es.depth))) h

pub ruleset returned_rules = (returned_nothing, returned_values)

pub ruleset return_rules = (return_read, return_stops)

-- ---- the turns

module _ (d : ℕ) (found : Measured (List Stat)) where
  abbrev With : Measured Stat → Parser (Turn (Measured (List Stat)) (Measured (List Stat)))
  With x = pure (again (with_one found x))

  -- what a turn gives, by what goes on with the block
  abbrev by_start : Start → Parser (Turn (Measured (List Stat)) (Measured (List Stat)))
  by_start Semicolon ts = Ok (again found, rest ts)
  by_start Return ts = and_then (over d spec.after_return (rest ts)) (λ x. pure (done (with_one found x)))
  by_start Named ts = and_then (name_stat d ts) With
  by_start (One k) ts = and_then (one_stat d k ts) With
  by_start End ts = Ok (done found, ts)

  in_room : {B : Type 0} (c : Bool) (x : B) (f : B → Parser (Measured Stat)) (ts : List Token) (stop : Stop)
      → (if c then and_then (f x ts) With else Err stop) ≡ and_then (and_then (if c then Ok (x, ts) else Err stop) f) With
  in_room true x f ts stop = refl
  in_room false x f ts stop = refl

  in_time : (c : Bool) (r : Outcome (Measured Stat)) (stop : Stop) → (if c then and_then r With else Err stop) ≡ and_then (if c then r else Err stop) With
  in_time true r stop = refl
  in_time false r stop = refl

  roomy : (n : ℕ) (r : Outcome (Measured Stat)) (stop : Stop)
      → (if nat_le n (parts d).depth then and_then r With else Err stop) ≡ and_then (if nat_le n d then r else Err stop) With
  roomy n r stop = ap (λ m. if nat_le n m then and_then r With else Err stop) (parts_depth d) ∙ in_time (nat_le n d) r stop

  always : (r : Outcome (Measured Stat)) (stop : Stop) → and_then r With ≡ and_then (if nat_le 0 d then r else Err stop) With
  always r stop = ap (λ c. and_then (if c then r else Err stop) With) (sym (le-leb 0 d (omega arith)))

  by_lexeme : (y : Lexeme) (p : Place) (ts : List Token) → over d spec.stat_turn found (token y p ∷ ts) ≡ by_start (start_of y) (token y p ∷ ts)
  unfolding on rest name_stat after_kind one_stat needs_name
  by_lexeme (l.Name n) p ts =
      ap (λ m. if nat_le 1 m then and_then (over d spec.begun (spec.as_variable (name_leaf n p)) ts) With else Err (deep, name n p ∷ ts)) (parts_depth d)
      ∙ in_room (nat_le 1 d) (n, p) (λ x. over d spec.begun (spec.as_variable (name_leaf x.0 x.1))) ts _
  by_lexeme (l.Sign s.OpenParen) p ts = roomy 3 (over d spec.after_open p ts) _
  by_lexeme (l.Sign s.ColonColon) p ts = always (spec.after_colons ts) _
  by_lexeme (l.Word w.Break) p ts = always (Ok (measured (st.Break p) 0, ts)) _
  by_lexeme (l.Word w.Goto) p ts = always (spec.after_goto ts) _
  by_lexeme (l.Word w.Local) p ts = always (over d spec.after_local ts) _
  by_lexeme (l.Word w.If) p ts = roomy 1 (over d spec.after_if ts) _
  by_lexeme (l.Word w.For) p ts = roomy 1 (over d spec.after_for ts) _
  by_lexeme (l.Word w.Function) p ts = roomy 2 (over d spec.after_function p ts) _
  by_lexeme (l.Word w.While) p ts = roomy 1 (over d spec.after_while ts) _
  by_lexeme (l.Word w.Repeat) p ts = roomy 1 (over d spec.after_repeat ts) _
  by_lexeme (l.Word w.Do) p ts = roomy 1 (over d spec.after_do ts) _
  by_lexeme _ p ts = refl

  turn_by : (ts : List Token) → over d spec.stat_turn found ts ≡ by_start (start_at ts) ts
  unfolding start_at on
  turn_by [] = refl
  turn_by (x ∷ ts) = by_lexeme x.what x.place ts

  turn_at : (ts : List Token) (o : Start) → start_at ts ≡ o → over d spec.stat_turn found ts ≡ by_start o ts
  turn_at ts o e = turn_by ts ∙ ap (λ o. by_start o ts) e

shrinks : (d : ℕ) → Shrinks (over d spec.stat_turn)
shrinks d = shorter.stat_shrinks _ _ _ (parts_shorter d) (parts_shorter (d - 1)) (parts_shorter (d - 2))

module _ (d : ℕ) (found : Measured (List Stat)) (ts : List Token) where
  at_one : (k : Kind) (us : List Token) (x : Measured Stat) → start_at ts ≡ One k → one_stat d k ts ≡ Ok (x, us) → over d spec.stat_turn found ts ≡ Ok (again (with_one found x), us)
  at_one k us x a e = turn_at d found ts (One k) a ∙ ap (λ r. and_then r (With d found)) e

  pub stats_skip : start_at ts ≡ Semicolon → over d spec.more_stats found ts ≡ over d spec.more_stats found (rest ts)
  unfolding spec.more_stats
  stats_skip h = many_again _ (shrinks d) found found ts (rest ts) (turn_at d found ts Semicolon h)

  pub skip_less : start_at ts ≡ Semicolon → length (rest ts) < length ts
  skip_less h = subst (λ r. AtTurn r ts) (turn_at d found ts Semicolon h) (shrinks d found ts)

  pub stats_return : (us : List Token) (x : Measured Stat) → start_at ts ≡ Return → over d spec.after_return (rest ts) ≡ Ok (x, us) → over d spec.more_stats found ts ≡ Ok (with_one found x, us)
  unfolding spec.more_stats
  stats_return us x h e = many_ends _ (shrinks d) found ts _ (with_one found) x us (turn_at d found ts Return h) e

  pub stats_return_stops : (stop : Stop) → start_at ts ≡ Return → over d spec.after_return (rest ts) ≡ Err stop → over d spec.more_stats found ts ≡ Err stop
  unfolding spec.more_stats
  stats_return_stops stop h e = many_stops _ (shrinks d) found ts _ _ stop (turn_at d found ts Return h) e

  at_name : (us : List Token) (x : Measured Stat) → start_at ts ≡ Named → name_stat d ts ≡ Ok (x, us) → over d spec.stat_turn found ts ≡ Ok (again (with_one found x), us)
  at_name us x a e = turn_at d found ts Named a ∙ ap (λ r. and_then r (With d found)) e

  pub stats_named : (us : List Token) (x : Measured Stat) → start_at ts ≡ Named → name_stat d ts ≡ Ok (x, us) → over d spec.more_stats found ts ≡ over d spec.more_stats (with_one found x) us
  unfolding spec.more_stats
  stats_named us x a e = many_again _ (shrinks d) found (with_one found x) ts us (at_name us x a e)

  pub named_less : (us : List Token) (x : Measured Stat) → start_at ts ≡ Named → name_stat d ts ≡ Ok (x, us) → length us < length ts
  named_less us x a e = subst (λ r. AtTurn r ts) (at_name us x a e) (shrinks d found ts)

  pub named_stop : (stop : Stop) → start_at ts ≡ Named → name_stat d ts ≡ Err stop → over d spec.more_stats found ts ≡ Err stop
  unfolding spec.more_stats
  named_stop stop a e = many_stops _ (shrinks d) found ts _ _ stop (turn_at d found ts Named a) e

  pub begins_one : (k : Kind) → start_at ts ≡ One k → 1 ≤ length ts
  unfolding start_at
  begins_one k e = by_tokens ts e
    where
      by_tokens : (ts : List Token) → start_at ts ≡ One k → 1 ≤ length ts
      by_tokens [] e = cc
      by_tokens (x ∷ ts) e = omega arith

  pub stats_one : (k : Kind) (us : List Token) (x : Measured Stat) → start_at ts ≡ One k → one_stat d k ts ≡ Ok (x, us) → over d spec.more_stats found ts ≡ over d spec.more_stats (with_one found x) us
  unfolding spec.more_stats
  stats_one k us x a e = many_again _ (shrinks d) found (with_one found x) ts us (at_one k us x a e)

  pub one_less : (k : Kind) (us : List Token) (x : Measured Stat) → start_at ts ≡ One k → one_stat d k ts ≡ Ok (x, us) → length us < length ts
  one_less k us x a e = subst (λ r. AtTurn r ts) (at_one k us x a e) (shrinks d found ts)

  pub stats_stop : (k : Kind) (stop : Stop) → start_at ts ≡ One k → one_stat d k ts ≡ Err stop → over d spec.more_stats found ts ≡ Err stop
  unfolding spec.more_stats
  stats_stop k stop a e = many_stops _ (shrinks d) found ts _ _ stop (turn_at d found ts (One k) a) e

  pub stats_end : start_at ts ≡ End → over d spec.more_stats found ts ≡ Ok (found, ts)
  unfolding spec.more_stats
  stats_end h = many_done _ (shrinks d) found ts ts found (turn_at d found ts End h)

pub ruleset stats_rules = (stats_skip, skip_less, stats_return, stats_return_stops, stats_named, named_less, named_stop, begins_one, stats_one, one_less, stats_stop, stats_end)
