-- What the reader of one statement gives, by the token that begins it.
use Rattle.std.proofs.Common.{◌≡◌, ◌∙◌, ap, ℕ, ◌≤◌, Bool, true, false, nat_le, if◌then◌else◌, List, [], ◌∷◌, length, Some, None, Ok, Err, arith}
use Rattle.lua_tokens.specs.declared.place.Place.{Place}
use Rattle.lua_tokens.specs.declared.token.Token.{Token}
use Rattle.lua_grammar.specs.Written.{Bytes}
use Rattle.lua_grammar.specs.Input.{Outcome, Stop, bad, deep, and_then}
use Rattle.lua_grammar.specs.Expressions.{name_leaf}
use Rattle.lua_grammar.specs.Statements as spec
use Rattle.lua_parser.specs.declared.start.Kind.{Kind}
use Rattle.lua_parser.specs.declared.start.Kind.TheVariants as kind
use Rattle.lua_parser.specs.Looks.{rest, first_place, name_at}
use Rattle.lua_parser.specs.Steps.{over}
use Rattle.lua_parser.specs.OneStat.{needs_name, break_at, name_stat, after_kind, one_stat}
use Rattle.lua_parser.specs.Starts.{room_of}
use Rattle.lua_parser.proofs.Steps.{name_hit, name_deep, name_miss}

-- ---- a token that has to come next

module _ (room : Bool) (ts : List Token) where
  pub name_needed : (n : Bytes) (p : Place) → name_at ts ≡ Some (n, p) → room ≡ true → needs_name room ts ≡ Ok ((n, p), rest ts)
  unfolding needs_name
  name_needed n p e r = name_hit room _ _ ts n p e r

  pub name_too_deep : (name_at ts ≡ None → ⊥) → room ≡ false → needs_name room ts ≡ Err (deep, ts)
  unfolding needs_name
  name_too_deep e r = name_deep room _ _ ts e r

  pub name_lacks : name_at ts ≡ None → needs_name room ts ≡ Err (bad, ts)
  unfolding needs_name
  name_lacks e = name_miss room _ _ ts e

pub ruleset needs_name_rules = (name_needed, name_too_deep, name_lacks)

-- ---- a statement that a name begins

module _ (d : ℕ) (ts : List Token) where
  pub name_read : (n : Bytes) (p : Place) (us : List Token) → needs_name (nat_le 1 d) ts ≡ Ok ((n, p), us) → name_stat d ts ≡ over d spec.begun (spec.as_variable (name_leaf n p)) us
  unfolding name_stat
  name_read n p us h = ap (λ (r : Outcome (Bytes × Place)). and_then r (λ x. over d spec.begun (spec.as_variable (name_leaf x.0 x.1)))) h

  pub name_stops : (stop : Stop) → needs_name (nat_le 1 d) ts ≡ Err stop → name_stat d ts ≡ Err stop
  unfolding name_stat
  name_stops stop h = ap (λ (r : Outcome (Bytes × Place)). and_then r (λ x. over d spec.begun (spec.as_variable (name_leaf x.0 x.1)))) h

pub ruleset name_rules = (name_read, name_stops)

-- ---- a statement of each kind

module _ (d : ℕ) (k : Kind) (ts : List Token) where
  pub one_read : (p : Place) → first_place ts ≡ Some p → nat_le (room_of k) d ≡ true → one_stat d k ts ≡ after_kind d k p (rest ts)
  unfolding one_stat first_place rest
  one_read p e r = by_tokens ts e
    where
      by_tokens : (ts : List Token) → first_place ts ≡ Some p → one_stat d k ts ≡ after_kind d k p (rest ts)
      by_tokens [] e = cc
      by_tokens (x ∷ ts) e =
          let same : x.place ≡ p = cc in
          ap (λ c. if c then after_kind d k x.place ts else Err (deep, x ∷ ts)) r ∙ ap (λ p. after_kind d k p ts) same

  pub one_deep : 1 ≤ length ts → nat_le (room_of k) d ≡ false → one_stat d k ts ≡ Err (deep, ts)
  unfolding one_stat
  one_deep e r = by_tokens ts e
    where
      by_tokens : (ts : List Token) → 1 ≤ length ts → one_stat d k ts ≡ Err (deep, ts)
      by_tokens [] e = absurd (omega (arith, e))
      by_tokens (x ∷ ts) e = ap (λ c. if c then after_kind d k x.place ts else Err (deep, x ∷ ts)) r

pub ruleset one_rules = (one_read, one_deep)

module _ (d : ℕ) (k : Kind) (p : Place) (ts : List Token) where
  by_kind : (o : Kind) → k ≡ o → after_kind d k p ts ≡ after_kind d o p ts
  by_kind o e = ap (λ k. after_kind d k p ts) e

  pub break_read : k ≡ kind.Break → after_kind d k p ts ≡ Ok (break_at p, ts)
  unfolding after_kind
  break_read e = by_kind kind.Break e

  pub goto_read : k ≡ kind.Goto → after_kind d k p ts ≡ spec.after_goto ts
  unfolding after_kind
  goto_read e = by_kind kind.Goto e

  pub label_read : k ≡ kind.Label → after_kind d k p ts ≡ spec.after_colons ts
  unfolding after_kind
  label_read e = by_kind kind.Label e

  pub paren_read : k ≡ kind.Paren → after_kind d k p ts ≡ over d spec.after_open p ts
  unfolding after_kind
  paren_read e = by_kind kind.Paren e

  pub local_read : k ≡ kind.Local → after_kind d k p ts ≡ over d spec.after_local ts
  unfolding after_kind
  local_read e = by_kind kind.Local e

  pub if_read : k ≡ kind.If → after_kind d k p ts ≡ over d spec.after_if ts
  unfolding after_kind
  if_read e = by_kind kind.If e

  pub for_read : k ≡ kind.For → after_kind d k p ts ≡ over d spec.after_for ts
  unfolding after_kind
  for_read e = by_kind kind.For e

  pub function_read : k ≡ kind.Function → after_kind d k p ts ≡ over d spec.after_function p ts
  unfolding after_kind
  function_read e = by_kind kind.Function e

  pub while_read : k ≡ kind.While → after_kind d k p ts ≡ over d spec.after_while ts
  unfolding after_kind
  while_read e = by_kind kind.While e

  pub repeat_read : k ≡ kind.Repeat → after_kind d k p ts ≡ over d spec.after_repeat ts
  unfolding after_kind
  repeat_read e = by_kind kind.Repeat e

  pub do_read : k ≡ kind.Do → after_kind d k p ts ≡ over d spec.after_do ts
  unfolding after_kind
  do_read e = by_kind kind.Do e

pub ruleset kind_rules = (break_read, goto_read, label_read, paren_read, local_read, if_read, for_read, function_read, while_read, repeat_read, do_read)
