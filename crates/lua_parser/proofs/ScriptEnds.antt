-- How a script is read: its block, its end, and nothing more.
use Rattle.std.proofs.Common.{◌≡◌, refl, ◌∙◌, ap, true, List, [], ◌∷◌, Some, None, Ok, Err}
use Rattle.lua_tokens.specs.declared.place.Place.{Place}
use Rattle.lua_tokens.specs.declared.token.Token.{Token}
use Rattle.lua_tokens.specs.declared.token.Lexeme.TheVariants as l
use Rattle.lua_tree.specs.declared.stat.Stat.{Stat}
use Rattle.lua_grammar.specs.declared.measured.Measured.{Measured}
use Rattle.lua_grammar.specs.Input.{Why, bad, and_then, refuse}
use Rattle.lua_grammar.specs.Erasure.{block_of}
use Rattle.lua_grammar.specs.Statements.{parts, nothing_more, whole, script}
use Rattle.lua_parser.specs.Looks.{rest, place_of}
use Rattle.lua_parser.proofs.Steps.{is_hit, is_miss}

-- ---- behind the block

module _ (b : Measured (List Stat)) where
  whole_ended : (ts : List Token) (p : Place) → place_of l.End ts ≡ Some p → whole b ts ≡ nothing_more b (rest ts)
  whole_ended ts p e = is_hit l.End true (λ _ _. nothing_more b) refuse ts p e refl

  pub whole_open : (ts : List Token) → place_of l.End ts ≡ None → whole b ts ≡ Err (bad, ts)
  whole_open ts e = is_miss l.End true (λ _ _. nothing_more b) refuse ts e

  ends : (us : List Token) → us ≡ [] → nothing_more b us ≡ Ok (record { block = block_of b.what }, us)
  ends [] e = refl
  ends (x ∷ us) e = cc

  goes_on : (us : List Token) → (us ≡ [] → ⊥) → nothing_more b us ≡ Err (bad, us)
  goes_on [] n = absurd (n refl)
  goes_on (x ∷ us) n = refl

  -- the end and nothing more
  pub whole_read : (ts : List Token) (p : Place) → place_of l.End ts ≡ Some p → rest ts ≡ [] → whole b ts ≡ Ok (record { block = block_of b.what }, rest ts)
  whole_read ts p e h = whole_ended ts p e ∙ ends (rest ts) h

  -- something behind the end
  pub whole_more : (ts : List Token) (p : Place) → place_of l.End ts ≡ Some p → (rest ts ≡ [] → ⊥) → whole b ts ≡ Err (bad, rest ts)
  whole_more ts p e n = whole_ended ts p e ∙ goes_on (rest ts) n

pub ruleset whole_rules = (whole_read, whole_more, whole_open)

-- ---- the block

module _ (ts : List Token) where
  pub script_block : (b : Measured (List Stat)) (us : List Token) → (parts 60).block ts ≡ Ok (b, us) → script 60 ts ≡ whole b us
  unfolding script
  script_block b us e = ap (λ r. and_then r whole) e

  pub script_refused : (why : Why) (us : List Token) → (parts 60).block ts ≡ Err (why, us) → script 60 ts ≡ Err (why, us)
  unfolding script
  script_refused why us e = ap (λ r. and_then r whole) e

pub ruleset script_rules = (script_block, script_refused)
