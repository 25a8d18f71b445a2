-- What a function of the parser ensures.
use Rattle.std.specs.Prelude.{◌≡◌, List, Result, Ok, Err}
use Rattle.lua_tokens.specs.declared.token.Token.{Token}
use Rattle.lua_grammar.specs.Input.{Outcome, Why, bad, deep, attribute}
use Rattle.lua_parser.specs.declared.stop.Stop.{Stop}
use Rattle.lua_parser.specs.declared.stop.Stop.TheVariants as e

-- It answers what the reader of tokens answers, unless memory runs out. At a refusal the cursor
-- stands at the refused token.
abbrev pub Reads : {A : Type 0} → Outcome A → Result A Stop → List Token → Type 0
Reads outcome (Ok x) new = outcome ≡ Ok (x, new)
Reads outcome (Err e.Bad) new = outcome ≡ Err (bad, new)
Reads outcome (Err e.Deep) new = outcome ≡ Err (deep, new)
Reads outcome (Err e.Attribute) new = outcome ≡ Err (attribute, new)
Reads outcome (Err e.Memory) new = Unit {0}

-- why a token is refused
abbrev pub why_of : Stop → Why
why_of e.Bad = bad
why_of e.Deep = deep
why_of e.Attribute = attribute
why_of e.Memory = bad
