-- The blocks of a list of tokens.
use Rattle.std.specs.Prelude.{◌≡◌, List, [], ◌∷◌, ◌++◌, Vec}
use Rattle.std.specs.declared.alloc.Global.{Global}
use Rattle.lua_tokens.specs.declared.token.Token.{Token}

-- the tokens of the blocks, in order
unfoldable pub joined : List (Vec Token Global) → List Token
joined [] = []
joined (block ∷ blocks) = block.items ++ joined blocks

-- each block has tokens
abbrev pub AllFilled : List (Vec Token Global) → Type 0
AllFilled [] = Unit {0}
AllFilled (block ∷ blocks) = (block.items ≡ [] → ⊥) × AllFilled blocks
