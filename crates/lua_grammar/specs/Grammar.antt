-- The grammar of Lua (manual, section 9): which tokens spell a tree, and which begin a script.
use Rattle.std.specs.Prelude.{◌≡◌, ℕ, ◌≤◌, List, [], ◌∷◌, ◌++◌}
use Rattle.lua_tokens.specs.declared.place.Place.{Place}
use Rattle.lua_tokens.specs.declared.token.Token.{Token}
use Rattle.lua_tree.specs.declared.stat.Tree.{Tree}
use Rattle.lua_grammar.specs.Tokens.{finish, name, const_name}
use Rattle.lua_grammar.specs.Written.{Bytes, Stats}
use Rattle.lua_grammar.specs.Spelling.{spell_stats}
use Rattle.lua_grammar.specs.Formed.{FormedStats}
use Rattle.lua_grammar.specs.Erasure.{tree_of}
use Rattle.lua_grammar.specs.Depth.{depth_of}

-- Something well formed is written with these tokens, the end of the script last, and the tree is
-- what it shows.
pub record Spells (tree : Tree) (tokens : List Token) : Type 0 where
  pub written : Stats
  pub last : Place
  pub formed : FormedStats written
  pub spelled : spell_stats written (finish last ∷ []) ≡ tokens
  pub shows : tree_of written ≡ tree

-- Some tokens after these make a list that a tree of at most this depth spells.
pub record Viable (tokens : List Token) (depth : ℕ) : Type 0 where
  pub after : List Token
  pub tree : Tree
  pub spells : Spells tree (tokens ++ after)
  pub shallow : depth_of tree ≤ depth

-- The first token with which the tokens so far are no longer viable.
pub record IsRefused (tokens : List Token) (depth : ℕ) (before : List Token) (refused : Token)
    (after : List Token) : Type 0 where
  pub is : tokens ≡ before ++ refused ∷ after
  pub viable : Viable before depth
  pub not_viable : Viable (before ++ refused ∷ []) depth → ⊥

-- With the refused token they begin a script that is deeper.
abbrev pub IsDeeper : List Token → Token → Type 0
IsDeeper before refused = (depth : ℕ) × Viable (before ++ refused ∷ []) depth

-- The refused token is a name that stands for an attribute: with the name `const` in its place they
-- begin a script.
pub record IsAttribute (before : List Token) (depth : ℕ) (refused : Token) : Type 0 where
  pub text : Bytes
  pub place : Place
  pub is : refused ≡ name text place
  pub viable : Viable (before ++ name const_name place ∷ []) depth
