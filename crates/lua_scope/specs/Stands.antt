-- A program stands for a tree: some tokens spell the tree, no rule of scope is broken in it, and
-- the program has its statements and expressions, with each name replaced by the slot, the capture
-- or the global that follows from what it refers to by visibility, each goto with its target, each
-- function body by its number and each text beside its place.
use Rattle.std.specs.Prelude.{◌≡◌, ℕ, List, None}
use Rattle.lua_tokens.specs.declared.token.Token.{Token}
use Rattle.lua_tree.specs.declared.stat.Tree.{Tree}
use Rattle.lua_grammar.specs.Grammar.{Spells}
use Rattle.lua_program.specs.declared.program.Program.{Program}
use Rattle.lua_scope.specs.Binding.{bindings_of}
use Rattle.lua_scope.specs.Resolved.{program_of}
use Rattle.lua_scope.specs.Rules.{broken}

abbrev pub IsSpelled : Tree → Type 0
IsSpelled tree = (tokens : List Token) × Spells tree tokens

-- under this name the program has what the tree has, with names bound
abbrev pub HasBodies : Program → List ℕ → Tree → Type 0
HasBodies program name tree = program ≡ program_of (bindings_of tree) name tree

abbrev pub Stands : Program → List ℕ → Tree → Type 0
Stands program name tree =
    IsSpelled tree × (broken tree ≡ None) × HasBodies program name tree
