-- What the parser answers: the tree that the tokens spell, or at which token they are no longer a
-- script, and why.
use Rattle.std.specs.Prelude.{◌≡◌, ◌≤◌, ◌⊎◌, List, [], ◌∷◌, ◌++◌, Option, Some, None, Result, Ok, Err}
use Rattle.lua_tokens.specs.declared.place.Place.{Place}
use Rattle.lua_tokens.specs.declared.token.Token.{Token}
use Rattle.lua_tokens.specs.declared.token.Lexeme.{Lexeme}
use Rattle.lua_tokens.specs.declared.token.Lexeme.TheVariants as l
use Rattle.lua_tokens.specs.declared.sign.Sign.TheVariants as s
use Rattle.lua_tree.specs.declared.stat.Tree.{Tree}
use Rattle.lua_grammar.specs.Tokens.{finish}
use Rattle.lua_grammar.specs.Depth.{depth_of}
use Rattle.lua_grammar.specs.Grammar.{Spells, IsRefused, IsDeeper, IsAttribute}
use Rattle.lua_grammar.specs.Input.{Why, bad, deep, attribute}
use Rattle.lua_parser.specs.declared.script.TheConstants.{DEEPEST}
use Rattle.lua_parser.specs.declared.fault.ParseFault.{ParseFault}
use Rattle.lua_parser.specs.declared.fault.ParseFault.TheVariants.{Unexpected, FloatOperator, TooDeep, BadAttribute, Memory}

-- the last of the tokens is the end of a script
abbrev pub EndsWithEnd : List Token → Type 0
EndsWithEnd tokens = (before : List Token) × (last : Place) × (tokens ≡ before ++ finish last ∷ [])

-- ---- why a token is refused

-- `/` or `^`
abbrev pub IsFloatOperator : Token → Type 0
IsFloatOperator x = (x.what ≡ l.Sign s.Slash) ⊎ (x.what ≡ l.Sign s.Caret)

-- The kind of a fault is the first that fits the refused token after those before it: a deeper
-- script goes on with it, or it is an operator of floats, or stands where an attribute has to, or
-- none of these.
abbrev pub IsKind : ParseFault → List Token → Token → Type 0
IsKind (TooDeep place) before refused = IsDeeper before refused
IsKind (FloatOperator place) before refused = ¬ IsDeeper before refused × IsFloatOperator refused
IsKind (BadAttribute place) before refused =
    ¬ IsDeeper before refused × IsAttribute before DEEPEST refused
IsKind (Unexpected place) before refused =
    ¬ IsDeeper before refused × ¬ IsFloatOperator refused × ¬ IsAttribute before DEEPEST refused
IsKind Memory before refused = ⊥

abbrev pub place_of : ParseFault → Option Place
place_of (TooDeep place) = Some place
place_of (FloatOperator place) = Some place
place_of (BadAttribute place) = Some place
place_of (Unexpected place) = Some place
place_of Memory = None

-- The fault is at the first token with which the tokens so far begin no script of the depth that is
-- allowed.
pub record IsFault (tokens : List Token) (fault : ParseFault) : Type 0 where
  pub before : List Token
  pub refused : Token
  pub after : List Token
  pub is : IsRefused tokens DEEPEST before refused after
  pub place : place_of fault ≡ Some refused.place
  pub kind : IsKind fault before refused

-- ---- what is answered

abbrev pub Answers : List Token → Result Tree ParseFault → Type 0
Answers tokens (Ok tree) = Spells tree tokens × (depth_of tree ≤ DEEPEST)
Answers tokens (Err Memory) = Unit {0}
Answers tokens (Err fault) = IsFault tokens fault

-- this tree, unless memory runs out
abbrev pub Finds : Result Tree ParseFault → Tree → Type 0
Finds (Ok tree) it = tree ≡ it
Finds (Err Memory) it = Unit {0}
Finds (Err fault) it = ⊥

-- Tokens have one tree and no fault, or one fault and no tree.
pub data OneAnswer (tokens : List Token) : Type 0 where
  tree : (it : Tree) → Spells it tokens → depth_of it ≤ DEEPEST
      → ((other : Tree) → Spells other tokens → other ≡ it)
      → ((fault : ParseFault) → IsFault tokens fault → ⊥) → OneAnswer tokens
  fault : (it : ParseFault) → IsFault tokens it
      → ((other : ParseFault) → IsFault tokens other → other ≡ it)
      → ((tree : Tree) → Spells tree tokens → depth_of tree ≤ DEEPEST → ⊥) → OneAnswer tokens

-- ---- the fault that a reader's refusal of a token is

abbrev pub lexeme_fault : Lexeme → Place → ParseFault
lexeme_fault (l.Sign s.Slash) place = FloatOperator place
lexeme_fault (l.Sign s.Caret) place = FloatOperator place
lexeme_fault _ place = Unexpected place

abbrev pub fault_of : Why → Token → ParseFault
fault_of deep refused = TooDeep refused.place
fault_of attribute refused = BadAttribute refused.place
fault_of bad refused = lexeme_fault refused.what refused.place
