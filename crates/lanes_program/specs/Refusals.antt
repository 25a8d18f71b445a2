-- Why a script is refused, and the line on the errors that says so.
use Rattle.std.specs.Prelude.{◌≡◌, ◌≤◌, ℕ, List, [], ◌∷◌, ◌++◌, codes, drop, Option, Some, None, Bool, true, false, ◌==◌, if◌then◌else◌}
use Rattle.std.specs.Fmt.{decimal}
use Rattle.lua_lexer.specs.declared.fault.LexFault.{LexFault}
use Rattle.lua_lexer.specs.declared.fault.LexFault.TheVariants.{TooLong as Longer, Memory}
use Rattle.lua_lexer.specs.Faults.{fault_line, fault_text}
use Rattle.lua_lexer.specs.Tokens.{Lexes, SpelledAt}
use Rattle.lua_lexer.specs.View.{marks, IsFault}
use Rattle.lua_tokens.specs.declared.place.Place.{Place}
use Rattle.lua_tokens.specs.declared.token.Token.{Token}
use Rattle.lua_tree.specs.declared.stat.Tree.{Tree}
use Rattle.lua_grammar.specs.Depth.{depth_of}
use Rattle.lua_grammar.specs.Grammar.{Spells}
use Rattle.lua_parser.specs.declared.fault.ParseFault.{ParseFault}
use Rattle.lua_parser.specs.Faults.{fault_line as grammar_line, fault_text as grammar_text}
use Rattle.lua_parser.specs.Answers as grammar
use Rattle.lua_scope.specs.declared.fault.ScopeFault.{ScopeFault}
use Rattle.lua_scope.specs.Faults.{line_of, text_of}
use Rattle.lua_scope.specs.Rules.{broken}
use Rattle.lanes_program.specs.declared.refusal.Refusal.{Refusal}
use Rattle.lanes_program.specs.declared.refusal.Refusal.TheVariants.{TooLong, Lexical, Grammatical, Scoped}
use Rattle.lanes_program.specs.Reading.{GaveScript, GaveTooMuch}

-- the fault is at a place of the script
abbrev pub has_place : LexFault → Bool
has_place Longer = false
has_place Memory = false
has_place _ = true

-- how the line goes on after the script's name
abbrev pub refusal_text : Refusal → List ℕ
refusal_text TooLong = codes ": script too long"
refusal_text (Lexical fault) =
    codes ":" ++ (decimal (fault_line fault) ++ (codes ": " ++ fault_text fault))
refusal_text (Grammatical fault token) =
    codes ":" ++ (decimal (grammar_line fault) ++ (codes ": " ++ grammar_text fault token))
refusal_text (Scoped fault) =
    codes ":" ++ (decimal (line_of fault) ++ (codes ": " ++ text_of fault))

abbrev pub refusal_line : List ℕ → Refusal → List ℕ
refusal_line name refusal = codes "lanes: " ++ (name ++ (refusal_text refusal ++ codes "\n"))

-- the word is a dash
abbrev pub is_dash : List ℕ → Bool
is_dash [] = false
is_dash (b ∷ []) = b == 45
is_dash (b ∷ c ∷ rest) = false

-- the name that lines give the script
abbrev pub script_name : List ℕ → List ℕ
script_name word = if is_dash word then codes "stdin" else word

-- the tokens of the script spell a tree that is not too deep
pub record IsParsed (script : List ℕ) : Type 0 where
  pub tokens : List Token
  pub tree : Tree
  pub lexes : Lexes script (marks tokens)
  pub spells : Spells tree tokens
  pub shallow : depth_of tree ≤ 60

-- the script is parsed, and this is the first rule of scope that its tree breaks
pub record IsUnscoped (script : List ℕ) (fault : ScopeFault) : Type 0 where
  pub parsed : IsParsed script
  pub breaks : broken parsed.tree ≡ Some fault

-- the tokens of the script have this fault
pub record IsUnparsed (script : List ℕ) (fault : ParseFault) : Type 0 where
  pub tokens : List Token
  pub lexes : Lexes script (marks tokens)
  pub fails : grammar.IsFault tokens fault

-- A script of lawful length has no tokens, with this fault, or its tokens have this fault, at a
-- token with these bytes or at the end, or its tree breaks this rule of scope first.
abbrev pub Refuses : List ℕ → Refusal → Type 0
Refuses script TooLong = ⊥
Refuses script (Lexical fault) = IsFault script fault × (has_place fault ≡ true)
Refuses script (Grammatical fault token) =
    IsUnparsed script fault × ((place : Place) → grammar.place_of fault ≡ Some place
    → SpelledAt (drop place.at script) token)
Refuses script (Scoped fault) = IsUnscoped script fault

-- the input gave a script of lawful length that is refused so, and was read to its end, or it gave
-- more than a script may have
abbrev pub IsRefused : Option (List ℕ) → Option (List ℕ) → Refusal → Type 0
IsRefused old new TooLong = (read : List ℕ) × GaveTooMuch old new read
IsRefused old new refusal = (script : List ℕ) × GaveScript old new script × Refuses script refusal
