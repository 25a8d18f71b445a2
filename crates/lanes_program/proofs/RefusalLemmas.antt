-- A script that the input gave and that is refused.
use Rattle.std.proofs.Common.{◌≡◌, refl, ap, sym, subst, List, [], ◌∷◌, ℕ, Vec, Global, Result, Ok, Err}
use Rattle.std.specs.declared.option.Option.{Option}
use Rattle.std.specs.declared.option.Option.TheVariants.{Some, None}
use Rattle.std.specs.Option.{MatchOption}
use Rattle.lanes_program.specs.declared.refusal.Refusal.{Refusal}
use Rattle.lanes_program.specs.declared.refusal.Refusal.TheVariants.{TooLong, Lexical, Grammatical, Scoped}
use Rattle.lua_tokens.specs.declared.token.Token.{Token}
use Rattle.lua_tokens.specs.declared.token.Lexeme.{Lexeme}
use Rattle.lua_tokens.specs.declared.token.Lexeme.TheVariants as lexeme
use Rattle.lua_lexer.specs.Tokens as lexer
use Rattle.lua_lexer.specs.Tokens.{Mark, LexesFrom, Lexes, past_first}
use Rattle.lua_lexer.specs.View.{lex, marks}
use Rattle.lua_grammar.specs.Tokens.{finish}
use Rattle.lua_parser.specs.Answers.{EndsWithEnd, Answers}
use Rattle.lua_tree.specs.declared.stat.Tree.{Tree}
use Rattle.lua_program.specs.declared.program.Program.{Program}
use Rattle.lua_scope.specs.Stands.{IsSpelled, Stands}
use Rattle.lanes_program.specs.Finish.{IsProgramOf}
use Rattle.lua_scope.specs.declared.fault.ScopeFault.{ScopeFault}
use Rattle.lua_scope.specs.declared.fault.ScopeFault.TheVariants as scope
use Rattle.lua_scope.specs.Rules.{Tells, broken}
use Rattle.lanes_program.specs.declared.run.End.{End}
use Rattle.lanes_program.specs.declared.run.End.TheVariants as end
use Rattle.lanes_program.specs.Reading.{GaveScript}
use Rattle.lanes_program.specs.Refusals.{IsParsed, IsUnscoped, Refuses, IsRefused}

pub refused_here : (old new : Option (List ℕ)) (script : List ℕ) (refusal : Refusal) → GaveScript old new script → Refuses script refusal → IsRefused old new refusal
refused_here old new script TooLong gave refuses = absurd refuses
refused_here old new script (Lexical fault) gave refuses = (script, gave, refuses)
refused_here old new script (Grammatical fault bytes) gave refuses = (script, gave, refuses)
refused_here old new script (Scoped fault) gave refuses = (script, gave, refuses)

-- ---- rules of scope

pub told : (first : Option ScopeFault) (fault : ScopeFault) → Tells {X = Program} first (Err fault) → (fault ≡ scope.Memory → ⊥) → first ≡ Some fault
told first fault h other = h other

abbrev parsed_script : (script : List ℕ) (tokens : List Token) (tree : Tree) → Lexes script (marks tokens) → Answers tokens (Ok tree) → IsParsed script
parsed_script script tokens tree lexes answers = record { tokens = tokens; tree = tree; lexes = lexes; spells = answers.0; shallow = answers.1 }

pub program_here : (script name : List ℕ) (tokens : List Token) (tree : Tree) (program : Program) → Lexes script (marks tokens) → Answers tokens (Ok tree) → (IsSpelled tree → Stands program name tree) → IsProgramOf script name program
program_here script name tokens tree program lexes answers stands = record {
  parsed = parsed_script script tokens tree lexes answers;
  stands = stands (tokens, answers.0);
}

pub scoped_here : (script : List ℕ) (tokens : List Token) (tree : Tree) (refusal : Refusal) → Lexes script (marks tokens) → Answers tokens (Ok tree) → (fault : ScopeFault) × (refusal ≡ Scoped fault) × (broken tree ≡ Some fault) → Refuses script refusal
scoped_here script tokens tree refusal lexes answers h =
    subst (Refuses script) (sym h.1) (record { parsed = parsed_script script tokens tree lexes answers; breaks = h.2 })

-- ---- tokens end with the end of the script

is_end : (what : Lexeme) → lex what ≡ lexer.finish → what ≡ lexeme.End
is_end lexeme.End e = refl
is_end (lexeme.Name n) e = cc
is_end (lexeme.Int n) e = cc
is_end (lexeme.Text n) e = cc
is_end (lexeme.Word n) e = cc
is_end (lexeme.Sign n) e = cc

last_token : (t : Token) → t.what ≡ lexeme.End → t ≡ finish t.place
last_token t e = ap (λ (z : Lexeme). record { what = z; place = t.place }) e

ends_from : (script bs : List ℕ) (ts : List Token) → LexesFrom script bs (marks ts) → EndsWithEnd ts
ends_from script bs [] h = absurd h
ends_from script bs (t ∷ []) h = ([], t.place, ap (λ z. z ∷ []) (last_token t (is_end t.what (ap (λ (m : Mark). m.what) h.placed))))
ends_from script bs (t ∷ u ∷ ts) h = further (ends_from script h.0 (u ∷ ts) h.2)
  where
    further : EndsWithEnd (u ∷ ts) → EndsWithEnd (t ∷ u ∷ ts)
    further e = (t ∷ e.0, e.1, ap (λ z. t ∷ z) e.2)

pub tokens_end : (script : List ℕ) (ts : List Token) → Lexes script (marks ts) → EndsWithEnd ts
tokens_end script ts h = ends_from script (past_first script) ts h
