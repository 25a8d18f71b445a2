-- The tokens of a script end with its end.
use Rattle.std.proofs.Common.{◌≡◌, refl, ap, List, [], ◌∷◌, ℕ}
use Rattle.lua_tokens.specs.declared.token.Token.{Token}
use Rattle.lua_tokens.specs.declared.token.Lexeme.{Lexeme}
use Rattle.lua_tokens.specs.declared.token.Lexeme.TheVariants as lexeme
use Rattle.lua_lexer.specs.Tokens as lexer
use Rattle.lua_lexer.specs.Tokens.{Mark, LexesFrom, Lexes, past_first}
use Rattle.lua_lexer.specs.View.{lex, marks}
use Rattle.lua_grammar.specs.Tokens.{finish}
use Rattle.lua_parser.specs.Answers.{EndsWithEnd}

is_end : (what : Lexeme) → lex what ≡ lexer.finish → what ≡ lexeme.End
is_end lexeme.End e = refl
is_end (lexeme.Name n) e = cc
is_end (lexeme.Int n) e = cc
is_end (lexeme.Text n) e = cc
is_end (lexeme.Word n) e = cc
is_end (lexeme.Sign n) e = cc

last_token : (t : Token) → t.what ≡ lexeme.End → t ≡ finish t.place
last_token t e = ap (λ (z : Lexeme). record { what = z; place = t.place }) e

ends_from : (script bs : List ℕ) (ts : List Token) → LexesFrom script bs (marks ts) → EndsWithEnd ts
ends_from script bs [] h = absurd h
ends_from script bs (t ∷ []) h = ([], t.place, ap (λ z. z ∷ []) (last_token t (is_end t.what (ap (λ (m : Mark). m.what) h.placed))))
ends_from script bs (t ∷ u ∷ ts) h = further (ends_from script h.0 (u ∷ ts) h.2)
  where
    further : EndsWithEnd (u ∷ ts) → EndsWithEnd (t ∷ u ∷ ts)
    further e = (t ∷ e.0, e.1, ap (λ z. t ∷ z) e.2)

pub tokens_end : (script : List ℕ) (ts : List Token) → Lexes script (marks ts) → EndsWithEnd ts
tokens_end script ts h = ends_from script (past_first script) ts h
