-- The tokens with which something is written, and then these.
use Rattle.std.specs.Prelude.{List, [], ◌∷◌, Option, Some, None}
use Rattle.lua_tokens.specs.declared.place.Place.{Place}
use Rattle.lua_tokens.specs.declared.token.Token.{Token}
use Rattle.lua_tokens.specs.declared.token.Lexeme.{Lexeme}
use Rattle.lua_tokens.specs.declared.token.Lexeme.TheVariants as l
use Rattle.lua_tokens.specs.declared.sign.Sign.TheVariants as s
use Rattle.lua_tokens.specs.declared.word.Word.TheVariants as w
use Rattle.lua_grammar.specs.Tokens.{token, sign, word, name, text, op_lexeme, unary_lexeme, const_name}
use Rattle.lua_grammar.specs.Written.{Atom, nil, yes, no, int, quote, dots, Separator, comma, semicolon, MoreParams, end_params, more_dots, more_param, Params, no_params, only_dots, params, Names, end_names, more_names, Attrib, no_attrib, const, Declared, end_declared, more_declared, Colon, no_colon, colon, Exp, atom, function, variable, group, field, item, call, method, table, unary, binary, Args, listed, braced, quoted, Exps, none, some, Tail, end_tail, more, Fields, no_fields, last_field, more_fields, Field, single, titled, keyed, Body, body, Stats, empty, stat, answer, Stat, skip, assign, run, leave, jump, label, nest, loop, repeat, branch, count, each, define, define_local, declare, Arms, over, otherwise, further, Step, no_step, step, Values, no_values, values}

abbrev pub atom_lexeme : Atom → Lexeme
atom_lexeme nil = l.Word w.Nil
atom_lexeme yes = l.Word w.True
atom_lexeme no = l.Word w.False
atom_lexeme (int n) = l.Int n
atom_lexeme (quote t) = l.Text t
atom_lexeme dots = l.Sign s.DotDotDot

abbrev pub separator_lexeme : Separator → Lexeme
separator_lexeme comma = l.Sign s.Comma
separator_lexeme semicolon = l.Sign s.Semicolon

abbrev pub spell_more_params : MoreParams → List Token → List Token
spell_more_params end_params k = k
spell_more_params (more_dots p q) k = sign s.Comma p ∷ sign s.DotDotDot q ∷ k
spell_more_params (more_param p n q ps) k = sign s.Comma p ∷ name n q ∷ spell_more_params ps k

abbrev pub spell_params : Params → List Token → List Token
spell_params no_params k = k
spell_params (only_dots p) k = sign s.DotDotDot p ∷ k
spell_params (params n p ps) k = name n p ∷ spell_more_params ps k

abbrev pub spell_names : Names → List Token → List Token
spell_names end_names k = k
spell_names (more_names p n q ns) k = sign s.Comma p ∷ name n q ∷ spell_names ns k

abbrev pub spell_attrib : Attrib → List Token → List Token
spell_attrib no_attrib k = k
spell_attrib (const p q r) k = sign s.Less p ∷ name const_name q ∷ sign s.Greater r ∷ k

abbrev pub spell_declared : Declared → List Token → List Token
spell_declared end_declared k = k
spell_declared (more_declared p n q a ds) k =
    sign s.Comma p ∷ name n q ∷ spell_attrib a (spell_declared ds k)

abbrev pub spell_colon : Colon → List Token → List Token
spell_colon no_colon k = k
spell_colon (colon p n q) k = sign s.Colon p ∷ name n q ∷ k

abbrev pub spell_semicolon : Option Place → List Token → List Token
spell_semicolon None k = k
spell_semicolon (Some p) k = sign s.Semicolon p ∷ k

abbrev mutual
  pub spell : Exp → List Token → List Token
  spell (atom a p) k = token (atom_lexeme a) p ∷ k
  spell (function p b) k = word w.Function p ∷ spell_body b k
  spell (variable n p) k = name n p ∷ k
  spell (group p e q) k = sign s.OpenParen p ∷ spell e (sign s.CloseParen q ∷ k)
  spell (field e p n q) k = spell e (sign s.Dot p ∷ name n q ∷ k)
  spell (item e p x q) k = spell e (sign s.OpenBracket p ∷ spell x (sign s.CloseBracket q ∷ k))
  spell (call e a) k = spell e (spell_args a k)
  spell (method e p n q a) k = spell e (sign s.Colon p ∷ name n q ∷ spell_args a k)
  spell (table p fs q) k = sign s.OpenBrace p ∷ spell_fields fs (sign s.CloseBrace q ∷ k)
  spell (unary op p e) k = token (unary_lexeme op) p ∷ spell e k
  spell (binary op p x y) k = spell x (token (op_lexeme op) p ∷ spell y k)

  pub spell_args : Args → List Token → List Token
  spell_args (listed p es q) k = sign s.OpenParen p ∷ spell_exps es (sign s.CloseParen q ∷ k)
  spell_args (braced p fs q) k = sign s.OpenBrace p ∷ spell_fields fs (sign s.CloseBrace q ∷ k)
  spell_args (quoted t p) k = text t p ∷ k

  pub spell_exps : Exps → List Token → List Token
  spell_exps none k = k
  spell_exps (some e es) k = spell e (spell_tail es k)

  pub spell_tail : Tail → List Token → List Token
  spell_tail end_tail k = k
  spell_tail (more p e es) k = sign s.Comma p ∷ spell e (spell_tail es k)

  pub spell_fields : Fields → List Token → List Token
  spell_fields no_fields k = k
  spell_fields (last_field f) k = spell_field f k
  spell_fields (more_fields f x p fs) k =
      spell_field f (token (separator_lexeme x) p ∷ spell_fields fs k)

  pub spell_field : Field → List Token → List Token
  spell_field (single e) k = spell e k
  spell_field (titled n p q e) k = name n p ∷ sign s.Equal q ∷ spell e k
  spell_field (keyed p x q r e) k =
      sign s.OpenBracket p ∷ spell x (sign s.CloseBracket q ∷ sign s.Equal r ∷ spell e k)

  pub spell_body : Body → List Token → List Token
  spell_body (body p ps q ss r) k =
      sign s.OpenParen p ∷ spell_params ps (sign s.CloseParen q ∷ spell_stats ss (word w.End r ∷ k))

  pub spell_stats : Stats → List Token → List Token
  spell_stats empty k = k
  spell_stats (stat x ss) k = spell_stat x (spell_stats ss k)
  spell_stats (answer p es m) k = word w.Return p ∷ spell_exps es (spell_semicolon m k)

  pub spell_stat : Stat → List Token → List Token
  spell_stat (skip p) k = sign s.Semicolon p ∷ k
  spell_stat (assign t ts p e es) k =
      spell t (spell_tail ts (sign s.Equal p ∷ spell e (spell_tail es k)))
  spell_stat (run e) k = spell e k
  spell_stat (leave p) k = word w.Break p ∷ k
  spell_stat (jump p n q) k = word w.Goto p ∷ name n q ∷ k
  spell_stat (label p n q r) k = sign s.ColonColon p ∷ name n q ∷ sign s.ColonColon r ∷ k
  spell_stat (nest p ss q) k = word w.Do p ∷ spell_stats ss (word w.End q ∷ k)
  spell_stat (loop p e q ss r) k =
      word w.While p ∷ spell e (word w.Do q ∷ spell_stats ss (word w.End r ∷ k))
  spell_stat (repeat p ss q e) k = word w.Repeat p ∷ spell_stats ss (word w.Until q ∷ spell e k)
  spell_stat (branch p e q ss arms) k =
      word w.If p ∷ spell e (word w.Then q ∷ spell_stats ss (spell_arms arms k))
  spell_stat (count p n q r from x to by y ss z) k =
      word w.For p ∷ name n q ∷ sign s.Equal r
      ∷ spell from (sign s.Comma x ∷ spell to
      (spell_step by (word w.Do y ∷ spell_stats ss (word w.End z ∷ k))))
  spell_stat (each p n q ns r e es x ss y) k =
      word w.For p ∷ name n q ∷ spell_names ns
      (word w.In r ∷ spell e (spell_tail es (word w.Do x ∷ spell_stats ss (word w.End y ∷ k))))
  spell_stat (define p e c b) k = word w.Function p ∷ spell e (spell_colon c (spell_body b k))
  spell_stat (define_local p q n r b) k =
      word w.Local p ∷ word w.Function q ∷ name n r ∷ spell_body b k
  spell_stat (declare p n q a ds vs) k =
      word w.Local p ∷ name n q ∷ spell_attrib a (spell_declared ds (spell_values vs k))

  pub spell_arms : Arms → List Token → List Token
  spell_arms (over p) k = word w.End p ∷ k
  spell_arms (otherwise p ss q) k = word w.Else p ∷ spell_stats ss (word w.End q ∷ k)
  spell_arms (further p e q ss arms) k =
      word w.Elseif p ∷ spell e (word w.Then q ∷ spell_stats ss (spell_arms arms k))

  pub spell_step : Step → List Token → List Token
  spell_step no_step k = k
  spell_step (step p e) k = sign s.Comma p ∷ spell e k

  pub spell_values : Values → List Token → List Token
  spell_values no_values k = k
  spell_values (values p e es) k = sign s.Equal p ∷ spell e (spell_tail es k)

-- what the first of the tokens is
abbrev pub first : List Token → Option Lexeme
first [] = None
first (x ∷ xs) = Some x.what
