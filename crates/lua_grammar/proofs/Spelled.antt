-- The tokens of what is written, with others after them.
use Rattle.std.proofs.Common.{◌≡◌, refl, ◌∙◌, ap, List, ◌∷◌, ◌++◌, Option, Some, None}
use Rattle.lua_tokens.specs.declared.place.Place.{Place}
use Rattle.lua_tokens.specs.declared.token.Token.{Token}
use Rattle.lua_tokens.specs.declared.sign.Sign.TheVariants as s
use Rattle.lua_tokens.specs.declared.word.Word.TheVariants as w
use Rattle.lua_grammar.specs.Tokens.{token, sign, word, name, op_lexeme, unary_lexeme}
use Rattle.lua_grammar.specs.Written.{MoreParams, end_params, more_dots, more_param, Params, no_params, only_dots, params, Names, end_names, more_names, Attrib, no_attrib, const, Declared, end_declared, more_declared, Colon, no_colon, colon, Exp, atom, function, variable, group, field, item, call, method, table, unary, binary, Args, listed, braced, quoted, Exps, none, some, Tail, end_tail, more, Fields, no_fields, last_field, more_fields, Field, single, titled, keyed, Body, body, Stats, empty, stat, answer, Stat, skip, assign, run, leave, jump, label, nest, loop, repeat, branch, count, each, define, define_local, declare, Arms, over, otherwise, further, Step, no_step, step, Values, no_values, values}
use Rattle.lua_grammar.specs.Spelling.{separator_lexeme, spell_more_params, spell_params, spell_names, spell_attrib, spell_declared, spell_colon, spell_semicolon, spell, spell_args, spell_exps, spell_tail, spell_fields, spell_field, spell_body, spell_stats, spell_stat, spell_arms, spell_step, spell_values}

-- what puts tokens before others
abbrev pub Opens : (List Token → List Token) → Type 0
Opens f = (u v : List Token) → f (u ++ v) ≡ f u ++ v

pub opens_token : (x : Token) → Opens (λ z. x ∷ z)
opens_token x u v = refl

pub opens_then : (f g : List Token → List Token) → Opens f → Opens g → Opens (λ z. f (g z))
opens_then f g hf hg u v = ap f (hg u v) ∙ hf (g u) v

pub opens_none : Opens (λ z. z)
opens_none u v = refl

pub more_params_app : (x : MoreParams) → Opens (spell_more_params x)
more_params_app end_params u v = refl
more_params_app (more_dots p q) u v = refl
more_params_app (more_param p n q ps) u v = ap (λ z. sign s.Comma p ∷ name n q ∷ z) (more_params_app ps u v)

pub params_app : (x : Params) → Opens (spell_params x)
params_app no_params u v = refl
params_app (only_dots p) u v = refl
params_app (params n p ps) u v = ap (λ z. name n p ∷ z) (more_params_app ps u v)

pub names_app : (x : Names) → Opens (spell_names x)
names_app end_names u v = refl
names_app (more_names p n q ns) u v = ap (λ z. sign s.Comma p ∷ name n q ∷ z) (names_app ns u v)

pub attrib_app : (x : Attrib) → Opens (spell_attrib x)
attrib_app no_attrib u v = refl
attrib_app (const p q r) u v = refl

pub declared_app : (x : Declared) → Opens (spell_declared x)
declared_app end_declared u v = refl
declared_app (more_declared p n q a ds) u v = ap (λ z. sign s.Comma p ∷ name n q ∷ z) (ap (spell_attrib a) (declared_app ds u v) ∙ attrib_app a (spell_declared ds u) v)

pub colon_app : (x : Colon) → Opens (spell_colon x)
colon_app no_colon u v = refl
colon_app (colon p n q) u v = refl

pub semicolon_app : (x : Option Place) → Opens (spell_semicolon x)
semicolon_app None u v = refl
semicolon_app (Some p) u v = refl

mutual
  pub spell_app : (e : Exp) → Opens (spell e)
  spell_app (atom a p) u v = refl
  spell_app (function p b) u v = ap (λ z. word w.Function p ∷ z) (body_app b u v)
  spell_app (variable n p) u v = refl
  spell_app (group p e q) u v = ap (λ z. sign s.OpenParen p ∷ z) (spell_app e (sign s.CloseParen q ∷ u) v)
  spell_app (field e p n q) u v = spell_app e (sign s.Dot p ∷ name n q ∷ u) v
  spell_app (item e p x q) u v =
      ap (λ z. spell e (sign s.OpenBracket p ∷ z)) (spell_app x (sign s.CloseBracket q ∷ u) v) ∙ spell_app e (sign s.OpenBracket p ∷ spell x (sign s.CloseBracket q ∷ u)) v
  spell_app (call e a) u v = ap (spell e) (args_app a u v) ∙ spell_app e (spell_args a u) v
  spell_app (method e p n q a) u v = ap (λ z. spell e (sign s.Colon p ∷ name n q ∷ z)) (args_app a u v) ∙ spell_app e (sign s.Colon p ∷ name n q ∷ spell_args a u) v
  spell_app (table p fs q) u v = ap (λ z. sign s.OpenBrace p ∷ z) (fields_app fs (sign s.CloseBrace q ∷ u) v)
  spell_app (unary op p e) u v = ap (λ z. token (unary_lexeme op) p ∷ z) (spell_app e u v)
  spell_app (binary op p x y) u v = ap (λ z. spell x (token (op_lexeme op) p ∷ z)) (spell_app y u v) ∙ spell_app x (token (op_lexeme op) p ∷ spell y u) v

  pub args_app : (a : Args) → Opens (spell_args a)
  args_app (listed p es q) u v = ap (λ z. sign s.OpenParen p ∷ z) (exps_app es (sign s.CloseParen q ∷ u) v)
  args_app (braced p fs q) u v = ap (λ z. sign s.OpenBrace p ∷ z) (fields_app fs (sign s.CloseBrace q ∷ u) v)
  args_app (quoted t p) u v = refl

  pub exps_app : (es : Exps) → Opens (spell_exps es)
  exps_app none u v = refl
  exps_app (some e es) u v = ap (spell e) (tail_app es u v) ∙ spell_app e (spell_tail es u) v

  pub tail_app : (es : Tail) → Opens (spell_tail es)
  tail_app end_tail u v = refl
  tail_app (more p e es) u v = ap (λ z. sign s.Comma p ∷ z) (ap (spell e) (tail_app es u v) ∙ spell_app e (spell_tail es u) v)

  pub fields_app : (fs : Fields) → Opens (spell_fields fs)
  fields_app no_fields u v = refl
  fields_app (last_field f) u v = field_app f u v
  fields_app (more_fields f x p fs) u v = ap (λ z. spell_field f (token (separator_lexeme x) p ∷ z)) (fields_app fs u v) ∙ field_app f (token (separator_lexeme x) p ∷ spell_fields fs u) v

  pub field_app : (f : Field) → Opens (spell_field f)
  field_app (single e) u v = spell_app e u v
  field_app (titled n p q e) u v = ap (λ z. name n p ∷ sign s.Equal q ∷ z) (spell_app e u v)
  field_app (keyed p x q r e) u v =
      ap (λ z. sign s.OpenBracket p ∷ z)
      (ap (λ z. spell x (sign s.CloseBracket q ∷ sign s.Equal r ∷ z)) (spell_app e u v) ∙ spell_app x (sign s.CloseBracket q ∷ sign s.Equal r ∷ spell e u) v)

  pub body_app : (b : Body) → Opens (spell_body b)
  body_app (body p ps q ss r) u v =
      ap (λ z. sign s.OpenParen p ∷ z)
      (ap (λ z. spell_params ps (sign s.CloseParen q ∷ z)) (stats_app ss (word w.End r ∷ u) v) ∙ params_app ps (sign s.CloseParen q ∷ spell_stats ss (word w.End r ∷ u)) v)

  pub stats_app : (ss : Stats) → Opens (spell_stats ss)
  stats_app empty u v = refl
  stats_app (stat x ss) u v = ap (spell_stat x) (stats_app ss u v) ∙ stat_app x (spell_stats ss u) v
  stats_app (answer p es m) u v = ap (λ z. word w.Return p ∷ z) (ap (spell_exps es) (semicolon_app m u v) ∙ exps_app es (spell_semicolon m u) v)

  pub stat_app : (x : Stat) → Opens (spell_stat x)
  stat_app (skip p) u v = refl
  stat_app (assign t ts p e es) u v =
      ap (λ z. spell t (spell_tail ts (sign s.Equal p ∷ z))) (ap (spell e) (tail_app es u v) ∙ spell_app e (spell_tail es u) v)
      ∙ ap (spell t) (tail_app ts (sign s.Equal p ∷ spell e (spell_tail es u)) v) ∙ spell_app t (spell_tail ts (sign s.Equal p ∷ spell e (spell_tail es u))) v
  stat_app (run e) u v = spell_app e u v
  stat_app (leave p) u v = refl
  stat_app (jump p n q) u v = refl
  stat_app (label p n q r) u v = refl
  stat_app (nest p ss q) u v = ap (λ z. word w.Do p ∷ z) (stats_app ss (word w.End q ∷ u) v)
  stat_app (loop p e q ss r) u v =
      ap (λ z. word w.While p ∷ z) (ap (λ z. spell e (word w.Do q ∷ z)) (stats_app ss (word w.End r ∷ u) v) ∙ spell_app e (word w.Do q ∷ spell_stats ss (word w.End r ∷ u)) v)
  stat_app (repeat p ss q e) u v =
      ap (λ z. word w.Repeat p ∷ z) (ap (λ z. spell_stats ss (word w.Until q ∷ z)) (spell_app e u v) ∙ stats_app ss (word w.Until q ∷ spell e u) v)
  stat_app (branch p e q ss arms) u v =
      ap (λ z. word w.If p ∷ z)
      (ap (λ z. spell e (word w.Then q ∷ z)) (ap (spell_stats ss) (arms_app arms u v) ∙ stats_app ss (spell_arms arms u) v) ∙ spell_app e (word w.Then q ∷ spell_stats ss (spell_arms arms u)) v)
  stat_app (count p n q r from x to by y ss z) u v =
      ap (λ k. word w.For p ∷ name n q ∷ sign s.Equal r ∷ k)
      (ap (λ k. spell from (sign s.Comma x ∷ k))
      (ap (spell to) (ap (spell_step by) (ap (λ k. word w.Do y ∷ k) (stats_app ss (word w.End z ∷ u) v)) ∙ step_app by (word w.Do y ∷ spell_stats ss (word w.End z ∷ u)) v)
      ∙ spell_app to (spell_step by (word w.Do y ∷ spell_stats ss (word w.End z ∷ u))) v)
      ∙ spell_app from (sign s.Comma x ∷ spell to (spell_step by (word w.Do y ∷ spell_stats ss (word w.End z ∷ u)))) v)
  stat_app (each p n q ns r e es x ss y) u v =
      ap (λ k. word w.For p ∷ name n q ∷ k)
      (ap (λ k. spell_names ns (word w.In r ∷ k))
      (ap (spell e) (ap (spell_tail es) (ap (λ k. word w.Do x ∷ k) (stats_app ss (word w.End y ∷ u) v)) ∙ tail_app es (word w.Do x ∷ spell_stats ss (word w.End y ∷ u)) v)
      ∙ spell_app e (spell_tail es (word w.Do x ∷ spell_stats ss (word w.End y ∷ u))) v)
      ∙ names_app ns (word w.In r ∷ spell e (spell_tail es (word w.Do x ∷ spell_stats ss (word w.End y ∷ u)))) v)
  stat_app (define p e c b) u v =
      ap (λ z. word w.Function p ∷ z) (ap (spell e) (ap (spell_colon c) (body_app b u v) ∙ colon_app c (spell_body b u) v) ∙ spell_app e (spell_colon c (spell_body b u)) v)
  stat_app (define_local p q n r b) u v = ap (λ z. word w.Local p ∷ word w.Function q ∷ name n r ∷ z) (body_app b u v)
  stat_app (declare p n q a ds vs) u v =
      ap (λ z. word w.Local p ∷ name n q ∷ z)
      (ap (spell_attrib a) (ap (spell_declared ds) (values_app vs u v) ∙ declared_app ds (spell_values vs u) v) ∙ attrib_app a (spell_declared ds (spell_values vs u)) v)

  pub arms_app : (x : Arms) → Opens (spell_arms x)
  arms_app (over p) u v = refl
  arms_app (otherwise p ss q) u v = ap (λ z. word w.Else p ∷ z) (stats_app ss (word w.End q ∷ u) v)
  arms_app (further p e q ss arms) u v =
      ap (λ z. word w.Elseif p ∷ z)
      (ap (λ z. spell e (word w.Then q ∷ z)) (ap (spell_stats ss) (arms_app arms u v) ∙ stats_app ss (spell_arms arms u) v) ∙ spell_app e (word w.Then q ∷ spell_stats ss (spell_arms arms u)) v)

  pub step_app : (x : Step) → Opens (spell_step x)
  step_app no_step u v = refl
  step_app (step p e) u v = ap (λ z. sign s.Comma p ∷ z) (spell_app e u v)

  pub values_app : (x : Values) → Opens (spell_values x)
  values_app no_values u v = refl
  values_app (values p e es) u v = ap (λ z. sign s.Equal p ∷ z) (ap (spell e) (tail_app es u v) ∙ spell_app e (spell_tail es u) v)
