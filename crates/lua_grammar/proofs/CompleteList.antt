-- Lists of expressions, arguments, tables and function bodies are read from what spells them, over complete readers of their parts.
use Rattle.std.proofs.Common.{◌≡◌, refl, sym, ◌∙◌, ap, ℕ, ◌+◌, max, ◌≤◌, Bool, true, false, List, [], ◌∷◌, ◌++◌, Option, Some, Ok, arith, append_assoc, append-nil}
use Rattle.lua_tokens.specs.declared.place.Place.{Place}
use Rattle.lua_tokens.specs.declared.token.Token.{Token}
use Rattle.lua_tokens.specs.declared.token.Lexeme.{Lexeme}
use Rattle.lua_tokens.specs.declared.token.Lexeme.TheVariants as l
use Rattle.lua_tokens.specs.declared.sign.Sign.TheVariants as s
use Rattle.lua_tokens.specs.declared.word.Word.TheVariants as w
use Rattle.lua_tree.specs.declared.expr.Expr.{Expr}
use Rattle.lua_tree.specs.declared.expr.ExprKind.TheVariants as kind
use Rattle.lua_tree.specs.declared.expr.Field as declared
use Rattle.lua_tree.specs.declared.expr.Field.TheVariants as fields
use Rattle.lua_grammar.specs.declared.measured.Measured.{Measured}
use Rattle.lua_grammar.specs.declared.measured.Arguments.{Arguments}
use Rattle.lua_grammar.specs.Tokens.{token, sign, word, name}
use Rattle.lua_grammar.specs.Written.{Bytes, Separator, comma, semicolon, MoreParams, end_params, more_dots, more_param, Params, no_params, only_dots, params, Exp, Args, listed, braced, quoted, Exps, none, some, Tail, end_tail, more, Fields, no_fields, last_field, more_fields, Field, single, titled, keyed, Body, body, Stats}
use Rattle.lua_grammar.specs.Spelling.{separator_lexeme, spell_more_params, spell_params, spell, spell_args, spell_exps, spell_tail, spell_fields, spell_field, spell_body, spell_stats, first}
use Rattle.lua_grammar.specs.Formed.{level, ends_in_prefix, list_ends_in_prefix, Formed, FormedArgs, FormedExps, FormedTail, FormedFields, FormedField, FormedBody, FormedStats}
use Rattle.lua_grammar.specs.Erasure.{node, more_params_of, params_of, more_params_dots, params_dots, args_place, expr_of, args_of, exps_of, tail_of, fields_of, field_of, function_of, stats_of}
use Rattle.lua_grammar.specs.Next.{is_sign, a_name}
use Rattle.lua_grammar.specs.Input.{Parser, and_then, on, expect, again, done, many}
use Rattle.lua_grammar.specs.Expressions.{measured, name_leaf, nothing, with_one, only, arguments, Parts, list_turn, more_exprs, list, in_parens, on_args, separated, single_field, named_field, keyed_field, field_turn, table as table_reader, param_turn, parameters, function_body}
use Rattle.lua_grammar.proofs.Heights.{height, args_height, exps_height, tail_height, fields_height, field_height, body_height, stats_height}
use Rattle.lua_grammar.proofs.DepthLaws.{height_pos}
use Rattle.lua_grammar.proofs.Loops.{many_done, many_again}
use Rattle.lua_grammar.proofs.Shorter.{ShorterParts, list_shrinks, field_shrinks, param_shrinks}
use Rattle.lua_grammar.proofs.Complete.{then_ok, expected, in_room, if_so, Lacks, on_lacks, same_measured, no_more, more_of, Parted, Apart, Below, Closer, close_paren, close_bracket, close_brace, comma as a_comma, semicolon as a_semicolon, closer_lexeme, parted_by, below_of, apart_of}
use Rattle.lua_grammar.proofs.Starts.{Starts, starts, start_facts, first_lacks, no_close, after_name}

-- what may follow a block
abbrev pub BlockEnds : Option Lexeme → Type 0
BlockEnds (Some l.End) = Unit {0}
BlockEnds (Some (l.Word w.End)) = Unit {0}
BlockEnds (Some (l.Word w.Else)) = Unit {0}
BlockEnds (Some (l.Word w.Elseif)) = Unit {0}
BlockEnds (Some (l.Word w.Until)) = Unit {0}
BlockEnds _ = ⊥

-- Readers that read what is written and no deeper than they are for.
pub record CompleteParts (P : Parts) : Type 0 where
  pub expr : (m : ℕ) (e : Exp) → Formed e → m ≤ level e → height e ≤ P.depth → (k : List Token) → Apart e (first k) → Below m (first k) → P.expr m (spell e k) ≡ Ok (measured (expr_of e) (height e), k)
  pub rest : (n : Bytes) (p : Place) (ts : List Token) → 1 ≤ P.depth → P.rest (name_leaf n p) ts ≡ P.expr 0 (name n p ∷ ts)
  pub table : (p : Place) (fs : Fields) → FormedFields fs → fields_height fs + 1 ≤ P.depth → (q : Place) (k : List Token)
      → P.table p (spell_fields fs (sign s.CloseBrace q ∷ k)) ≡ Ok (measured (node (kind.Table (fields_of fs)) p) (fields_height fs + 1), k)
  pub block : (ss : Stats) → FormedStats ss → stats_height ss + 1 ≤ P.depth → (k : List Token) → BlockEnds (first k) → P.block (spell_stats ss k) ≡ Ok (measured (stats_of ss) (stats_height ss + 1), k)

-- Readers of three depths, each one below the one before it.
pub record Around (P Q R : Parts) : Type 0 where
  pub shorter : ShorterParts P
  pub shorter_below : ShorterParts Q
  pub shorter_lower : ShorterParts R
  pub here : CompleteParts P
  pub below : CompleteParts Q
  pub lower : CompleteParts R
  pub near : P.depth ≤ Q.depth + 1
  pub far : P.depth ≤ R.depth + 2

-- whether the first token is a name
data FirstName (ts : List Token) : Type 0 where
  begins : (n : Bytes) (p : Place) (rest : List Token) → ts ≡ name n p ∷ rest → FirstName ts
  begins_not : Lacks a_name (first ts) → FirstName ts

first_name : (ts : List Token) → FirstName ts
first_name [] = begins_not tt
first_name (x ∷ ts) = by_what x.what refl
  where
    by_what : (y : Lexeme) → x.what ≡ y → FirstName (x ∷ ts)
    by_what (l.Name n) e = begins n x.place ts (ap (λ z. token z x.place ∷ ts) e)
    by_what y e = begins_not (ap a_name e)

module _ (P : Parts) (h : ShorterParts P) (c : CompleteParts P) where
  -- ---- expressions

  -- an expression of any level
  pub whole : (e : Exp) → Formed e → height e ≤ P.depth → (k : List Token) → Parted (ends_in_prefix e) (first k) → P.expr 0 (spell e k) ≡ Ok (measured (expr_of e) (height e), k)
  whole e f d k a = c.expr 0 e f (omega arith) d k (apart_of e (first k) a) (below_of 0 (first k) a.no_op)

  -- before a token that goes on with no expression
  pub enclosed : (e : Exp) → Formed e → height e ≤ P.depth → (x : Closer) (q : Place) (k : List Token)
      → P.expr 0 (spell e (token (closer_lexeme x) q ∷ k)) ≡ Ok (measured (expr_of e) (height e), token (closer_lexeme x) q ∷ k)
  enclosed e f d x q k = whole e f d (token (closer_lexeme x) q ∷ k) (parted_by (ends_in_prefix e) x)

  -- ---- lists of expressions

  pub before_tail : (e : Exp) (es : Tail) (k : List Token) → Parted (list_ends_in_prefix e es) (first k) → Parted (ends_in_prefix e) (first (spell_tail es k))
  before_tail e end_tail k a = a
  before_tail e (more p x es) k a = parted_by (ends_in_prefix e) a_comma

  list_stops : (found : Measured (List Expr)) (k : List Token) → Lacks (is_sign s.Comma) (first k) → list_turn P found k ≡ Ok (done found, k)
  list_stops found k n = on_lacks _ _ _ _ k n

  more_read : (found : Measured (List Expr)) (es : Tail) (e : Exp) → FormedTail es → tail_height es ≤ P.depth → (k : List Token) → Parted (list_ends_in_prefix e es) (first k) → Lacks (is_sign s.Comma) (first k)
      → more_exprs P found (spell_tail es k) ≡ Ok (measured (found.what ++ tail_of es) (max found.depth (tail_height es)), k)
  unfolding more_exprs on
  more_read found end_tail e f d k a n =
      many_done (list_turn P) (list_shrinks P h) found k k found (list_stops found k n) ∙ ap (λ z. Ok (z, k)) (no_more found)
  more_read found (more p x es) e f d k a n =
      many_again (list_turn P) (list_shrinks P h) found (with_one found (measured (expr_of x) (height x))) (sign s.Comma p ∷ spell x (spell_tail es k)) (spell_tail es k)
      (then_ok _ _ _ _ _ (whole x f.0 (omega (arith, d)) (spell_tail es k) (before_tail x es k a)) refl)
      ∙ more_read (with_one found (measured (expr_of x) (height x))) es x f.1 (omega (arith, d)) k a n
      ∙ ap (λ z. Ok (z, k)) (more_of found (expr_of x ∷ []) (tail_of es) (height x) (tail_height es))

  pub list_read : (e : Exp) (es : Tail) → Formed e → FormedTail es → max (height e) (tail_height es) ≤ P.depth → (k : List Token) → Parted (list_ends_in_prefix e es) (first k) → Lacks (is_sign s.Comma) (first k)
      → list P (spell e (spell_tail es k)) ≡ Ok (measured (expr_of e ∷ tail_of es) (max (height e) (tail_height es)), k)
  unfolding list
  list_read e es fe fs d k a n =
      then_ok _ _ _ _ _ (whole e fe (omega (arith, d)) (spell_tail es k) (before_tail e es k a))
      (more_read (only (measured (expr_of e) (height e))) es e fs (omega (arith, d)) k a n)
      ∙ ap (λ z. Ok (z, k)) (same_measured _ _ _ _ refl (omega arith))

  -- ---- arguments

  some_in_parens : (p : Place) (e : Exp) (es : Tail) (q : Place) (k : List Token) → Formed e → FormedTail es → max (height e) (tail_height es) ≤ P.depth
      → in_parens P p (spell e (spell_tail es (sign s.CloseParen q ∷ k))) ≡ Ok (arguments (measured (expr_of e ∷ tail_of es) (max (height e) (tail_height es))) p, k)
  unfolding in_parens
  some_in_parens p e es q k fe fs d =
      on_lacks _ _ _ _ (spell e (spell_tail es (sign s.CloseParen q ∷ k))) (no_close e _)
      ∙ then_ok _ _ _ _ _ (list_read e es fe fs d (sign s.CloseParen q ∷ k) (parted_by _ close_paren) refl) (then_ok _ _ _ _ _ (expected (l.Sign s.CloseParen) q k) refl)

  in_parens_read : (p : Place) (es : Exps) (q : Place) (k : List Token) → FormedExps es → exps_height es ≤ P.depth
      → in_parens P p (spell_exps es (sign s.CloseParen q ∷ k)) ≡ Ok (arguments (measured (exps_of es) (exps_height es)) p, k)
  unfolding in_parens on
  in_parens_read p none q k f d = refl
  in_parens_read p (some e es) q k f d = some_in_parens p e es q k f.0 f.1 d

  pub args_read : {A : Type 0} (room : Bool) (g : Arguments → Parser A) (other : Parser A) (a : Args) (k : List Token) → room ≡ true → FormedArgs a → args_height a ≤ P.depth
      → on_args P room g other (spell_args a k) ≡ g (arguments (measured (args_of a) (args_height a)) (args_place a)) k
  unfolding on
  args_read room g other (listed p es q) k r f d = if_so _ _ _ _ r (then_ok _ _ _ _ _ (in_parens_read p es q k f d) refl)
  args_read room g other (braced p fs q) k r f d = if_so _ _ _ _ r (then_ok _ _ _ _ _ (c.table p fs f d q k) (ap (λ z. g (arguments z p) k) (same_measured _ _ _ _ refl (omega arith))))
  args_read room g other (quoted t p) k r f d = if_so _ _ _ _ r refl

  -- ---- tables

  closed_field : (found : Measured (List declared.Field)) (q : Place) (k : List Token) → separated P found (sign s.CloseBrace q ∷ k) ≡ Ok (done found, k)
  unfolding on
  closed_field found q k = refl

  separated_field : (found : Measured (List declared.Field)) (x : Separator) (q : Place) (k : List Token) → separated P found (token (separator_lexeme x) q ∷ k) ≡ Ok (again found, k)
  unfolding on
  separated_field found comma q k = refl
  separated_field found semicolon q k = refl

  named_read : (found : Measured (List declared.Field)) (n : Bytes) (p : Place) (e : Exp) → Formed e → height e ≤ P.depth → (x : Closer) (q : Place) (k rest : List Token)
      → spell e (token (closer_lexeme x) q ∷ k) ≡ name n p ∷ rest → Lacks (is_sign s.Equal) (Some (closer_lexeme x))
      → named_field P found n p rest ≡ single_field P found (measured (expr_of e) (height e)) (token (closer_lexeme x) q ∷ k)
  unfolding named_field
  named_read found n p e f d x q k rest is lacks =
      on_lacks _ _ _ _ rest (after_name e (token (closer_lexeme x) q ∷ k) n p rest is lacks)
      ∙ then_ok _ _ _ _ _ (c.rest n p rest (omega (arith, height_pos e, d)) ∙ ap (P.expr 0) (sym is) ∙ enclosed e f d x q k) refl

  name_turn : (found : Measured (List declared.Field)) (n : Bytes) (p : Place) (rest : List Token) → 1 ≤ P.depth → field_turn P found (name n p ∷ rest) ≡ named_field P found n p rest
  unfolding on
  name_turn found n p rest pos = in_room _ _ _ _ _ pos refl

  other_turn : (found : Measured (List declared.Field)) (e : Exp) → Formed e → height e ≤ P.depth → (x : Closer) (q : Place) (k : List Token)
      → Lacks a_name (first (spell e (token (closer_lexeme x) q ∷ k)))
      → field_turn P found (spell e (token (closer_lexeme x) q ∷ k)) ≡ single_field P found (measured (expr_of e) (height e)) (token (closer_lexeme x) q ∷ k)
  other_turn found e f d x q k lacks =
      let ts : List Token = spell e (token (closer_lexeme x) q ∷ k) in
      let b : Starts ts = starts e (token (closer_lexeme x) q ∷ k) in
      on_lacks _ _ _ _ ts (first_lacks (is_sign s.CloseBrace) ts b (start_facts b.start).no_brace)
      ∙ on_lacks _ _ _ _ ts lacks
      ∙ on_lacks _ _ _ _ ts (first_lacks (is_sign s.OpenBracket) ts b (start_facts b.start).no_bracket)
      ∙ then_ok _ _ _ _ _ (enclosed e f d x q k) refl

  -- an expression alone, by its first token
  single_read : (found : Measured (List declared.Field)) (e : Exp) → Formed e → height e ≤ P.depth → (x : Closer) (q : Place) (k : List Token) → Lacks (is_sign s.Equal) (Some (closer_lexeme x))
      → field_turn P found (spell e (token (closer_lexeme x) q ∷ k)) ≡ single_field P found (measured (expr_of e) (height e)) (token (closer_lexeme x) q ∷ k)
  single_read found e f d x q k lacks = by_name (first_name (spell e (token (closer_lexeme x) q ∷ k)))
    where
      by_name : FirstName (spell e (token (closer_lexeme x) q ∷ k)) → field_turn P found (spell e (token (closer_lexeme x) q ∷ k)) ≡ single_field P found (measured (expr_of e) (height e)) (token (closer_lexeme x) q ∷ k)
      by_name (begins n p rest is) = ap (field_turn P found) is ∙ name_turn found n p rest (omega (arith, height_pos e, d)) ∙ named_read found n p e f d x q k rest is lacks
      by_name (begins_not o) = other_turn found e f d x q k o

  titled_turn : (found : Measured (List declared.Field)) (n : Bytes) (p q : Place) (ts : List Token) → 1 ≤ P.depth
      → field_turn P found (name n p ∷ sign s.Equal q ∷ ts) ≡ and_then (P.expr 0 ts) (λ e. separated P (with_one found (measured (fields.Named n e.what) e.depth)))
  unfolding on named_field
  titled_turn found n p q ts pos = in_room _ _ _ _ _ pos refl

  keyed_turn : (found : Measured (List declared.Field)) (p : Place) (ts : List Token) → 1 ≤ P.depth → field_turn P found (sign s.OpenBracket p ∷ ts) ≡ keyed_field P found ts
  unfolding on
  keyed_turn found p ts pos = in_room _ _ _ _ _ pos refl

  keyed_read : (found : Measured (List declared.Field)) (y : Exp) (q r : Place) (e : Exp) → Formed y → Formed e → max (height y) (height e) ≤ P.depth → (x : Closer) (z : Place) (k : List Token)
      → keyed_field P found (spell y (sign s.CloseBracket q ∷ sign s.Equal r ∷ spell e (token (closer_lexeme x) z ∷ k)))
      ≡ separated P (with_one found (measured (fields.Keyed (expr_of y) (expr_of e)) (max (height y) (height e)))) (token (closer_lexeme x) z ∷ k)
  unfolding keyed_field
  keyed_read found y q r e fy fe d x z k =
      then_ok _ _ _ _ _ (enclosed y fy (omega (arith, d)) close_bracket q (sign s.Equal r ∷ spell e (token (closer_lexeme x) z ∷ k)))
      (then_ok _ _ _ _ _ (expected (l.Sign s.CloseBracket) q (sign s.Equal r ∷ spell e (token (closer_lexeme x) z ∷ k)))
      (then_ok _ _ _ _ _ (expected (l.Sign s.Equal) r (spell e (token (closer_lexeme x) z ∷ k)))
      (then_ok _ _ _ _ _ (enclosed e fe (omega (arith, d)) x z k) refl)))

  -- one field, up to what follows it
  field_read : (found : Measured (List declared.Field)) (y : Field) → FormedField y → field_height y ≤ P.depth → (x : Closer) (z : Place) (k : List Token) → Lacks (is_sign s.Equal) (Some (closer_lexeme x))
      → field_turn P found (spell_field y (token (closer_lexeme x) z ∷ k)) ≡ separated P (with_one found (measured (field_of y) (field_height y))) (token (closer_lexeme x) z ∷ k)
  field_read found (single e) f d x z k lacks = single_read found e f d x z k lacks
  field_read found (titled n p q e) f d x z k lacks =
      titled_turn found n p q (spell e (token (closer_lexeme x) z ∷ k)) (omega (arith, height_pos e, d)) ∙ then_ok _ _ _ _ _ (enclosed e f d x z k) refl
  field_read found (keyed p y q r e) f d x z k lacks =
      keyed_turn found p (spell y (sign s.CloseBracket q ∷ sign s.Equal r ∷ spell e (token (closer_lexeme x) z ∷ k))) (omega (arith, height_pos e, d)) ∙ keyed_read found y q r e f.0 f.1 d x z k

  no_field : (found : Measured (List declared.Field)) (q : Place) (k : List Token) → field_turn P found (sign s.CloseBrace q ∷ k) ≡ Ok (done found, k)
  unfolding on
  no_field found q k = refl

  -- a field and its separator
  separator_read : (found : Measured (List declared.Field)) (y : Field) (x : Separator) (p : Place) (k : List Token) → FormedField y → field_height y ≤ P.depth
      → field_turn P found (spell_field y (token (separator_lexeme x) p ∷ k)) ≡ Ok (again (with_one found (measured (field_of y) (field_height y))), k)
  separator_read found y comma p k f d = field_read found y f d a_comma p k refl ∙ separated_field _ comma p k
  separator_read found y semicolon p k f d = field_read found y f d a_semicolon p k refl ∙ separated_field _ semicolon p k

  fields_read : (fs : Fields) (found : Measured (List declared.Field)) (q : Place) (k : List Token) → FormedFields fs → fields_height fs ≤ P.depth
      → many (field_turn P) found (spell_fields fs (sign s.CloseBrace q ∷ k)) ≡ Ok (measured (found.what ++ fields_of fs) (max found.depth (fields_height fs)), k)
  fields_read no_fields found q k f d = many_done (field_turn P) (field_shrinks P h) found (sign s.CloseBrace q ∷ k) k found (no_field found q k) ∙ ap (λ z. Ok (z, k)) (no_more found)
  fields_read (last_field y) found q k f d =
      many_done (field_turn P) (field_shrinks P h) found (spell_field y (sign s.CloseBrace q ∷ k)) k (with_one found (measured (field_of y) (field_height y)))
      (field_read found y f d close_brace q k refl ∙ closed_field _ q k)
  fields_read (more_fields y x p fs) found q k f d =
      many_again (field_turn P) (field_shrinks P h) found (with_one found (measured (field_of y) (field_height y))) (spell_field y (token (separator_lexeme x) p ∷ spell_fields fs (sign s.CloseBrace q ∷ k))) (spell_fields fs (sign s.CloseBrace q ∷ k))
      (separator_read found y x p (spell_fields fs (sign s.CloseBrace q ∷ k)) f.0 (omega (arith, d)))
      ∙ fields_read fs (with_one found (measured (field_of y) (field_height y))) q k f.1 (omega (arith, d))
      ∙ ap (λ z. Ok (z, k)) (more_of found (field_of y ∷ []) (fields_of fs) (field_height y) (fields_height fs))

  pub table_read : (p : Place) (fs : Fields) → FormedFields fs → fields_height fs ≤ P.depth → (q : Place) (k : List Token)
      → table_reader P p (spell_fields fs (sign s.CloseBrace q ∷ k)) ≡ Ok (measured (node (kind.Table (fields_of fs)) p) (fields_height fs + 1), k)
  unfolding table_reader
  table_read p fs f d q k = then_ok _ _ _ _ _ (fields_read fs nothing q k f d) (ap (λ z. Ok (z, k)) (same_measured _ _ _ _ refl (omega arith)))

  -- ---- function bodies

  params_end : (found : List (Bytes × Place)) (q : Place) (k : List Token) → param_turn P found (sign s.CloseParen q ∷ k) ≡ Ok (done (found, false), k)
  unfolding on
  params_end found q k = refl

  params_dotted : (found : List (Bytes × Place)) (x y q : Place) (k : List Token) → param_turn P found (sign s.Comma x ∷ sign s.DotDotDot y ∷ sign s.CloseParen q ∷ k) ≡ Ok (done (found, true), k)
  unfolding on expect
  params_dotted found x y q k = refl

  params_again : (found : List (Bytes × Place)) (x : Place) (n : Bytes) (y : Place) (k : List Token) → param_turn P found (sign s.Comma x ∷ name n y ∷ k) ≡ Ok (again (found ++ (n, y) ∷ []), k)
  unfolding on
  params_again found x n y k = refl

  more_params_read : (ps : MoreParams) (found : List (Bytes × Place)) (q : Place) (k : List Token)
      → many (param_turn P) found (spell_more_params ps (sign s.CloseParen q ∷ k)) ≡ Ok ((found ++ more_params_of ps, more_params_dots ps), k)
  more_params_read end_params found q k =
      many_done (param_turn P) (param_shrinks P h) found (sign s.CloseParen q ∷ k) k (found, false) (params_end found q k) ∙ ap (λ z. Ok ((z, false), k)) (sym (append-nil found))
  more_params_read (more_dots x y) found q k =
      many_done (param_turn P) (param_shrinks P h) found (sign s.Comma x ∷ sign s.DotDotDot y ∷ sign s.CloseParen q ∷ k) k (found, true) (params_dotted found x y q k) ∙ ap (λ z. Ok ((z, true), k)) (sym (append-nil found))
  more_params_read (more_param x n y ps) found q k =
      many_again (param_turn P) (param_shrinks P h) found (found ++ (n, y) ∷ []) (sign s.Comma x ∷ name n y ∷ spell_more_params ps (sign s.CloseParen q ∷ k)) (spell_more_params ps (sign s.CloseParen q ∷ k))
      (params_again found x n y (spell_more_params ps (sign s.CloseParen q ∷ k)))
      ∙ more_params_read ps (found ++ (n, y) ∷ []) q k
      ∙ ap (λ z. Ok ((z, more_params_dots ps), k)) (append_assoc found ((n, y) ∷ []) (more_params_of ps))

  params_read : (ps : Params) (before : List (Bytes × Place)) (q : Place) (k : List Token) → parameters P before (spell_params ps (sign s.CloseParen q ∷ k)) ≡ Ok ((before ++ params_of ps, params_dots ps), k)
  unfolding parameters on expect
  params_read no_params before q k = ap (λ z. Ok ((z, false), k)) (sym (append-nil before))
  params_read (only_dots x) before q k = ap (λ z. Ok ((z, true), k)) (sym (append-nil before))
  params_read (params n x ps) before q k = more_params_read ps (before ++ (n, x) ∷ []) q k ∙ ap (λ z. Ok ((z, more_params_dots ps), k)) (append_assoc before ((n, x) ∷ []) (more_params_of ps))

  pub body_read : (at : Place) (before : List (Bytes × Place)) (b : Body) → FormedBody b → body_height b ≤ P.depth → (k : List Token) → function_body P at before (spell_body b k) ≡ Ok (measured (function_of at before b) (body_height b), k)
  unfolding function_body
  body_read at before (body p ps q ss r) f d k =
      then_ok _ _ _ _ _ (expected (l.Sign s.OpenParen) p (spell_params ps (sign s.CloseParen q ∷ spell_stats ss (word w.End r ∷ k))))
      (then_ok _ _ _ _ _ (params_read ps before q (spell_stats ss (word w.End r ∷ k)))
      (then_ok _ _ _ _ _ (c.block ss f d (word w.End r ∷ k) tt)
      (then_ok _ _ _ _ _ (expected (l.Word w.End) r k) refl)))
