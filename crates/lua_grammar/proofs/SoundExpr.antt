-- Expressions are read as they are spelled.
use Rattle.std.proofs.Common.{◌≡◌, refl, sym, ◌∙◌, ap, subst, ℕ, ◌+◌, max, nat_le, ◌<◌, ◌≤◌, Bool, true, false, List, [], ◌∷◌, Option, Some, arith}
use Rattle.std.proofs.lemmas.Bool.{leb-true}
use Rattle.lua_tokens.specs.declared.place.Place.{Place}
use Rattle.lua_tokens.specs.declared.token.Token.{Token}
use Rattle.lua_tokens.specs.declared.token.Lexeme.{Lexeme}
use Rattle.lua_tokens.specs.declared.token.Lexeme.TheVariants as l
use Rattle.lua_tokens.specs.declared.sign.Sign.TheVariants as s
use Rattle.lua_tokens.specs.declared.word.Word.TheVariants as w
use Rattle.lua_tree.specs.declared.expr.Expr.{Expr}
use Rattle.lua_tree.specs.declared.expr.ExprKind.TheVariants as k
use Rattle.lua_tree.specs.declared.operator.Unary.{Unary}
use Rattle.lua_grammar.specs.declared.measured.Measured.{Measured}
use Rattle.lua_grammar.specs.Tokens.{token, sign, word, name, Op, op_level, op_lexeme, unary_lexeme, right_level}
use Rattle.lua_grammar.specs.Written.{Bytes, Atom, nil, Exp, atom, function, variable, group, field, item, call, method, table, unary, binary}
use Rattle.lua_grammar.specs.Spelling.{atom_lexeme, spell, spell_body, first}
use Rattle.lua_grammar.specs.Formed.{IsPrefix, IsVariable, IsCall, Formed, ends_in_prefix}
use Rattle.lua_grammar.specs.Erasure.{node, op_kind, expr_of}
use Rattle.lua_grammar.specs.Next.{a_name, an_atom, an_op_from, a_unary}
use Rattle.lua_grammar.specs.Input.{refuse, expect, Turn, again}
use Rattle.lua_grammar.specs.Expressions.{Parts, leaf, name_leaf, suffix_turn, suffixes, table as table_reader, function_body, group as group_reader, operand, op_turn, climb, from_level, rest_of}
use Rattle.lua_grammar.proofs.Heights.{height}
use Rattle.lua_grammar.proofs.Shorter.{ShorterParts, suffix_shrinks, op_shrinks}
use Rattle.lua_grammar.proofs.Spelled.{opens_token, opens_then, opens_none, spell_app, body_app}
use Rattle.lua_grammar.proofs.Found.{name_found, atom_found, unary_found, op_from_found}
use Rattle.lua_grammar.proofs.Precedence.{op_low, right_at_most, may_stand_left, edge_high, prefix_high, below_high, below_of}
use Rattle.lua_grammar.proofs.Fronts.{Meets, weaken, then_meets, on_meets, is_meets, expect_meets, TurnOf, loop_meets, Fails, Context, fails_in, fails_map, stuck}
use Rattle.lua_grammar.proofs.Answered.{here, Below, NoCall, edge, Good, IsExpr, ReadsExpr, FailsExpr, GoodPrefix, GoodFront, Prefixed, FailsPrefix, spell_table, GoodTable, ReadsTable, GoodBody, ReadsBody, SoundParts}
use Rattle.lua_grammar.proofs.SoundArgs.{nil_good, table_app}
use Rattle.lua_grammar.proofs.SoundPrefix.{height_pos, index_meets, call_meets}
use Rattle.lua_grammar.proofs.SoundTable.{table_meets}
use Rattle.lua_grammar.proofs.SoundBody.{body_meets}

-- ---- prefixes as expressions

pub as_prefix : (K : Exp → Type 0) (d : ℕ) (ts : List Token) (x : Measured Expr) (rest : List Token) → Prefixed K d ts x rest → Prefixed IsPrefix d ts x rest
as_prefix K d ts x rest r = record {
  written = r.written;
  good = record { formed = r.good.formed; kind = r.prefix; low = r.good.low };
  prefix = r.prefix;
  what = r.what;
  depth = r.depth;
  spelled = r.spelled;
}

pub variable_prefix : (e : Exp) → IsVariable e → IsPrefix e
variable_prefix (variable n p) i = tt
variable_prefix (field e p n q) i = tt
variable_prefix (item e p x q) i = tt
variable_prefix (atom a p) i = absurd i
variable_prefix (function p b) i = absurd i
variable_prefix (group p e q) i = absurd i
variable_prefix (call e a) i = absurd i
variable_prefix (method e p n q a) i = absurd i
variable_prefix (table p fs q) i = absurd i
variable_prefix (unary u p e) i = absurd i
variable_prefix (binary op p x y) i = absurd i

pub call_prefix : (e : Exp) → IsCall e → IsPrefix e
call_prefix (call e a) i = tt
call_prefix (method e p n q a) i = tt
call_prefix (variable n p) i = absurd i
call_prefix (field e p n q) i = absurd i
call_prefix (item e p x q) i = absurd i
call_prefix (atom a p) i = absurd i
call_prefix (function p b) i = absurd i
call_prefix (group p e q) i = absurd i
call_prefix (table p fs q) i = absurd i
call_prefix (unary u p e) i = absurd i
call_prefix (binary op p x y) i = absurd i

pub front_good : (K : Exp → Type 0) (d : ℕ) (o : Option Lexeme) → ((e : Exp) → K e → IsPrefix e) → (e : Exp) → GoodFront K d o e → Good d 11 e
front_good K d o h e g = record { formed = g.formed; high = prefix_high e (h e g.kind); low = g.low }

pub prefix_good : (K : Exp → Type 0) (d : ℕ) → ((e : Exp) → K e → IsPrefix e) → (e : Exp) → GoodPrefix K d e → Good d 11 e
prefix_good K d h e g = record { formed = g.formed; high = prefix_high e (h e g.kind); low = g.low }

-- whether it ends in a prefix doesn't matter where no parenthesis follows
pub no_call_of : (b : Bool) (ts : List Token) → (first ts ≡ Some (l.Sign s.OpenParen) → ⊥) → NoCall b ts
no_call_of b ts h e = absurd (h e)

module _ (P : Parts) (hp : ShorterParts P) (sp : SoundParts P) where
  abbrev up : ℕ
  up = P.depth + 1

  -- ---- suffixes

  record AllSuffixes (ts : List Token) (x : Measured Expr) (rest : List Token) : Type 0 where
    is : Prefixed IsPrefix up ts x rest
    no_call : first rest ≡ Some (l.Sign s.OpenParen) → ⊥

  suffix_step : (ts : List Token) (x : Measured Expr) (us : List Token) → Prefixed IsPrefix up ts x us
      → Meets (TurnOf (Prefixed IsPrefix up ts) (AllSuffixes ts)) (FailsExpr up 11 ts) (suffix_turn P x us)
  suffix_step ts x us r =
      let T : Turn (Measured Expr) (Measured Expr) → List Token → Type 0 = TurnOf (Prefixed IsPrefix up ts) (AllSuffixes ts) in
      let Z : List Token → Type 0 = FailsExpr up 11 ts in
      let z : Z us = stuck (Good up 11) spell (spell r.written) (spell_app r.written) [] r.written (prefix_good IsPrefix up (λ e i. i) r.written r.good) refl ts us r.spelled in
      index_meets P hp sp IsPrefix up ts again _ T Z x us r z
      (λ rest f. fails_map (GoodFront IsVariable up (first ts)) (Good up 11) spell ts rest (front_good IsVariable up (first ts) variable_prefix) f)
      (λ y rest h. as_prefix IsVariable up ts y rest h)
      (call_meets P hp sp IsPrefix up ts again _ T Z x us r z
      (λ rest f. fails_map (GoodFront IsCall up (first ts)) (Good up 11) spell ts rest (front_good IsCall up (first ts) call_prefix) f)
      (λ y rest h. as_prefix IsCall up ts y rest h)
      (λ n. record { is = r; no_call = n }))

  suffixes_meet : (ts : List Token) (x : Measured Expr) (us : List Token) → Prefixed IsPrefix up ts x us → Meets (AllSuffixes ts) (FailsExpr up 11 ts) (suffixes P x us)
  unfolding suffixes
  suffixes_meet ts x us r = loop_meets (suffix_turn P) (suffix_shrinks P hp) (Prefixed IsPrefix up ts) (AllSuffixes ts) (FailsExpr up 11 ts) (suffix_step ts) x us r

  suffixed : (ts : List Token) (x : Measured Expr) (rest : List Token) → AllSuffixes ts x rest → IsExpr up 11 ts x rest
  suffixed ts x rest a = record {
    written = a.is.written;
    good = prefix_good IsPrefix up (λ e i. i) a.is.written a.is.good;
    what = a.is.what;
    depth = a.is.depth;
    spelled = a.is.spelled;
    no_call = no_call_of (ends_in_prefix a.is.written) rest a.no_call;
    apart = subst (λ n. Below n rest) (sym (edge_high a.is.written (prefix_high a.is.written a.is.prefix))) (below_high rest);
  }

  named : (n : Bytes) (p : Place) (us : List Token) → Prefixed IsPrefix up (name n p ∷ us) (name_leaf n p) us
  named n p us = record {
    written = variable n p;
    good = record { formed = tt; kind = tt; low = omega arith };
    prefix = tt;
    what = refl;
    depth = refl;
    spelled = refl;
  }

  -- ---- what is in parentheses

  abbrev in_group : (p : Place) → Context (Good P.depth 0) spell (Good up 11) spell (λ z. sign s.OpenParen p ∷ z)
  in_group p = record {
    opens = opens_token (sign s.OpenParen p);
    close = sign s.CloseParen here ∷ [];
    put = λ e. group p e here;
    good = λ e g. record { formed = g.formed; high = omega arith; low = omega (arith, g.low) };
    spelled = λ e g. refl;
  }

  pub group_meets : 1 ≤ P.depth → (p : Place) (us : List Token) (K : Exp → Type 0) → ((e : Exp) (q : Place) → K (group p e q))
      → Meets (Prefixed K up (sign s.OpenParen p ∷ us)) (FailsPrefix K up (sign s.OpenParen p ∷ us)) (group_reader P p us)
  unfolding group_reader
  group_meets room p us K kind =
      let ts : List Token = sign s.OpenParen p ∷ us in
      let Z : List Token → Type 0 = FailsPrefix K up ts in
      let inside : Context (Good P.depth 0) spell (GoodFront K up (first ts)) spell (λ z. sign s.OpenParen p ∷ z) = record {
        opens = opens_token (sign s.OpenParen p);
        close = sign s.CloseParen here ∷ [];
        put = λ e. group p e here;
        good = λ e g. record { formed = g.formed; kind = kind e here; low = omega (arith, g.low); begins = refl };
        spelled = λ e g. refl;
      } in
      then_meets _ (ReadsExpr P.depth 0 us) (Prefixed K up ts) (FailsExpr P.depth 0 us) Z (P.expr 0 us) (sp.expr room 0 (omega arith) us)
      (λ rest f. fails_in inside spell_app ts us rest refl f)
      (λ e rest h.
      let at_close : ts ≡ sign s.OpenParen p ∷ spell h.0.written rest = ap (λ z. sign s.OpenParen p ∷ z) h.0.spelled in
      then_meets _ (λ q vs. rest ≡ sign s.CloseParen q ∷ vs) (Prefixed K up ts) Z Z (expect (l.Sign s.CloseParen) rest)
      (expect_meets (l.Sign s.CloseParen) tt _ Z rest
      (stuck (GoodFront K up (first ts)) spell (λ z. sign s.OpenParen p ∷ spell h.0.written z) (opens_then (λ z. sign s.OpenParen p ∷ z) (spell h.0.written) (opens_token (sign s.OpenParen p)) (spell_app h.0.written))
      (sign s.CloseParen here ∷ []) (group p h.0.written here) (record { formed = h.0.good.formed; kind = kind h.0.written here; low = omega (arith, h.0.good.low); begins = refl }) refl ts rest at_close)
      (λ q vs e2. e2))
      (λ _ g. g)
      (λ q vs e2. record {
        written = group p h.0.written q;
        good = record { formed = h.0.good.formed; kind = kind h.0.written q; low = omega (arith, h.0.good.low) };
        prefix = tt;
        what = ap (λ z. node (k.Paren z) p) h.0.what;
        depth = ap (λ z. z + 1) h.0.depth;
        spelled = at_close ∙ ap (λ z. sign s.OpenParen p ∷ spell h.0.written z) e2;
      }))

  -- ---- operands

  nothing_read : (ts : List Token) → FailsExpr up 11 ts ts
  nothing_read ts = stuck (Good up 11) spell (λ z. z) opens_none (spell (atom nil here) []) (atom nil here) (nil_good up 11 (omega arith) (omega arith)) refl ts ts refl

  atom_read : (ts : List Token) (a : Atom) (p : Place) (us : List Token) → ts ≡ token (atom_lexeme a) p ∷ us → IsExpr up 11 ts (leaf a p) us
  atom_read ts a p us e = record {
    written = atom a p;
    good = record { formed = tt; high = omega arith; low = omega arith };
    what = refl;
    depth = refl;
    spelled = e;
    no_call = λ o. refl;
    apart = below_high us;
  }

  abbrev in_braces : (p : Place) → Context (GoodTable up) spell_table (Good up 11) spell (λ z. sign s.OpenBrace p ∷ z)
  in_braces p = record {
    opens = opens_token (sign s.OpenBrace p);
    close = [];
    put = λ x. table p x.0 x.1;
    good = λ x g. record { formed = g.formed; high = omega arith; low = g.low };
    spelled = λ x g. refl;
  }

  abbrev in_function : (p : Place) → Context (GoodBody P.depth) spell_body (Good up 11) spell (λ z. word w.Function p ∷ z)
  in_function p = record {
    opens = opens_token (word w.Function p);
    close = [];
    put = λ b. function p b;
    good = λ b g. record { formed = g.formed; high = omega arith; low = omega (arith, g.low) };
    spelled = λ b g. refl;
  }

  abbrev in_unary : (op : Unary) (p : Place) → Context (Good P.depth 11) spell (Good up 11) spell (λ z. token (unary_lexeme op) p ∷ z)
  in_unary op p = record {
    opens = opens_token (token (unary_lexeme op) p);
    close = [];
    put = λ e. unary op p e;
    good = λ e g. record { formed = (g.formed, g.high); high = omega arith; low = omega (arith, g.low) };
    spelled = λ e g. refl;
  }

  pub operand_meets : (ts : List Token) → Meets (IsExpr up 11 ts) (FailsExpr up 11 ts) (operand P true ts)
  unfolding operand
  operand_meets ts =
      let T : Measured Expr → List Token → Type 0 = IsExpr up 11 ts in
      let Z : List Token → Type 0 = FailsExpr up 11 ts in
      let z : Z ts = nothing_read ts in
      on_meets an_atom atom_lexeme atom_found true _ _ T Z ts z (λ a p us _ _ e. atom_read ts a p us e)
      (λ _. on_meets a_name (λ n. l.Name n) name_found true _ _ T Z ts z
      (λ n p us _ _ e.
      weaken (AllSuffixes ts) T Z Z (suffixes P (name_leaf n p) us) (λ x rest a. suffixed ts x rest a) (λ _ g. g)
      (suffixes_meet ts (name_leaf n p) us (subst (λ z. Prefixed IsPrefix up z (name_leaf n p) us) (sym e) (named n p us))))
      (λ _. is_meets (l.Sign s.OpenParen) tt (nat_le 1 P.depth) _ _ T Z ts z
      (λ p us c e.
      then_meets (suffixes P) (Prefixed IsPrefix up (sign s.OpenParen p ∷ us)) T (FailsPrefix IsPrefix up (sign s.OpenParen p ∷ us)) Z (group_reader P p us)
      (group_meets (leb-true 1 P.depth c) p us IsPrefix (λ e q. tt))
      (λ rest f. subst (λ y. FailsExpr up 11 y rest) (sym e) (fails_map (GoodFront IsPrefix up (Some (l.Sign s.OpenParen))) (Good up 11) spell (sign s.OpenParen p ∷ us) rest (front_good IsPrefix up (Some (l.Sign s.OpenParen)) (λ e i. i)) f))
      (λ x rest h.
      weaken (AllSuffixes ts) T Z Z (suffixes P x rest) (λ y end a. suffixed ts y end a) (λ _ g. g)
      (suffixes_meet ts x rest (subst (λ y. Prefixed IsPrefix up y x rest) (sym e) h))))
      (λ _. is_meets (l.Sign s.OpenBrace) tt true _ _ T Z ts z
      (λ p us _ e.
      weaken (ReadsTable up p us) T (Fails (GoodTable up) spell_table us) Z (table_reader P p us)
      (λ x rest r. record {
        written = table p r.written.0 r.written.1;
        good = (in_braces p).good r.written r.good;
        what = r.what;
        depth = r.depth;
        spelled = e ∙ ap (λ z. sign s.OpenBrace p ∷ z) r.spelled;
        no_call = λ o. refl;
        apart = below_high rest;
      })
      (λ rest f. fails_in (in_braces p) table_app ts us rest e f)
      (table_meets P hp sp us p))
      (λ _. is_meets (l.Word w.Function) tt (nat_le 1 P.depth) _ _ T Z ts z
      (λ p us c e.
      then_meets _ (ReadsBody P.depth p [] us) T (Fails (GoodBody P.depth) spell_body us) Z (function_body P p [] us) (body_meets P hp sp [] (leb-true 1 P.depth c) p us)
      (λ rest f. fails_in (in_function p) body_app ts us rest e f)
      (λ b rest r. record {
        written = function p r.written;
        good = (in_function p).good r.written r.good;
        what = ap (λ z. node (k.Function z) p) r.what;
        depth = ap (λ z. z + 1) r.depth;
        spelled = e ∙ ap (λ z. word w.Function p ∷ z) r.spelled;
        no_call = λ o. refl;
        apart = below_high rest;
      }))
      (λ _. on_meets a_unary unary_lexeme unary_found (nat_le 1 P.depth) _ refuse T Z ts z
      (λ op p us c _ e.
      then_meets _ (ReadsExpr P.depth 11 us) T (FailsExpr P.depth 11 us) Z (P.expr 11 us) (sp.expr (leb-true 1 P.depth c) 11 (omega arith) us)
      (λ rest f. fails_in (in_unary op p) spell_app ts us rest e f)
      (λ x rest h. record {
        written = unary op p h.0.written;
        good = (in_unary op p).good h.0.written h.0.good;
        what = ap (λ z. node (k.Unary op z) p) h.0.what;
        depth = ap (λ z. z + 1) h.0.depth;
        spelled = e ∙ ap (λ z. token (unary_lexeme op) p ∷ z) h.0.spelled;
        no_call = h.0.no_call;
        apart = below_high rest;
      }))
      (λ _. z))))))

  -- ---- operators

  abbrev in_binary : (m : ℕ) (op : Op) (p : Place) (x : Exp) → Formed x → height x ≤ P.depth → op_level op < edge x → m ≤ op_level op
      → Context (Good P.depth (right_level (op_level op))) spell (Good up m) spell (λ z. spell x (token (op_lexeme op) p ∷ z))
  in_binary m op p x f low ed high = record {
    opens = opens_then (spell x) (λ z. token (op_lexeme op) p ∷ z) (spell_app x) (opens_token (token (op_lexeme op) p));
    close = [];
    put = λ y. binary op p x y;
    good = λ y g. record { formed = (f, g.formed, may_stand_left op x ed, g.high); high = high; low = omega (arith, low, g.low) };
    spelled = λ y g. refl;
  }

  op_step : (m : ℕ) (ts : List Token) (x : Measured Expr) (us : List Token) → IsExpr up m ts x us → Meets (TurnOf (IsExpr up m ts) (ReadsExpr up m ts)) (FailsExpr up m ts) (op_turn P m x us)
  op_step m ts x us r =
      let T : Turn (Measured Expr) (Measured Expr) → List Token → Type 0 = TurnOf (IsExpr up m ts) (ReadsExpr up m ts) in
      let Z : List Token → Type 0 = FailsExpr up m ts in
      on_meets (an_op_from m) op_lexeme (λ y op e. (op_from_found m y op e).0) (nat_le x.depth P.depth) _ _ T Z us
      (stuck (Good up m) spell (spell r.written) (spell_app r.written) [] r.written r.good refl ts us r.spelled)
      (λ op p vs c f e.
      let low : height r.written ≤ P.depth = omega (arith, leb-true x.depth P.depth c, r.depth) in
      let inside = in_binary m op p r.written r.good.formed low (r.apart op (ap first e)) (op_from_found m (op_lexeme op) op f).1 in
      let at_op : ts ≡ spell r.written (token (op_lexeme op) p ∷ vs) = r.spelled ∙ ap (spell r.written) e in
      then_meets _ (ReadsExpr P.depth (right_level (op_level op)) vs) T (FailsExpr P.depth (right_level (op_level op)) vs) Z (P.expr (right_level (op_level op)) vs)
      (sp.expr (omega (arith, low, height_pos r.written)) (right_level (op_level op)) (omega (arith, op_low op, right_at_most (op_level op))) vs)
      (λ rest g. fails_in inside spell_app ts vs rest at_op g)
      (λ y rest h. record {
        written = binary op p r.written h.0.written;
        good = inside.good h.0.written h.0.good;
        what = ap (λ z. node (op_kind op z y.what) p) r.what ∙ ap (λ z. node (op_kind op (expr_of r.written) z) p) h.0.what;
        depth = ap (λ z. max z y.depth + 1) r.depth ∙ ap (λ z. max (height r.written) z + 1) h.0.depth;
        spelled = at_op ∙ ap (λ z. spell r.written (token (op_lexeme op) p ∷ z)) h.0.spelled;
        no_call = h.0.no_call;
        apart = h.1;
      }))
      (λ f. (r, below_of m us f))

  climb_meets : (m : ℕ) (ts : List Token) (x : Measured Expr) (us : List Token) → IsExpr up m ts x us → Meets (ReadsExpr up m ts) (FailsExpr up m ts) (climb P m x us)
  unfolding climb
  climb_meets m ts x us r = loop_meets (op_turn P m) (op_shrinks P hp m) (IsExpr up m ts) (ReadsExpr up m ts) (FailsExpr up m ts) (op_step m ts) x us r

  lower_good : (m : ℕ) → m ≤ 11 → (e : Exp) → Good up 11 e → Good up m e
  lower_good m h e g = record { formed = g.formed; high = omega (arith, h, g.high); low = g.low }

  lower_read : (m : ℕ) → m ≤ 11 → (ts : List Token) (x : Measured Expr) (us : List Token) → IsExpr up 11 ts x us → IsExpr up m ts x us
  lower_read m h ts x us r = record { written = r.written; good = lower_good m h r.written r.good; what = r.what; depth = r.depth; spelled = r.spelled; no_call = r.no_call; apart = r.apart }

  pub level_meets : (m : ℕ) → m ≤ 11 → (ts : List Token) → Meets (ReadsExpr up m ts) (FailsExpr up m ts) (from_level P true m ts)
  unfolding from_level
  level_meets m h ts =
      then_meets (climb P m) (IsExpr up 11 ts) (ReadsExpr up m ts) (FailsExpr up 11 ts) (FailsExpr up m ts) (operand P true ts) (operand_meets ts)
      (λ rest f. fails_map (Good up 11) (Good up m) spell ts rest (lower_good m h) f)
      (λ x us r. climb_meets m ts x us (lower_read m h ts x us r))

  pub rest_meets : (n : Bytes) (p : Place) (us : List Token) → Meets (ReadsExpr up 0 (name n p ∷ us)) (FailsExpr up 0 (name n p ∷ us)) (rest_of P (name_leaf n p) us)
  unfolding rest_of
  rest_meets n p us =
      let ts : List Token = name n p ∷ us in
      then_meets (climb P 0) (AllSuffixes ts) (ReadsExpr up 0 ts) (FailsExpr up 11 ts) (FailsExpr up 0 ts) (suffixes P (name_leaf n p) us) (suffixes_meet ts (name_leaf n p) us (named n p us))
      (λ rest f. fails_map (Good up 11) (Good up 0) spell ts rest (lower_good 0 (omega arith)) f)
      (λ x vs a. climb_meets 0 ts x vs (lower_read 0 (omega arith) ts x vs (suffixed ts x vs a)))

-- with no room all is refused
pub flat_operand : (P : Parts) → P.depth ≡ 0 → (ts : List Token) → Meets (λ x rest. ⊥) (λ rest. rest ≡ ts) (operand P false ts)
unfolding operand
flat_operand P e ts =
    let T : Measured Expr → List Token → Type 0 = λ x rest. ⊥ in
    let Z : List Token → Type 0 = λ rest. rest ≡ ts in
    let no : nat_le 1 P.depth ≡ true → ⊥ = λ c. omega (arith, leb-true 1 P.depth c, e) in
    let never : false ≡ true → ⊥ = λ c. cc in
    on_meets an_atom atom_lexeme atom_found false _ _ T Z ts refl (λ a p us c _ e. never c)
    (λ _. on_meets a_name (λ n. l.Name n) name_found false _ _ T Z ts refl (λ n p us c _ e. absurd (never c))
    (λ _. is_meets (l.Sign s.OpenParen) tt (nat_le 1 P.depth) _ _ T Z ts refl (λ p us c e. absurd (no c))
    (λ _. is_meets (l.Sign s.OpenBrace) tt false _ _ T Z ts refl (λ p us c e. absurd (never c))
    (λ _. is_meets (l.Word w.Function) tt (nat_le 1 P.depth) _ _ T Z ts refl (λ p us c e. absurd (no c))
    (λ _. on_meets a_unary unary_lexeme unary_found (nat_le 1 P.depth) _ refuse T Z ts refl (λ op p us c _ e. absurd (no c))
    (λ _. refl))))))

pub flat_meets : (P : Parts) → P.depth ≡ 0 → (m : ℕ) (ts : List Token) → Meets (λ x rest. ⊥) (λ rest. rest ≡ ts) (from_level P false m ts)
unfolding from_level
flat_meets P e m ts = then_meets (climb P m) (λ x rest. ⊥) (λ x rest. ⊥) (λ rest. rest ≡ ts) (λ rest. rest ≡ ts) (operand P false ts) (flat_operand P e ts) (λ _ g. g) (λ x us a. absurd a)
