-- Lists, arguments and what goes on with a prefix are read as they are spelled.
use Rattle.std.proofs.Common.{◌≡◌, refl, sym, ◌∙◌, ap, subst, ℕ, max, ◌≤◌, Bool, true, List, [], ◌∷◌, ◌++◌, Some, None, arith}
use Rattle.lua_tokens.specs.declared.place.Place.{Place}
use Rattle.lua_tokens.specs.declared.token.Token.{Token}
use Rattle.lua_tokens.specs.declared.token.Lexeme.{Lexeme}
use Rattle.lua_tokens.specs.declared.token.Lexeme.TheVariants as l
use Rattle.lua_tokens.specs.declared.sign.Sign.TheVariants as s
use Rattle.lua_tree.specs.declared.expr.Expr.{Expr}
use Rattle.lua_tree.specs.declared.expr.ExprKind.TheVariants as k
use Rattle.lua_grammar.specs.declared.measured.Measured.{Measured}
use Rattle.lua_grammar.specs.declared.measured.Arguments.{Arguments}
use Rattle.lua_grammar.specs.Tokens.{sign}
use Rattle.lua_grammar.specs.Written.{Exp, atom, nil, listed, braced, quoted, none, some, Tail, end_tail, more, Fields}
use Rattle.lua_grammar.specs.Spelling.{spell, spell_args, spell_tail, spell_fields, first}
use Rattle.lua_grammar.specs.Formed.{Formed, FormedTail, list_ends_in_prefix}
use Rattle.lua_grammar.specs.Erasure.{node, expr_of, tail_of}
use Rattle.lua_grammar.specs.Next.{is, a_text}
use Rattle.lua_grammar.specs.Input.{Parser, expect}
use Rattle.lua_grammar.specs.Expressions.{Parts, with_one, only, measured, arguments, list_turn, more_exprs, list, in_parens, on_args}
use Rattle.lua_grammar.proofs.Heights.{height, tail_height}
use Rattle.lua_grammar.proofs.Shorter.{ShorterParts, list_shrinks}
use Rattle.lua_grammar.proofs.Spelled.{Opens, opens_token, opens_then, opens_none, spell_app, tail_app, fields_app}
use Rattle.lua_grammar.proofs.Found.{text_found}
use Rattle.lua_grammar.proofs.Fronts.{Meets, then_meets, Misses, on_meets, is_meets, expect_meets, TurnOf, loop_meets, Fails, Context, fails_in, stuck}
use Rattle.lua_grammar.proofs.Answered.{here, Good, ReadsExpr, FailsExpr, spell_list, GoodList, ReadsList, FailsList, GoodArgs, ReadsArgs, FailsArgs, spell_table, GoodTable, ReadsTable, SoundParts}

-- ---- a list with one more

abbrev pub snoc_tail : Tail → Place → Exp → Tail
snoc_tail end_tail p e = more p e end_tail
snoc_tail (more q x es) p e = more q x (snoc_tail es p e)

pub spell_snoc : (es : Tail) (p : Place) (e : Exp) (k : List Token) → spell_tail (snoc_tail es p e) k ≡ spell_tail es (sign s.Comma p ∷ spell e k)
spell_snoc end_tail p e k = refl
spell_snoc (more q x es) p e k = ap (λ z. sign s.Comma q ∷ spell x z) (spell_snoc es p e k)

pub snoc_of : (es : Tail) (p : Place) (e : Exp) → tail_of (snoc_tail es p e) ≡ tail_of es ++ expr_of e ∷ []
snoc_of end_tail p e = refl
snoc_of (more q x es) p e = ap (λ z. expr_of x ∷ z) (snoc_of es p e)

pub snoc_height : (es : Tail) (p : Place) (e : Exp) → tail_height (snoc_tail es p e) ≡ max (tail_height es) (height e)
snoc_height end_tail p e = omega arith
snoc_height (more q x es) p e = omega (arith, snoc_height es p e)

pub snoc_formed : (es : Tail) (p : Place) (e : Exp) → FormedTail es → Formed e → FormedTail (snoc_tail es p e)
snoc_formed end_tail p e h g = (g, tt)
snoc_formed (more q x es) p e h g = (h.0, snoc_formed es p e h.1 g)

pub snoc_ends : (x : Exp) (es : Tail) (p : Place) (e : Exp) → list_ends_in_prefix x (snoc_tail es p e) ≡ list_ends_in_prefix e end_tail
snoc_ends x end_tail p e = refl
snoc_ends x (more q y es) p e = snoc_ends y es p e

pub list_app : (x : Exp × Tail) → Opens (spell_list x)
list_app x = opens_then (spell x.0) (spell_tail x.1) (spell_app x.0) (tail_app x.1)

-- what a list can be closed by
pub nil_good : (d : ℕ) (m : ℕ) → 1 ≤ d → m ≤ 12 → Good d m (atom nil here)
nil_good d m h g = record { formed = tt; high = g; low = h }

pub not_first : (x : Lexeme) (ts : List Token) → Misses (is x) ts → first ts ≡ Some x → is x x ≡ Some tt → ⊥
not_first x [] m e h = cc
not_first x (y ∷ ts) m e h =
    let same : y.what ≡ x = cc in
    let both : None ≡ Some tt = sym m ∙ ap (is x) same ∙ h in
    cc

pub table_app : (x : Fields × Place) → Opens (spell_table x)
table_app x = opens_then (spell_fields x.0) (λ z. sign s.CloseBrace x.1 ∷ z) (fields_app x.0) (opens_token (sign s.CloseBrace x.1))

module _ (P : Parts) (hp : ShorterParts P) (sp : SoundParts P) where
  -- ---- lists

  abbrev first_exp : (d : ℕ) → Context (Good d 0) spell (GoodList d) spell_list (λ z. z)
  first_exp d = record {
    opens = opens_none;
    close = [];
    put = λ e. (e, end_tail);
    good = λ e g. record { formed = g.formed; tail = tt; low = omega (arith, g.low) };
    spelled = λ e g. refl;
  }

  abbrev next_exp : (d : ℕ) (x : Exp × Tail) (p : Place) → GoodList d x → Context (Good d 0) spell (GoodList d) spell_list (λ z. spell_list x (sign s.Comma p ∷ z))
  next_exp d x p h = record {
    opens = opens_then (spell_list x) (λ z. sign s.Comma p ∷ z) (list_app x) (opens_token (sign s.Comma p));
    close = [];
    put = λ e. (x.0, snoc_tail x.1 p e);
    good = λ e g. record { formed = h.formed; tail = snoc_formed x.1 p e h.tail g.formed; low = omega (arith, h.low, g.low, snoc_height x.1 p e) };
    spelled = λ e g. ap (spell x.0) (spell_snoc x.1 p e []);
  }

  longer : (ts : List Token) (x : Measured (List Expr)) (p : Place) (us : List Token) (e : Measured Expr) (rest : List Token) (r : ReadsList P.depth ts x (sign s.Comma p ∷ us))
      → ReadsExpr P.depth 0 us e rest → ReadsList P.depth ts (with_one x e) rest
  longer ts x p us e rest r h = record {
    written = (r.written.0, snoc_tail r.written.1 p h.0.written);
    good = (next_exp P.depth r.written p r.good).good h.0.written h.0.good;
    what = ap (λ z. z ++ e.what ∷ []) r.what ∙ ap (λ z. expr_of r.written.0 ∷ (tail_of r.written.1 ++ z ∷ [])) h.0.what ∙ ap (λ z. expr_of r.written.0 ∷ z) (sym (snoc_of r.written.1 p h.0.written));
    depth = omega (arith, r.depth, h.0.depth, snoc_height r.written.1 p h.0.written);
    spelled = r.spelled ∙ ap (λ z. spell_list r.written (sign s.Comma p ∷ z)) h.0.spelled ∙ ap (spell r.written.0) (sym (spell_snoc r.written.1 p h.0.written rest));
    no_call = λ o. snoc_ends r.written.0 r.written.1 p h.0.written ∙ h.0.no_call o;
  }

  unfinished_list : (ts : List Token) (x : Measured (List Expr)) (us : List Token) → ReadsList P.depth ts x us → FailsList P.depth ts us
  unfinished_list ts x us r = stuck (GoodList P.depth) spell_list (spell_list r.written) (list_app r.written) [] r.written r.good refl ts us r.spelled

  list_step : 1 ≤ P.depth → (ts : List Token) (x : Measured (List Expr)) (us : List Token) → ReadsList P.depth ts x us
      → Meets (TurnOf (ReadsList P.depth ts) (ReadsList P.depth ts)) (FailsList P.depth ts) (list_turn P x us)
  list_step room ts x us r =
      is_meets (l.Sign s.Comma) tt true _ _ _ (FailsList P.depth ts) us (unfinished_list ts x us r)
      (λ p vs _ e.
      let r' : ReadsList P.depth ts x (sign s.Comma p ∷ vs) = subst (ReadsList P.depth ts x) e r in
      then_meets _ (ReadsExpr P.depth 0 vs) _ (FailsExpr P.depth 0 vs) _ (P.expr 0 vs) (sp.expr room 0 (omega arith) vs)
      (λ rest f. fails_in (next_exp P.depth r.written p r.good) spell_app ts vs rest r'.spelled f)
      (λ e rest h. longer ts x p vs e rest r' h))
      (λ _. r)

  pub list_meets : 1 ≤ P.depth → (ts : List Token) → Meets (ReadsList P.depth ts) (FailsList P.depth ts) (list P ts)
  unfolding list more_exprs
  list_meets room ts =
      then_meets _ (ReadsExpr P.depth 0 ts) _ (FailsExpr P.depth 0 ts) _ (P.expr 0 ts) (sp.expr room 0 (omega arith) ts)
      (λ rest f. fails_in (first_exp P.depth) spell_app ts ts rest refl f)
      (λ e rest h.
      loop_meets (list_turn P) (list_shrinks P hp) (ReadsList P.depth ts) _ _ (list_step room ts) (only e) rest
      (record {
        written = (h.0.written, end_tail);
        good = (first_exp P.depth).good h.0.written h.0.good;
        what = ap (λ z. z ∷ []) h.0.what;
        depth = omega (arith, h.0.depth);
        spelled = h.0.spelled;
        no_call = h.0.no_call;
      }))

  -- ---- arguments

  abbrev list_in_parens : (d : ℕ) (p : Place) → Context (GoodList d) spell_list (GoodArgs d) spell_args (λ z. sign s.OpenParen p ∷ z)
  list_in_parens d p = record {
    opens = opens_token (sign s.OpenParen p);
    close = sign s.CloseParen here ∷ [];
    put = λ x. listed p (some x.0 x.1) here;
    good = λ x g. record { formed = (g.formed, g.tail); low = g.low };
    spelled = λ x g. refl;
  }

  abbrev table_in_args : (d : ℕ) (p : Place) → Context (GoodTable d) spell_table (GoodArgs d) spell_args (λ z. sign s.OpenBrace p ∷ z)
  table_in_args d p = record {
    opens = opens_token (sign s.OpenBrace p);
    close = [];
    put = λ x. braced p x.0 x.1;
    good = λ x g. record { formed = g.formed; low = g.low };
    spelled = λ x g. refl;
  }

  no_args : (d : ℕ) (p : Place) (us : List Token) → FailsArgs d (sign s.OpenParen p ∷ us) us
  no_args d p us = stuck (GoodArgs d) spell_args (λ z. sign s.OpenParen p ∷ z) (opens_token (sign s.OpenParen p)) (sign s.CloseParen here ∷ []) (listed p none here)
      (record { formed = tt; low = omega arith }) refl (sign s.OpenParen p ∷ us) us refl

  open_list : (p : Place) (us : List Token) (x : Measured (List Expr)) (rest : List Token) → ReadsList P.depth us x rest → FailsArgs P.depth (sign s.OpenParen p ∷ us) rest
  open_list p us x rest r = stuck (GoodArgs P.depth) spell_args (λ z. sign s.OpenParen p ∷ spell_list r.written z)
      (opens_then (λ z. sign s.OpenParen p ∷ z) (spell_list r.written) (opens_token (sign s.OpenParen p)) (list_app r.written))
      (sign s.CloseParen here ∷ []) (listed p (some r.written.0 r.written.1) here) (record { formed = (r.good.formed, r.good.tail); low = r.good.low }) refl
      (sign s.OpenParen p ∷ us) rest (ap (λ z. sign s.OpenParen p ∷ z) r.spelled)

  pub parens_meet : 1 ≤ P.depth → (p : Place) (us : List Token) → Meets (ReadsArgs P.depth (sign s.OpenParen p ∷ us)) (FailsArgs P.depth (sign s.OpenParen p ∷ us)) (in_parens P p us)
  unfolding in_parens
  parens_meet room p us =
      is_meets (l.Sign s.CloseParen) tt true _ _ _ (FailsArgs P.depth (sign s.OpenParen p ∷ us)) us (no_args P.depth p us)
      (λ q vs _ e. record {
        written = listed p none q;
        good = record { formed = tt; low = omega arith };
        what = refl;
        depth = refl;
        place = refl;
        spelled = ap (λ z. sign s.OpenParen p ∷ z) e;
      })
      (λ _. then_meets _ (ReadsList P.depth us) _ (FailsList P.depth us) _ (list P us) (list_meets room us)
      (λ rest f. fails_in (list_in_parens P.depth p) list_app (sign s.OpenParen p ∷ us) us rest refl f)
      (λ x rest r. then_meets _ (λ q vs. ReadsArgs P.depth (sign s.OpenParen p ∷ us) (arguments x p) vs) _ (FailsArgs P.depth (sign s.OpenParen p ∷ us)) _ (expect (l.Sign s.CloseParen) rest)
      (expect_meets (l.Sign s.CloseParen) tt _ _ rest (open_list p us x rest r)
      (λ q vs e. record {
        written = listed p (some r.written.0 r.written.1) q;
        good = record { formed = (r.good.formed, r.good.tail); low = r.good.low };
        what = r.what;
        depth = r.depth;
        place = refl;
        spelled = ap (λ z. sign s.OpenParen p ∷ z) (r.spelled ∙ ap (spell_list r.written) e);
      }))
      (λ rest f. f) (λ q vs h. h)))

  -- arguments, and what is done with them
  module _ {A : Type 0} (room : Bool) (g : Arguments → Parser A) (q : Parser A) (T : A → List Token → Type 0) (Z : List Token → Type 0) where
    pub args_meet : (room ≡ true → 1 ≤ P.depth) → (ts : List Token) → Z ts → (room ≡ true → (rest : List Token) → FailsArgs P.depth ts rest → Z rest)
        → ((a : Arguments) (rest : List Token) → room ≡ true → ReadsArgs P.depth ts a rest → Meets T Z (g a rest))
        → ((first ts ≡ Some (l.Sign s.OpenParen) → ⊥) → Meets T Z (q ts)) → Meets T Z (on_args P room g q ts)
    args_meet h ts z fails hit miss =
        is_meets (l.Sign s.OpenParen) tt room _ _ T Z ts z
        (λ p us c e.
        then_meets g (ReadsArgs P.depth (sign s.OpenParen p ∷ us)) T (FailsArgs P.depth (sign s.OpenParen p ∷ us)) Z (in_parens P p us) (parens_meet (h c) p us)
        (λ rest f. fails c rest (subst (λ z. FailsArgs P.depth z rest) (sym e) f)) (λ a rest r. hit a rest c (subst (λ z. ReadsArgs P.depth z a rest) (sym e) r)))
        (λ m.
        is_meets (l.Sign s.OpenBrace) tt room _ _ T Z ts z
        (λ p us c e.
        then_meets _ (ReadsTable P.depth p us) T (Fails (GoodTable P.depth) spell_table us) Z (P.table p us) (sp.table (h c) p us)
        (λ rest f. fails c rest (fails_in (table_in_args P.depth p) (λ x. table_app x) ts us rest e f))
        (λ x rest r. hit (arguments (only x) p) rest c (record {
          written = braced p r.written.0 r.written.1;
          good = record { formed = r.good.formed; low = r.good.low };
          what = ap (λ z. z ∷ []) r.what;
          depth = omega (arith, r.depth);
          place = refl;
          spelled = e ∙ ap (λ z. sign s.OpenBrace p ∷ z) r.spelled;
        })))
        (λ _.
        on_meets a_text (λ t. l.Text t) text_found room _ q T Z ts z
        (λ t p us c _ e. hit (arguments (only (measured (node (k.Text t) p) 1)) p) us c (record {
          written = quoted t p;
          good = record { formed = tt; low = h c };
          what = refl;
          depth = omega arith;
          place = refl;
          spelled = e;
        }))
        (λ _. miss (λ o. not_first (l.Sign s.OpenParen) ts m o refl))))
