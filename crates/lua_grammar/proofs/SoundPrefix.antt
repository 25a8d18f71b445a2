-- What goes on with a prefix is read as it is spelled.
use Rattle.std.proofs.Common.{◌≡◌, refl, sym, ◌∙◌, ap, subst, ℕ, ◌+◌, max, nat_le, ◌≤◌, true, List, [], ◌∷◌, Option, Some, arith}
use Rattle.std.proofs.lemmas.Bool.{leb-true}
use Rattle.lua_tokens.specs.declared.place.Place.{Place}
use Rattle.lua_tokens.specs.declared.token.Token.{Token}
use Rattle.lua_tokens.specs.declared.token.Lexeme.{Lexeme}
use Rattle.lua_tokens.specs.declared.token.Lexeme.TheVariants as l
use Rattle.lua_tokens.specs.declared.sign.Sign.TheVariants as s
use Rattle.lua_tree.specs.declared.expr.Expr.{Expr}
use Rattle.lua_tree.specs.declared.expr.ExprKind.TheVariants as k
use Rattle.lua_grammar.specs.declared.measured.Measured.{Measured}
use Rattle.lua_grammar.specs.declared.measured.Arguments.{Arguments}
use Rattle.lua_grammar.specs.Tokens.{sign, name}
use Rattle.lua_grammar.specs.Written.{Bytes, Exp, atom, function, variable, group, field, item, call, method, table, unary, binary, Args, listed, none}
use Rattle.lua_grammar.specs.Spelling.{spell, spell_args, first}
use Rattle.lua_grammar.specs.Formed.{IsVariable, IsCall}
use Rattle.lua_grammar.specs.Erasure.{node, text_node, index_node, expr_of, args_of}
use Rattle.lua_grammar.specs.Next.{a_name}
use Rattle.lua_grammar.specs.Input.{Parser, refuse, expect}
use Rattle.lua_grammar.specs.Expressions.{Parts, dotted, indexed, called, method_called, on_index, on_call}
use Rattle.lua_grammar.proofs.Begins.{exp_first}
use Rattle.lua_grammar.proofs.Heights.{height}
use Rattle.lua_grammar.proofs.Shorter.{ShorterParts}
use Rattle.lua_grammar.proofs.Spelled.{opens_token, opens_then, spell_app, args_app}
use Rattle.lua_grammar.proofs.Found.{name_found}
use Rattle.lua_grammar.proofs.Fronts.{Meets, then_meets, on_meets, is_meets, expect_meets, Context, fails_in, stuck}
use Rattle.lua_grammar.proofs.Answered.{here, Good, ReadsExpr, FailsExpr, GoodPrefix, GoodFront, Prefixed, FailsPrefix, GoodArgs, ReadsArgs, SoundParts}
use Rattle.lua_grammar.proofs.SoundArgs.{args_meet}

pub height_pos : (e : Exp) → 1 ≤ height e
height_pos (atom a p) = omega arith
height_pos (function p b) = omega arith
height_pos (variable n p) = omega arith
height_pos (group p e q) = omega arith
height_pos (field e p n q) = omega arith
height_pos (item e p x q) = omega arith
height_pos (call e a) = omega arith
height_pos (method e p n q a) = omega arith
height_pos (table p fs q) = omega arith
height_pos (unary op p e) = omega arith
height_pos (binary op p x y) = omega arith

pub plain_good : {K : Exp → Type 0} {d : ℕ} {o : Option Lexeme} {e : Exp} → GoodFront K d o e → GoodPrefix K d e
plain_good g = record { formed = g.formed; kind = g.kind; low = g.low }

module _ (P : Parts) (hp : ShorterParts P) (sp : SoundParts P) (K : Exp → Type 0) (d : ℕ) (ts : List Token) where
  -- a prefix with room for what goes on with it
  record Roomy (x : Measured Expr) (us : List Token) : Type 0 where
    is : Prefixed K d ts x us
    low : height is.written ≤ P.depth

  abbrev roomy : (x : Measured Expr) (us : List Token) → Prefixed K d ts x us → nat_le x.depth P.depth ≡ true → Roomy x us
  roomy x us r e = record { is = r; low = omega (arith, leb-true x.depth P.depth e, r.depth) }

  some_room : (x : Measured Expr) (us : List Token) → Roomy x us → 1 ≤ P.depth
  some_room x us r = omega (arith, r.low, height_pos r.is.written)

  -- what goes on with it begins as it does
  same_first : (x : Measured Expr) (us : List Token) (r : Roomy x us) (k : List Token) → first (spell r.is.written k) ≡ first ts
  same_first x us r k = exp_first r.is.written k us ∙ sym (ap first r.is.spelled)

  at : (x : Measured Expr) (us vs : List Token) → us ≡ vs → Roomy x us → Roomy x vs
  at x us vs e r = subst (Roomy x) e r

  -- ---- an index

  abbrev FailsIndex : List Token → Type 0
  FailsIndex rest = FailsPrefix IsVariable (P.depth + 1) ts rest

  no_name : (x : Measured Expr) (p : Place) (vs : List Token) → Roomy x (sign s.Dot p ∷ vs) → FailsIndex vs
  no_name x p vs r = stuck (GoodFront IsVariable (P.depth + 1) (first ts)) spell (λ z. spell r.is.written (sign s.Dot p ∷ z))
      (opens_then (spell r.is.written) (λ z. sign s.Dot p ∷ z) (spell_app r.is.written) (opens_token (sign s.Dot p)))
      (name [] here ∷ []) (field r.is.written p [] here) (record { formed = (r.is.good.formed, r.is.prefix); kind = tt; low = omega (arith, r.low); begins = same_first x _ r _ }) refl ts vs r.is.spelled

  dot_name : (x : Measured Expr) (p : Place) (n : Bytes) (q : Place) (ws : List Token) → Roomy x (sign s.Dot p ∷ name n q ∷ ws) → Prefixed IsVariable (P.depth + 1) ts (dotted x p n q) ws
  dot_name x p n q ws r = record {
    written = field r.is.written p n q;
    good = record { formed = (r.is.good.formed, r.is.prefix); kind = tt; low = omega (arith, r.low) };
    prefix = tt;
    what = ap (λ z. index_node z p (text_node n q)) r.is.what;
    depth = ap (λ z. z + 1) r.is.depth;
    spelled = r.is.spelled;
  }

  abbrev in_item : (x : Measured Expr) (p : Place) (us : List Token) (r : Roomy x us) → Context (Good P.depth 0) spell (GoodFront IsVariable (P.depth + 1) (first ts)) spell (λ z. spell r.is.written (sign s.OpenBracket p ∷ z))
  in_item x p us r = record {
    opens = opens_then (spell r.is.written) (λ z. sign s.OpenBracket p ∷ z) (spell_app r.is.written) (opens_token (sign s.OpenBracket p));
    close = sign s.CloseBracket here ∷ [];
    put = λ y. item r.is.written p y here;
    good = λ y g. record { formed = (r.is.good.formed, r.is.prefix, g.formed); kind = tt; low = omega (arith, r.low, g.low); begins = same_first x us r _ };
    spelled = λ y g. refl;
  }

  open_key : (x : Measured Expr) (p : Place) (vs : List Token) (r : Roomy x (sign s.OpenBracket p ∷ vs)) (y : Measured Expr) (rest : List Token) → ReadsExpr P.depth 0 vs y rest → FailsIndex rest
  open_key x p vs r y rest h = stuck (GoodFront IsVariable (P.depth + 1) (first ts)) spell (λ z. spell r.is.written (sign s.OpenBracket p ∷ spell h.0.written z))
      (opens_then (λ z. spell r.is.written (sign s.OpenBracket p ∷ z)) (spell h.0.written) (in_item x p (sign s.OpenBracket p ∷ vs) r).opens (spell_app h.0.written))
      (sign s.CloseBracket here ∷ []) (item r.is.written p h.0.written here) ((in_item x p (sign s.OpenBracket p ∷ vs) r).good h.0.written h.0.good) refl ts rest
      (r.is.spelled ∙ ap (λ z. spell r.is.written (sign s.OpenBracket p ∷ z)) h.0.spelled)

  bracket_key : (x : Measured Expr) (p : Place) (vs : List Token) (r : Roomy x (sign s.OpenBracket p ∷ vs)) (y : Measured Expr) (q : Place) (rest : List Token)
      → ReadsExpr P.depth 0 vs y (sign s.CloseBracket q ∷ rest) → Prefixed IsVariable (P.depth + 1) ts (indexed x p y) rest
  bracket_key x p vs r y q rest h = record {
    written = item r.is.written p h.0.written q;
    good = record { formed = (r.is.good.formed, r.is.prefix, h.0.good.formed); kind = tt; low = omega (arith, r.low, h.0.good.low) };
    prefix = tt;
    what = ap (λ z. index_node z p y.what) r.is.what ∙ ap (λ z. index_node (expr_of r.is.written) p z) h.0.what;
    depth = ap (λ z. max z y.depth + 1) r.is.depth ∙ ap (λ z. max (height r.is.written) z + 1) h.0.depth;
    spelled = r.is.spelled ∙ ap (λ z. spell r.is.written (sign s.OpenBracket p ∷ z)) h.0.spelled;
  }

  module _ {A : Type 0} (g : Measured Expr → A) (q : Parser A) (T : A → List Token → Type 0) (Z : List Token → Type 0) where
    pub index_meets : (x : Measured Expr) (us : List Token) → Prefixed K d ts x us → Z us → ((rest : List Token) → FailsPrefix IsVariable (P.depth + 1) ts rest → Z rest)
        → ((y : Measured Expr) (rest : List Token) → Prefixed IsVariable (P.depth + 1) ts y rest → T (g y) rest) → Meets T Z (q us) → Meets T Z (on_index P x g q us)
    index_meets x us r z fails hit miss =
        is_meets (l.Sign s.Dot) tt (nat_le x.depth P.depth) _ _ T Z us z
        (λ p vs c e.
        let r' : Roomy x (sign s.Dot p ∷ vs) = at x us (sign s.Dot p ∷ vs) e (roomy x us r c) in
        on_meets a_name (λ n. l.Name n) name_found true _ refuse T Z vs (fails vs (no_name x p vs r'))
        (λ n k ws _ _ h. hit (dotted x p n k) ws (dot_name x p n k ws (at x (sign s.Dot p ∷ vs) (sign s.Dot p ∷ name n k ∷ ws) (ap (λ z. sign s.Dot p ∷ z) h) r')))
        (λ _. fails vs (no_name x p vs r')))
        (λ _.
        is_meets (l.Sign s.OpenBracket) tt (nat_le x.depth P.depth) _ q T Z us z
        (λ p vs c e.
        let r' : Roomy x (sign s.OpenBracket p ∷ vs) = at x us (sign s.OpenBracket p ∷ vs) e (roomy x us r c) in
        then_meets _ (ReadsExpr P.depth 0 vs) T (FailsExpr P.depth 0 vs) Z (P.expr 0 vs) (sp.expr (some_room x (sign s.OpenBracket p ∷ vs) r') 0 (omega arith) vs)
        (λ rest f. fails rest (fails_in (in_item x p (sign s.OpenBracket p ∷ vs) r') spell_app ts vs rest r'.is.spelled f))
        (λ y rest h.
        then_meets _ (λ k ws. T (g (indexed x p y)) ws) T Z Z (expect (l.Sign s.CloseBracket) rest)
        (expect_meets (l.Sign s.CloseBracket) tt _ Z rest (fails rest (open_key x p vs r' y rest h))
        (λ k ws e2. hit (indexed x p y) ws (bracket_key x p vs r' y k ws (subst (ReadsExpr P.depth 0 vs y) e2 h))))
        (λ _ f. f) (λ _ ws t. t)))
        (λ _. miss))

  -- ---- a call

  abbrev FailsCall : List Token → Type 0
  FailsCall rest = FailsPrefix IsCall (P.depth + 1) ts rest

  abbrev empty_args : Args
  empty_args = listed here none here

  no_method : (x : Measured Expr) (p : Place) (vs : List Token) → Roomy x (sign s.Colon p ∷ vs) → FailsCall vs
  no_method x p vs r = stuck (GoodFront IsCall (P.depth + 1) (first ts)) spell (λ z. spell r.is.written (sign s.Colon p ∷ z))
      (opens_then (spell r.is.written) (λ z. sign s.Colon p ∷ z) (spell_app r.is.written) (opens_token (sign s.Colon p)))
      (name [] here ∷ spell_args empty_args []) (method r.is.written p [] here empty_args)
      (record { formed = (r.is.good.formed, r.is.prefix, tt); kind = tt; low = omega (arith, r.low); begins = same_first x _ r _ }) refl ts vs r.is.spelled

  abbrev in_method : (x : Measured Expr) (p : Place) (n : Bytes) (o : Place) (us : List Token) (r : Roomy x us)
      → Context (GoodArgs P.depth) spell_args (GoodFront IsCall (P.depth + 1) (first ts)) spell (λ z. spell r.is.written (sign s.Colon p ∷ name n o ∷ z))
  in_method x p n o us r = record {
    opens = opens_then (spell r.is.written) (λ z. sign s.Colon p ∷ name n o ∷ z) (spell_app r.is.written) (λ u v. refl);
    close = [];
    put = λ a. method r.is.written p n o a;
    good = λ a g. record { formed = (r.is.good.formed, r.is.prefix, g.formed); kind = tt; low = omega (arith, r.low, g.low); begins = same_first x us r _ };
    spelled = λ a g. refl;
  }

  no_method_args : (x : Measured Expr) (p : Place) (n : Bytes) (o : Place) (ws : List Token) → Roomy x (sign s.Colon p ∷ name n o ∷ ws) → FailsCall ws
  no_method_args x p n o ws r = stuck (GoodFront IsCall (P.depth + 1) (first ts)) spell (λ z. spell r.is.written (sign s.Colon p ∷ name n o ∷ z))
      (in_method x p n o (sign s.Colon p ∷ name n o ∷ ws) r).opens (spell_args empty_args []) (method r.is.written p n o empty_args)
      (record { formed = (r.is.good.formed, r.is.prefix, tt); kind = tt; low = omega (arith, r.low); begins = same_first x _ r _ }) refl ts ws r.is.spelled

  method_call : (x : Measured Expr) (p : Place) (n : Bytes) (o : Place) (ws : List Token) (r : Roomy x (sign s.Colon p ∷ name n o ∷ ws)) (a : Arguments) (rest : List Token)
      → ReadsArgs P.depth ws a rest → Prefixed IsCall (P.depth + 1) ts (method_called x n a) rest
  method_call x p n o ws r a rest h = record {
    written = method r.is.written p n o h.written;
    good = plain_good ((in_method x p n o (sign s.Colon p ∷ name n o ∷ ws) r).good h.written h.good);
    prefix = tt;
    what = ap (λ z. node (k.Method z n a.exprs.what) a.place) r.is.what ∙ ap (λ z. node (k.Method (expr_of r.is.written) n z) a.place) h.what
        ∙ ap (λ z. node (k.Method (expr_of r.is.written) n (args_of h.written)) z) h.place;
    depth = ap (λ z. max z a.exprs.depth + 1) r.is.depth ∙ ap (λ z. max (height r.is.written) z + 1) h.depth;
    spelled = r.is.spelled ∙ ap (λ z. spell r.is.written (sign s.Colon p ∷ name n o ∷ z)) h.spelled;
  }

  abbrev in_call : (x : Measured Expr) (us : List Token) (r : Roomy x us) → Context (GoodArgs P.depth) spell_args (GoodFront IsCall (P.depth + 1) (first ts)) spell (spell r.is.written)
  in_call x us r = record {
    opens = spell_app r.is.written;
    close = [];
    put = λ a. call r.is.written a;
    good = λ a g. record { formed = (r.is.good.formed, r.is.prefix, g.formed); kind = tt; low = omega (arith, r.low, g.low); begins = same_first x us r _ };
    spelled = λ a g. refl;
  }

  plain_call : (x : Measured Expr) (us : List Token) (r : Roomy x us) (a : Arguments) (rest : List Token) → ReadsArgs P.depth us a rest → Prefixed IsCall (P.depth + 1) ts (called x a) rest
  plain_call x us r a rest h = record {
    written = call r.is.written h.written;
    good = plain_good ((in_call x us r).good h.written h.good);
    prefix = tt;
    what = ap (λ z. node (k.Call z a.exprs.what) a.place) r.is.what ∙ ap (λ z. node (k.Call (expr_of r.is.written) z) a.place) h.what
        ∙ ap (λ z. node (k.Call (expr_of r.is.written) (args_of h.written)) z) h.place;
    depth = ap (λ z. max z a.exprs.depth + 1) r.is.depth ∙ ap (λ z. max (height r.is.written) z + 1) h.depth;
    spelled = r.is.spelled ∙ ap (spell r.is.written) h.spelled;
  }

  module _ {A : Type 0} (g : Measured Expr → A) (q : Parser A) (T : A → List Token → Type 0) (Z : List Token → Type 0) where
    pub call_meets : (x : Measured Expr) (us : List Token) → Prefixed K d ts x us → Z us → ((rest : List Token) → FailsPrefix IsCall (P.depth + 1) ts rest → Z rest)
        → ((y : Measured Expr) (rest : List Token) → Prefixed IsCall (P.depth + 1) ts y rest → T (g y) rest) → ((first us ≡ Some (l.Sign s.OpenParen) → ⊥) → Meets T Z (q us))
        → Meets T Z (on_call P x g q us)
    call_meets x us r z fails hit miss =
        is_meets (l.Sign s.Colon) tt (nat_le x.depth P.depth) _ _ T Z us z
        (λ p vs c e.
        let r' : Roomy x (sign s.Colon p ∷ vs) = at x us (sign s.Colon p ∷ vs) e (roomy x us r c) in
        on_meets a_name (λ n. l.Name n) name_found true _ refuse T Z vs (fails vs (no_method x p vs r'))
        (λ n o ws _ _ h.
        let r2 : Roomy x (sign s.Colon p ∷ name n o ∷ ws) = at x (sign s.Colon p ∷ vs) (sign s.Colon p ∷ name n o ∷ ws) (ap (λ z. sign s.Colon p ∷ z) h) r' in
        args_meet P hp sp true _ refuse T Z (λ _. some_room x (sign s.Colon p ∷ name n o ∷ ws) r2) ws (fails ws (no_method_args x p n o ws r2))
        (λ _ rest f. fails rest (fails_in (in_method x p n o (sign s.Colon p ∷ name n o ∷ ws) r2) args_app ts ws rest r2.is.spelled f))
        (λ a rest _ h2. hit (method_called x n a) rest (method_call x p n o ws r2 a rest h2))
        (λ _. fails ws (no_method_args x p n o ws r2)))
        (λ _. fails vs (no_method x p vs r')))
        (λ _.
        args_meet P hp sp (nat_le x.depth P.depth) _ q T Z (λ c. some_room x us (roomy x us r c)) us z
        (λ c rest f. fails rest (fails_in (in_call x us (roomy x us r c)) args_app ts us rest r.spelled f))
        (λ a rest c h. hit (called x a) rest (plain_call x us (roomy x us r c) a rest h))
        miss)
