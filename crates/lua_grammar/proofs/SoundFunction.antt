-- `function` statements are read as they are spelled.
use Rattle.std.proofs.Common.{◌≡◌, refl, sym, ◌∙◌, ap, ◌+◌, nat_le, ◌≤◌, true, List, [], ◌∷◌, Option, Some, arith}
use Rattle.std.proofs.lemmas.Bool.{leb-true}
use Rattle.lua_tokens.specs.declared.place.Place.{Place}
use Rattle.lua_tokens.specs.declared.token.Token.{Token}
use Rattle.lua_tokens.specs.declared.token.Lexeme.{Lexeme}
use Rattle.lua_tokens.specs.declared.token.Lexeme.TheVariants as l
use Rattle.lua_tokens.specs.declared.sign.Sign.TheVariants as s
use Rattle.lua_tokens.specs.declared.word.Word.TheVariants as w
use Rattle.lua_tree.specs.declared.expr.Expr.{Expr}
use Rattle.lua_tree.specs.declared.expr.ExprKind.TheVariants as k
use Rattle.lua_tree.specs.declared.stat.Stat as declared
use Rattle.lua_tree.specs.declared.stat.Stat.TheVariants as st
use Rattle.lua_grammar.specs.declared.measured.Measured.{Measured}
use Rattle.lua_grammar.specs.Tokens.{sign, word, name}
use Rattle.lua_grammar.specs.Written.{Colon, no_colon, colon, Exp, variable, field, Body, define}
use Rattle.lua_grammar.specs.Spelling.{spell, spell_colon, spell_body, spell_stat}
use Rattle.lua_grammar.specs.Formed.{IsPath}
use Rattle.lua_grammar.specs.Erasure.{node, text_node, index_node, expr_of, target_of, self_of, function_of}
use Rattle.lua_grammar.specs.Next.{a_name}
use Rattle.lua_grammar.specs.Input.{refuse, Turn, many}
use Rattle.lua_grammar.specs.Expressions.{Parts, name_leaf, dotted, function_body}
use Rattle.lua_grammar.specs.Statements.{path_turn, path, defined, after_path, after_function}
use Rattle.lua_grammar.proofs.Heights.{height, target_height}
use Rattle.lua_grammar.proofs.Shorter.{ShorterParts, path_shrinks}
use Rattle.lua_grammar.proofs.Spelled.{Opens, opens_token, opens_then, spell_app, colon_app, body_app}
use Rattle.lua_grammar.proofs.Found.{name_found}
use Rattle.lua_grammar.proofs.Fronts.{Meets, then_meets, on_meets, is_meets, TurnOf, loop_meets, Fails, Context, fails_in, stuck}
use Rattle.lua_grammar.proofs.Answered.{here, GoodBody, ReadsBody, SoundParts}
use Rattle.lua_grammar.proofs.SoundBody.{body_meets}
use Rattle.lua_grammar.proofs.SoundStat.{GoodStat, ReadsStat, FailsStat}
use Rattle.lua_grammar.proofs.SoundNames.{empty_body}

module _ (P Q R : Parts) (hp : ShorterParts P) (hq : ShorterParts Q) (hr : ShorterParts R) (sp : SoundParts P) (sq : SoundParts Q) (room : 2 ≤ P.depth) (below : Q.depth + 1 ≡ P.depth) (p : Place) (us : List Token) where
  abbrev no_body : Body
  no_body = empty_body P Q R hp hq hr sp

  abbrev ts : List Token
  ts = word w.Function p ∷ us

  abbrev o : Option Lexeme
  o = Some (l.Word w.Function)

  abbrev T : Measured declared.Stat → List Token → Type 0
  T = ReadsStat P.depth ts

  abbrev Z : List Token → Type 0
  Z = FailsStat P.depth o ts

  -- ---- names with dots between

  record PathSoFar (x : Measured Expr) (rest : List Token) : Type 0 where
    written : Exp
    path : IsPath written
    low : height written ≤ P.depth
    what : x.what ≡ expr_of written
    depth : x.depth ≡ height written
    spelled : us ≡ spell written rest

  abbrev in_path : Exp → List Token → List Token
  in_path e z = word w.Function p ∷ spell e z

  opens_path : (e : Exp) → Opens (in_path e)
  opens_path e = opens_then (λ z. word w.Function p ∷ z) (spell e) (opens_token (word w.Function p)) (spell_app e)

  define_good : (e : Exp) (c : Colon) → IsPath e → target_height (height e) c ≤ P.depth → GoodStat P.depth o (define p e c no_body)
  define_good e c i h = record { formed = (i, tt); low = omega (arith, h, room); begins = refl }

  after_names : (x : Measured Expr) (rest : List Token) → PathSoFar x rest → Z rest
  after_names x rest i = stuck (GoodStat P.depth o) spell_stat (in_path i.written) (opens_path i.written) (spell_body no_body []) (define p i.written no_colon no_body)
      (define_good i.written no_colon i.path i.low) refl ts rest (ap (λ z. word w.Function p ∷ z) i.spelled)

  path_step : (x : Measured Expr) (rest : List Token) → PathSoFar x rest → Meets (TurnOf PathSoFar PathSoFar) Z (path_turn P Q R x rest)
  path_step x rest i =
      let U : Turn (Measured Expr) (Measured Expr) → List Token → Type 0 = TurnOf PathSoFar PathSoFar in
      is_meets (l.Sign s.Dot) tt (nat_le x.depth Q.depth) _ _ U Z rest (after_names x rest i)
      (λ d vs c e.
      let low : height i.written + 1 ≤ P.depth = omega (arith, leb-true x.depth Q.depth c, i.depth, below) in
      let at1 : us ≡ spell i.written (sign s.Dot d ∷ vs) = i.spelled ∙ ap (spell i.written) e in
      let z : Z vs = stuck (GoodStat P.depth o) spell_stat (λ z. in_path i.written (sign s.Dot d ∷ z)) (opens_then (in_path i.written) (λ z. sign s.Dot d ∷ z) (opens_path i.written) (opens_token (sign s.Dot d)))
      (name [] here ∷ spell_body no_body []) (define p (field i.written d [] here) no_colon no_body) (define_good (field i.written d [] here) no_colon i.path low) refl ts vs (ap (λ z. word w.Function p ∷ z) at1) in
      on_meets a_name (λ n. l.Name n) name_found true _ refuse U Z vs z
      (λ n q ws _ _ h. record {
        written = field i.written d n q;
        path = i.path;
        low = low;
        what = ap (λ z. index_node z d (text_node n q)) i.what;
        depth = ap (λ z. z + 1) i.depth;
        spelled = at1 ∙ ap (λ z. spell i.written (sign s.Dot d ∷ z)) h;
      })
      (λ _. z))
      (λ _. i)

  -- ---- the body

  module _ (e : Exp) (c : Colon) (i : IsPath e) (h : target_height (height e) c ≤ P.depth) where
    abbrev in_target : List Token → List Token
    in_target z = in_path e (spell_colon c z)

    defined_meets : (x : Measured Expr) → x.what ≡ target_of (expr_of e) c → x.depth ≡ target_height (height e) c → (vs : List Token) → ts ≡ in_target vs
        → Meets T Z (defined P Q R p x (self_of c) vs)
    unfolding defined
    defined_meets x what depth vs at1 =
        let body_in : Context (GoodBody Q.depth) spell_body (GoodStat P.depth o) spell_stat in_target = record {
          opens = opens_then (in_path e) (spell_colon c) (opens_path e) (colon_app c);
          close = [];
          put = λ b. define p e c b;
          good = λ b g. record { formed = (i, g.formed); low = omega (arith, h, g.low, below); begins = refl };
          spelled = λ b g. refl;
        } in
        then_meets _ (ReadsBody Q.depth p (self_of c) vs) T (Fails (GoodBody Q.depth) spell_body vs) Z (function_body Q p (self_of c) vs) (body_meets Q hq sq (self_of c) (omega (arith, room, below)) p vs)
        (λ rest f. fails_in body_in body_app ts vs rest at1 f)
        (λ b rest r. record {
          written = define p e c r.written;
          formed = (i, r.good.formed);
          low = omega (arith, h, r.good.low, below);
          what = ap (λ z. st.Assign (z ∷ []) (node (k.Function (function_of p (self_of c) r.written)) p ∷ []) ∷ []) (sym what) ∙ ap (λ z. st.Assign (x.what ∷ []) (node (k.Function z) p ∷ []) ∷ []) (sym r.what);
          depth = omega (arith, depth, r.depth);
          spelled = at1 ∙ ap in_target r.spelled;
          apart = λ _. refl;
        })

  path_meets : (x : Measured Expr) (rest : List Token) → PathSoFar x rest → Meets T Z (after_path P Q R p x rest)
  unfolding after_path
  path_meets x rest i =
      let at0 : ts ≡ in_path i.written rest = ap (λ z. word w.Function p ∷ z) i.spelled in
      is_meets (l.Sign s.Colon) tt (nat_le x.depth Q.depth) _ _ T Z rest (after_names x rest i)
      (λ d vs c e.
      let low : height i.written + 1 ≤ P.depth = omega (arith, leb-true x.depth Q.depth c, i.depth, below) in
      let at1 : ts ≡ in_path i.written (sign s.Colon d ∷ vs) = at0 ∙ ap (in_path i.written) e in
      let z : Z vs = stuck (GoodStat P.depth o) spell_stat (λ z. in_path i.written (sign s.Colon d ∷ z)) (opens_then (in_path i.written) (λ z. sign s.Colon d ∷ z) (opens_path i.written) (opens_token (sign s.Colon d)))
      (name [] here ∷ spell_body no_body []) (define p i.written (colon d [] here) no_body) (define_good i.written (colon d [] here) i.path low) refl ts vs at1 in
      on_meets a_name (λ n. l.Name n) name_found true _ refuse T Z vs z
      (λ n q ws _ _ h.
      defined_meets i.written (colon d n q) i.path low (dotted x d n q) (ap (λ z. index_node z d (text_node n q)) i.what) (ap (λ z. z + 1) i.depth) ws
      (at1 ∙ ap (λ z. in_path i.written (sign s.Colon d ∷ z)) h))
      (λ _. z))
      (λ _. defined_meets i.written no_colon i.path i.low x i.what i.depth rest at0)

  pub function_meets : Meets (ReadsStat P.depth (word w.Function p ∷ us)) (FailsStat P.depth (Some (l.Word w.Function)) (word w.Function p ∷ us)) (after_function P Q R p us)
  unfolding after_function path
  function_meets =
      let z : Z us = stuck (GoodStat P.depth o) spell_stat (λ z. word w.Function p ∷ z) (opens_token (word w.Function p)) (name [] here ∷ spell_body no_body []) (define p (variable [] here) no_colon no_body)
      (define_good (variable [] here) no_colon tt (omega (arith, room))) refl ts us refl in
      on_meets a_name (λ n. l.Name n) name_found true _ refuse T Z us z
      (λ n q vs _ _ e.
      then_meets (after_path P Q R p) PathSoFar T Z Z (many (path_turn P Q R) (name_leaf n q) vs)
      (loop_meets (path_turn P Q R) (path_shrinks P Q R hp hq hr) PathSoFar PathSoFar Z path_step (name_leaf n q) vs
      (record { written = variable n q; path = tt; low = omega (arith, room); what = refl; depth = refl; spelled = e }))
      (λ _ g. g) (λ x rest i. path_meets x rest i))
      (λ _. z)
