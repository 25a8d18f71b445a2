-- The bodies of functions are read as they are spelled.
use Rattle.std.proofs.Common.{◌≡◌, refl, sym, ◌∙◌, ap, subst, ◌≤◌, Bool, true, false, List, [], ◌∷◌, ◌++◌, arith, append_assoc, append-nil}
use Rattle.lua_tokens.specs.declared.place.Place.{Place}
use Rattle.lua_tokens.specs.declared.token.Token.{Token}
use Rattle.lua_tokens.specs.declared.token.Lexeme.TheVariants as l
use Rattle.lua_tokens.specs.declared.sign.Sign.TheVariants as s
use Rattle.lua_tokens.specs.declared.word.Word.TheVariants as w
use Rattle.lua_tree.specs.declared.stat.Body as declared
use Rattle.lua_grammar.specs.declared.measured.Measured.{Measured}
use Rattle.lua_grammar.specs.Tokens.{sign, word, name}
use Rattle.lua_grammar.specs.Written.{Bytes, MoreParams, end_params, more_dots, more_param, Params, no_params, only_dots, params, body, empty}
use Rattle.lua_grammar.specs.Spelling.{spell_more_params, spell_params, spell_body, spell_stats}
use Rattle.lua_grammar.specs.Erasure.{body_of, more_params_of, params_of, more_params_dots, params_dots}
use Rattle.lua_grammar.specs.Next.{a_name}
use Rattle.lua_grammar.specs.Input.{expect, Turn}
use Rattle.lua_grammar.specs.Expressions.{Parts, last_dots, param_turn, parameters, function_body}
use Rattle.lua_grammar.proofs.Shorter.{ShorterParts, param_shrinks}
use Rattle.lua_grammar.proofs.Spelled.{Opens, opens_token, opens_then, params_app, more_params_app, stats_app}
use Rattle.lua_grammar.proofs.Found.{name_found}
use Rattle.lua_grammar.proofs.Fronts.{Meets, then_meets, on_meets, is_meets, expect_meets, TurnOf, loop_meets, Fails, Context, fails_in, stuck}
use Rattle.lua_grammar.proofs.Answered.{here, GoodBody, ReadsBody, GoodBlock, ReadsStats, SoundParts}

-- ---- parameters after which others may stand

abbrev pub IsOpen : MoreParams → Type 0
IsOpen end_params = Unit {0}
IsOpen (more_dots p q) = ⊥
IsOpen (more_param p n q ps) = IsOpen ps

abbrev pub and_params : MoreParams → MoreParams → MoreParams
and_params end_params g = g
and_params (more_dots p q) g = more_dots p q
and_params (more_param p n q ps) g = more_param p n q (and_params ps g)

and_spelled : (ps g : MoreParams) (k : List Token) → IsOpen ps → spell_more_params (and_params ps g) k ≡ spell_more_params ps (spell_more_params g k)
and_spelled end_params g k o = refl
and_spelled (more_dots p q) g k o = absurd o
and_spelled (more_param p n q ps) g k o = ap (λ z. sign s.Comma p ∷ name n q ∷ z) (and_spelled ps g k o)

and_of : (ps g : MoreParams) → IsOpen ps → more_params_of (and_params ps g) ≡ more_params_of ps ++ more_params_of g
and_of end_params g o = refl
and_of (more_dots p q) g o = absurd o
and_of (more_param p n q ps) g o = ap (λ z. (n, q) ∷ z) (and_of ps g o)

and_dots : (ps g : MoreParams) → IsOpen ps → more_params_dots (and_params ps g) ≡ more_params_dots g
and_dots end_params g o = refl
and_dots (more_dots p q) g o = absurd o
and_dots (more_param p n q ps) g o = and_dots ps g o

and_open : (ps : MoreParams) (p : Place) (n : Bytes) (q : Place) → IsOpen ps → IsOpen (and_params ps (more_param p n q end_params))
and_open end_params p n q o = tt
and_open (more_dots x y) p n q o = absurd o
and_open (more_param x m y ps) p n q o = and_open ps p n q o

-- the parameters, and the place of the parenthesis that closes them
abbrev spell_closed : Params × Place → List Token → List Token
spell_closed x k = spell_params x.0 (sign s.CloseParen x.1 ∷ k)

abbrev Any : Params × Place → Type 0
Any x = Unit {0}

module _ (P : Parts) (hp : ShorterParts P) (sp : SoundParts P) (before : List (Bytes × Place)) where
  module _ (ts : List Token) where
    record SoFar (found : List (Bytes × Place)) (us : List Token) : Type 0 where
      text : Bytes
      place : Place
      others : MoreParams
      opened : IsOpen others
      what : found ≡ before ++ (text, place) ∷ more_params_of others
      spelled : ts ≡ name text place ∷ spell_more_params others us

    record AllParams (found : List (Bytes × Place) × Bool) (rest : List Token) : Type 0 where
      written : Params × Place
      names : found.0 ≡ before ++ params_of written.0
      dots : found.1 ≡ params_dots written.0
      spelled : ts ≡ spell_closed written rest

    abbrev FailsParams : List Token → Type 0
    FailsParams rest = Fails Any spell_closed ts rest

    abbrev ParamTurn : Turn (List (Bytes × Place)) (List (Bytes × Place) × Bool) → List Token → Type 0
    ParamTurn = TurnOf SoFar AllParams

    opens_so_far : (found : List (Bytes × Place)) (us : List Token) (i : SoFar found us) → Opens (λ z. name i.text i.place ∷ spell_more_params i.others z)
    opens_so_far found us i = opens_then (λ z. name i.text i.place ∷ z) (spell_more_params i.others) (opens_token (name i.text i.place)) (more_params_app i.others)

    closed : (found : List (Bytes × Place)) (us : List Token) → SoFar found us → FailsParams us
    closed found us i = stuck Any spell_closed (λ z. name i.text i.place ∷ spell_more_params i.others z) (opens_so_far found us i) (sign s.CloseParen here ∷ [])
        (params i.text i.place i.others, here) tt refl ts us i.spelled

    -- after a comma
    after_comma : (found : List (Bytes × Place)) (p : Place) (us : List Token) → SoFar found (sign s.Comma p ∷ us) → FailsParams us
    after_comma found p us i = stuck Any spell_closed (λ z. name i.text i.place ∷ spell_more_params i.others (sign s.Comma p ∷ z))
        (opens_then (λ z. name i.text i.place ∷ spell_more_params i.others z) (λ z. sign s.Comma p ∷ z) (opens_so_far found (sign s.Comma p ∷ us) i) (opens_token (sign s.Comma p)))
        (name [] here ∷ sign s.CloseParen here ∷ []) (params i.text i.place (and_params i.others (more_param p [] here end_params)), here) tt
        (ap (λ z. name i.text i.place ∷ z) (and_spelled i.others (more_param p [] here end_params) (sign s.CloseParen here ∷ []) i.opened)) ts us i.spelled

    after_dots : (found : List (Bytes × Place)) (p q : Place) (us : List Token) → SoFar found (sign s.Comma p ∷ sign s.DotDotDot q ∷ us) → FailsParams us
    after_dots found p q us i = stuck Any spell_closed (λ z. name i.text i.place ∷ spell_more_params i.others (sign s.Comma p ∷ sign s.DotDotDot q ∷ z))
        (opens_then (λ z. name i.text i.place ∷ spell_more_params i.others z) (λ z. sign s.Comma p ∷ sign s.DotDotDot q ∷ z) (opens_so_far found (sign s.Comma p ∷ sign s.DotDotDot q ∷ us) i) (λ u v. refl))
        (sign s.CloseParen here ∷ []) (params i.text i.place (and_params i.others (more_dots p q)), here) tt
        (ap (λ z. name i.text i.place ∷ z) (and_spelled i.others (more_dots p q) (sign s.CloseParen here ∷ []) i.opened)) ts us i.spelled

    dots_read : (found : List (Bytes × Place)) (p q r : Place) (us : List Token) → SoFar found (sign s.Comma p ∷ sign s.DotDotDot q ∷ sign s.CloseParen r ∷ us) → AllParams (found, true) us
    dots_read found p q r us i = record {
      written = (params i.text i.place (and_params i.others (more_dots p q)), r);
      names = i.what ∙ ap (λ z. before ++ (i.text, i.place) ∷ z) (sym (append-nil (more_params_of i.others)) ∙ sym (and_of i.others (more_dots p q) i.opened));
      dots = sym (and_dots i.others (more_dots p q) i.opened);
      spelled = i.spelled ∙ ap (λ z. name i.text i.place ∷ z) (sym (and_spelled i.others (more_dots p q) (sign s.CloseParen r ∷ us) i.opened));
    }

    name_read : (found : List (Bytes × Place)) (p : Place) (n : Bytes) (q : Place) (us : List Token) → SoFar found (sign s.Comma p ∷ name n q ∷ us) → SoFar (found ++ (n, q) ∷ []) us
    name_read found p n q us i = record {
      text = i.text;
      place = i.place;
      others = and_params i.others (more_param p n q end_params);
      opened = and_open i.others p n q i.opened;
      what = ap (λ z. z ++ (n, q) ∷ []) i.what ∙ append_assoc before ((i.text, i.place) ∷ more_params_of i.others) ((n, q) ∷ [])
          ∙ ap (λ z. before ++ (i.text, i.place) ∷ z) (sym (and_of i.others (more_param p n q end_params) i.opened));
      spelled = i.spelled ∙ ap (λ z. name i.text i.place ∷ z) (sym (and_spelled i.others (more_param p n q end_params) us i.opened));
    }

    param_step : (found : List (Bytes × Place)) (us : List Token) → SoFar found us → Meets ParamTurn FailsParams (param_turn P found us)
    param_step found us i =
        is_meets (l.Sign s.Comma) tt true _ _ ParamTurn FailsParams us (closed found us i)
        (λ p vs _ e.
        let i' : SoFar found (sign s.Comma p ∷ vs) = subst (SoFar found) e i in
        on_meets a_name (λ n. l.Name n) name_found true _ _ ParamTurn FailsParams vs (after_comma found p vs i')
        (λ n q ws _ _ h. name_read found p n q ws (subst (λ z. SoFar found (sign s.Comma p ∷ z)) h i'))
        (λ _. is_meets (l.Sign s.DotDotDot) tt true _ _ ParamTurn FailsParams vs (after_comma found p vs i')
        (λ q ws _ h.
        let i2 : SoFar found (sign s.Comma p ∷ sign s.DotDotDot q ∷ ws) = subst (λ z. SoFar found (sign s.Comma p ∷ z)) h i' in
        then_meets _ (λ x xs. AllParams (x.0, x.1) xs) ParamTurn FailsParams FailsParams (last_dots P found ws)
        (then_meets _ (λ r xs. ws ≡ sign s.CloseParen r ∷ xs) (λ x xs. AllParams (x.0, x.1) xs) FailsParams FailsParams (expect (l.Sign s.CloseParen) ws)
        (expect_meets (l.Sign s.CloseParen) tt _ FailsParams ws (after_dots found p q ws i2) (λ r xs e2. e2)) (λ _ g. g)
        (λ r xs e2. dots_read found p q r xs (subst (λ z. SoFar found (sign s.Comma p ∷ sign s.DotDotDot q ∷ z)) e2 i2)))
        (λ _ g. g) (λ x xs a. a))
        (λ _. after_comma found p vs i')))
        (λ _. is_meets (l.Sign s.CloseParen) tt true _ _ ParamTurn FailsParams us (closed found us i)
        (λ q vs _ e. record {
          written = (params i.text i.place i.others, q);
          names = i.what;
          dots = open_dots i.others i.opened;
          spelled = i.spelled ∙ ap (λ z. name i.text i.place ∷ spell_more_params i.others z) e;
        })
        (λ _. closed found us i))
      where
        open_dots : (ps : MoreParams) → IsOpen ps → false ≡ more_params_dots ps
        open_dots end_params o = refl
        open_dots (more_dots p q) o = absurd o
        open_dots (more_param p n q ps) o = open_dots ps o

    no_param : (us : List Token) → ts ≡ us → FailsParams us
    no_param us e = stuck Any spell_closed (λ z. z) (λ u v. refl) (sign s.CloseParen here ∷ []) (no_params, here) tt refl ts us e

    params_meet : Meets AllParams FailsParams (parameters P before ts)
    unfolding parameters
    params_meet =
        on_meets a_name (λ n. l.Name n) name_found true _ _ AllParams FailsParams ts (no_param ts refl)
        (λ n p us _ _ e. loop_meets (param_turn P) (param_shrinks P hp) SoFar AllParams FailsParams param_step (before ++ (n, p) ∷ []) us
        (record { text = n; place = p; others = end_params; opened = tt; what = refl; spelled = e }))
        (λ _. is_meets (l.Sign s.DotDotDot) tt true _ _ AllParams FailsParams ts (no_param ts refl)
        (λ p us _ e.
        then_meets _ (λ r xs. us ≡ sign s.CloseParen r ∷ xs) AllParams FailsParams FailsParams (expect (l.Sign s.CloseParen) us)
        (expect_meets (l.Sign s.CloseParen) tt _ FailsParams us
        (stuck Any spell_closed (λ z. sign s.DotDotDot p ∷ z) (opens_token (sign s.DotDotDot p)) (sign s.CloseParen here ∷ []) (only_dots p, here) tt refl ts us e) (λ r xs e2. e2))
        (λ _ g. g)
        (λ r xs e2. record { written = (only_dots p, r); names = sym (append-nil before); dots = refl; spelled = e ∙ ap (λ z. sign s.DotDotDot p ∷ z) e2 }))
        (λ _. is_meets (l.Sign s.CloseParen) tt true _ _ AllParams FailsParams ts (no_param ts refl)
        (λ p us _ e. record { written = (no_params, p); names = sym (append-nil before); dots = refl; spelled = e })
        (λ _. no_param ts refl)))

  -- ---- bodies

  abbrev in_params : 1 ≤ P.depth → (p : Place) → Context Any spell_closed (GoodBody P.depth) spell_body (λ z. sign s.OpenParen p ∷ z)
  in_params room p = record {
    opens = opens_token (sign s.OpenParen p);
    close = word w.End here ∷ [];
    put = λ x. body p x.0 x.1 empty here;
    good = λ x g. record { formed = tt; low = omega (arith, room) };
    spelled = λ x g. refl;
  }

  abbrev in_block : (p : Place) (ps : Params) (q : Place) → Context (GoodBlock P.depth) spell_stats (GoodBody P.depth) spell_body (λ z. sign s.OpenParen p ∷ spell_params ps (sign s.CloseParen q ∷ z))
  in_block p ps q = record {
    opens = opens_then (λ z. sign s.OpenParen p ∷ spell_params ps z) (λ z. sign s.CloseParen q ∷ z) (opens_then (λ z. sign s.OpenParen p ∷ z) (spell_params ps) (opens_token (sign s.OpenParen p)) (params_app ps)) (opens_token (sign s.CloseParen q));
    close = word w.End here ∷ [];
    put = λ ss. body p ps q ss here;
    good = λ ss g. record { formed = g.formed; low = g.low };
    spelled = λ ss g. refl;
  }

  closed_app : (x : Params × Place) → Opens (spell_closed x)
  closed_app x = opens_then (spell_params x.0) (λ z. sign s.CloseParen x.1 ∷ z) (params_app x.0) (opens_token (sign s.CloseParen x.1))

  pub body_meets : 1 ≤ P.depth → (at : Place) (ts : List Token) → Meets (ReadsBody P.depth at before ts) (Fails (GoodBody P.depth) spell_body ts) (function_body P at before ts)
  unfolding function_body
  body_meets room at ts =
      let Z : List Token → Type 0 = Fails (GoodBody P.depth) spell_body ts in
      let T : Measured declared.Body → List Token → Type 0 = ReadsBody P.depth at before ts in
      then_meets _ (λ p us. ts ≡ sign s.OpenParen p ∷ us) T Z Z (expect (l.Sign s.OpenParen) ts)
      (expect_meets (l.Sign s.OpenParen) tt _ Z ts
      (stuck (GoodBody P.depth) spell_body (λ z. z) (λ u v. refl) (spell_body (body here no_params here empty here) []) (body here no_params here empty here) (record { formed = tt; low = omega (arith, room) }) refl ts ts refl)
      (λ p us e. e))
      (λ _ g. g)
      (λ p us e.
      then_meets _ (AllParams us) T (FailsParams us) Z (parameters P before us) (params_meet us)
      (λ rest g. fails_in (in_params room p) closed_app ts us rest e g)
      (λ ps vs a.
      let at_block : ts ≡ sign s.OpenParen p ∷ spell_closed a.written vs = e ∙ ap (λ z. sign s.OpenParen p ∷ z) a.spelled in
      then_meets _ (ReadsStats P.depth vs) T (Fails (GoodBlock P.depth) spell_stats vs) Z (P.block vs) (sp.block room vs)
      (λ rest g. fails_in (in_block p a.written.0 a.written.1) stats_app ts vs rest at_block g)
      (λ b ws r.
      let at_end : ts ≡ sign s.OpenParen p ∷ spell_params a.written.0 (sign s.CloseParen a.written.1 ∷ spell_stats r.written ws) = at_block ∙ ap (λ z. sign s.OpenParen p ∷ spell_closed a.written z) r.spelled in
      then_meets _ (λ q xs. ws ≡ word w.End q ∷ xs) T Z Z (expect (l.Word w.End) ws)
      (expect_meets (l.Word w.End) tt _ Z ws
      (stuck (GoodBody P.depth) spell_body (λ z. sign s.OpenParen p ∷ spell_params a.written.0 (sign s.CloseParen a.written.1 ∷ spell_stats r.written z))
      (opens_then (λ z. sign s.OpenParen p ∷ spell_params a.written.0 (sign s.CloseParen a.written.1 ∷ z)) (spell_stats r.written) (in_block p a.written.0 a.written.1).opens (stats_app r.written))
      (word w.End here ∷ []) (body p a.written.0 a.written.1 r.written here) (record { formed = r.formed; low = r.low }) refl ts ws at_end)
      (λ q xs e2. e2))
      (λ _ g. g)
      (λ q xs e2. record {
        written = body p a.written.0 a.written.1 r.written q;
        good = record { formed = r.formed; low = r.low };
        what = ap (λ z. body_of z ps.1 b.what at.line) a.names ∙ ap (λ z. body_of (before ++ params_of a.written.0) z b.what at.line) a.dots
            ∙ ap (λ z. body_of (before ++ params_of a.written.0) (params_dots a.written.0) z at.line) r.what;
        depth = r.depth;
        spelled = at_end ∙ ap (λ z. sign s.OpenParen p ∷ spell_params a.written.0 (sign s.CloseParen a.written.1 ∷ spell_stats r.written z)) e2;
      }))))
