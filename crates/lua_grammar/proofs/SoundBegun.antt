-- Assignments and calls are read as they are spelled.
use Rattle.std.proofs.Common.{◌≡◌, refl, sym, ◌∙◌, ap, ℕ, ◌+◌, ◌-◌, max, nat_le, ◌≤◌, true, List, [], ◌∷◌, ◌++◌, Some, arith}
use Rattle.std.proofs.lemmas.Bool.{leb-true}
use Rattle.lua_tokens.specs.declared.place.Place.{Place}
use Rattle.lua_tokens.specs.declared.token.Token.{Token}
use Rattle.lua_tokens.specs.declared.token.Lexeme.TheVariants as l
use Rattle.lua_tokens.specs.declared.sign.Sign.TheVariants as s
use Rattle.lua_tree.specs.declared.expr.Expr.{Expr}
use Rattle.lua_tree.specs.declared.stat.Stat as declared
use Rattle.lua_tree.specs.declared.stat.Stat.TheVariants as st
use Rattle.lua_grammar.specs.declared.measured.Measured.{Measured}
use Rattle.lua_grammar.specs.declared.measured.Prefix.{Prefix}
use Rattle.lua_grammar.specs.declared.measured.Ends.{Ends}
use Rattle.lua_grammar.specs.declared.measured.Ends.TheVariants as ends
use Rattle.lua_grammar.specs.Tokens.{sign, name}
use Rattle.lua_grammar.specs.Written.{Bytes, Exp, atom, function, variable, group, field, item, call, method, table, unary, binary, Args, listed, none, Tail, end_tail, more, assign, run}
use Rattle.lua_grammar.specs.Spelling.{spell, spell_args, spell_tail, spell_stat, first}
use Rattle.lua_grammar.specs.Formed.{IsPrefix, IsVariable, IsCall, AreVariables, Formed, FormedTail}
use Rattle.lua_grammar.specs.Erasure.{expr_of, tail_of}
use Rattle.lua_grammar.specs.Next.{a_name}
use Rattle.lua_grammar.specs.Input.{refuse, Turn, again, many}
use Rattle.lua_grammar.specs.Expressions.{Parts, name_leaf, only, list, group as group_reader}
use Rattle.lua_grammar.specs.Statements.{as_variable, as_call, as_group, target_turn, needs_variable, target_from, target, targets_turn, assigned, finished, prefix_turn, prefixes, begun, after_open}
use Rattle.lua_grammar.proofs.Heights.{height, tail_height}
use Rattle.lua_grammar.proofs.Shorter.{ShorterParts, target_shrinks, targets_shrinks, prefix_shrinks}
use Rattle.lua_grammar.proofs.Begins.{exp_first}
use Rattle.lua_grammar.proofs.Spelled.{opens_token, opens_then, opens_none, spell_app}
use Rattle.lua_grammar.proofs.Found.{name_found}
use Rattle.lua_grammar.proofs.Fronts.{Meets, then_meets, on_meets, is_meets, TurnOf, loop_meets, Fails, fails_in, fails_map, stuck}
use Rattle.lua_grammar.proofs.Answered.{here, GoodPrefix, GoodFront, Prefixed, FailsPrefix, ReadsList, FailsList, spell_list, SoundParts}
use Rattle.lua_grammar.proofs.SoundArgs.{snoc_tail, spell_snoc, snoc_of, snoc_height, snoc_formed, list_app, list_meets}
use Rattle.lua_grammar.proofs.SoundPrefix.{height_pos, index_meets, call_meets}
use Rattle.lua_grammar.proofs.SoundExpr.{call_prefix, group_meets}
use Rattle.lua_grammar.proofs.SoundStat.{GoodStat, ReadsStat, FailsStat, nil_exp}

-- ---- what begins with a name or a parenthesis

abbrev IsGroup : Exp → Type 0
IsGroup (group p e q) = Unit {0}
IsGroup _ = ⊥

abbrev Kind : Ends → Exp → Type 0
Kind ends.Variable e = IsVariable e
Kind ends.Call e = IsCall e
Kind ends.Group e = IsGroup e

call_high : (e : Exp) → IsCall e → 2 ≤ height e
call_high (call e a) i = omega (arith, height_pos e)
call_high (method e p n q a) i = omega (arith, height_pos e)
call_high (atom a p) i = absurd i
call_high (function p b) i = absurd i
call_high (variable n p) i = absurd i
call_high (group p e q) i = absurd i
call_high (field e p n q) i = absurd i
call_high (item e p x q) i = absurd i
call_high (table p fs q) i = absurd i
call_high (unary u p e) i = absurd i
call_high (binary op p x y) i = absurd i

group_prefix : (x : Exp) → IsGroup x → IsPrefix x
group_prefix (group p x q) i = tt
group_prefix (atom a p) i = absurd i
group_prefix (function p b) i = absurd i
group_prefix (variable n p) i = absurd i
group_prefix (field x p n q) i = absurd i
group_prefix (item x p y q) i = absurd i
group_prefix (call x a) i = absurd i
group_prefix (method x p n q a) i = absurd i
group_prefix (table p fs q) i = absurd i
group_prefix (unary u p x) i = absurd i
group_prefix (binary op p x y) i = absurd i

-- ---- targets with one more

snoc_variables : (es : Tail) (p : Place) (e : Exp) → AreVariables es → IsVariable e → AreVariables (snoc_tail es p e)
snoc_variables end_tail p e h i = (i, tt)
snoc_variables (more q x es) p e h i = (h.0, snoc_variables es p e h.1 i)

module _ (P Q R : Parts) (hp : ShorterParts P) (hq : ShorterParts Q) (hr : ShorterParts R) (sp : SoundParts P) (sq : SoundParts Q) (sr : SoundParts R)
    (room : 1 ≤ P.depth) (below : Q.depth ≡ P.depth - 1) (lower : R.depth ≡ P.depth - 2) where
  abbrev empty_args : Args
  empty_args = listed here none here

  -- ---- a target after the first

  module _ (ts : List Token) where
    FailsTarget : List Token → Type 0
    FailsTarget rest = Fails (GoodPrefix IsVariable P.depth) spell ts rest

    -- a call or a group must lie under an index
    abbrev target_room : Ends → ℕ
    target_room ends.Variable = P.depth
    target_room ends.Call = P.depth - 1
    target_room ends.Group = P.depth - 1

    abbrev InTarget : Prefix → List Token → Type 0
    InTarget x us = Prefixed (Kind x.ends) (target_room x.ends) ts x.expr us

    under_field : (d : ℕ) (e : Exp) → Formed e → IsPrefix e → height e + 1 ≤ d → GoodPrefix IsVariable d (field e here [] here)
    under_field d e f i h = record { formed = (f, i); kind = tt; low = h }

    target_here : (w : Ends) (x : Measured Expr) (us : List Token) → Prefixed (Kind w) (target_room w) ts x us → FailsTarget us
    unfolding FailsTarget
    target_here ends.Variable x us r = stuck (GoodPrefix IsVariable P.depth) spell (spell r.written) (spell_app r.written) [] r.written r.good refl ts us r.spelled
    target_here ends.Call x us r = stuck (GoodPrefix IsVariable P.depth) spell (spell r.written) (spell_app r.written) (sign s.Dot here ∷ name [] here ∷ []) (field r.written here [] here)
        (under_field P.depth r.written r.good.formed r.prefix (omega (arith, r.good.low, room))) refl ts us r.spelled
    target_here ends.Group x us r = stuck (GoodPrefix IsVariable P.depth) spell (spell r.written) (spell_app r.written) (sign s.Dot here ∷ name [] here ∷ []) (field r.written here [] here)
        (under_field P.depth r.written r.good.formed r.prefix (omega (arith, r.good.low, room))) refl ts us r.spelled

    -- a call that is not whole yet
    call_under : (rest : List Token) → FailsPrefix IsCall (R.depth + 1) ts rest → FailsTarget rest
    unfolding FailsTarget
    call_under rest f = fails_in (record {
      opens = opens_none;
      close = sign s.Dot here ∷ name [] here ∷ [];
      put = λ e. field e here [] here;
      good = λ e g. under_field P.depth e g.formed (call_prefix e g.kind) (omega (arith, g.low, lower, call_high e g.kind));
      spelled = λ e g. refl;
    }) spell_app ts ts rest refl f

    index_of : (rest : List Token) → FailsPrefix IsVariable (Q.depth + 1) ts rest → FailsTarget rest
    unfolding FailsTarget
    index_of rest f = fails_map (GoodFront IsVariable (Q.depth + 1) (first ts)) (GoodPrefix IsVariable P.depth) spell ts rest
        (λ e g. record { formed = g.formed; kind = g.kind; low = omega (arith, g.low, below, room) }) f

    target_step : (x : Prefix) (us : List Token) → InTarget x us → Meets (TurnOf InTarget InTarget) FailsTarget (target_turn P Q R x us)
    target_step x us r =
        let T : Turn Prefix Prefix → List Token → Type 0 = TurnOf InTarget InTarget in
        index_meets Q hq sq (Kind x.ends) (target_room x.ends) ts (λ e. again (as_variable e)) _ T FailsTarget x.expr us r (target_here x.ends x.expr us r) index_of
        (λ y rest h. record {
          written = h.written;
          good = record { formed = h.good.formed; kind = h.good.kind; low = omega (arith, h.good.low, below, room) };
          prefix = h.prefix;
          what = h.what;
          depth = h.depth;
          spelled = h.spelled;
        })
        (call_meets R hr sr (Kind x.ends) (target_room x.ends) ts (λ e. again (as_call e)) _ T FailsTarget x.expr us r (target_here x.ends x.expr us r) call_under
        (λ y rest h. record {
          written = h.written;
          good = record { formed = h.good.formed; kind = h.good.kind; low = omega (arith, h.good.low, lower, call_high h.written h.good.kind) };
          prefix = h.prefix;
          what = h.what;
          depth = h.depth;
          spelled = h.spelled;
        })
        (λ _. r))

    needs_meets : (w : Ends) (x : Measured Expr) (us : List Token) → Prefixed (Kind w) (target_room w) ts x us → Meets (Prefixed IsVariable P.depth ts) FailsTarget (needs_variable P Q R w x us)
    needs_meets ends.Variable x us r = r
    needs_meets ends.Call x us r = target_here ends.Call x us r
    needs_meets ends.Group x us r = target_here ends.Group x us r

    from_meets : (x : Prefix) (us : List Token) → InTarget x us → Meets (Prefixed IsVariable P.depth ts) FailsTarget (target_from P Q R x us)
    unfolding target_from
    from_meets x us r =
        then_meets _ InTarget (Prefixed IsVariable P.depth ts) FailsTarget FailsTarget (many (target_turn P Q R) x us)
        (loop_meets (target_turn P Q R) (target_shrinks P Q R hp hq hr) InTarget InTarget FailsTarget target_step x us r)
        (λ _ g. g) (λ y rest h. needs_meets y.ends y.expr rest h)

    target_meets : Meets (Prefixed IsVariable P.depth ts) FailsTarget (target P Q R ts)
    unfolding target FailsTarget
    target_meets =
        let T : Measured Expr → List Token → Type 0 = Prefixed IsVariable P.depth ts in
        let z : FailsTarget ts = stuck (GoodPrefix IsVariable P.depth) spell (λ z. z) opens_none (name [] here ∷ []) (variable [] here) (record { formed = tt; kind = tt; low = room }) refl ts ts refl in
        on_meets a_name (λ n. l.Name n) name_found true _ _ T FailsTarget ts z
        (λ n p us _ _ e. from_meets (as_variable (name_leaf n p)) us
        (record { written = variable n p; good = record { formed = tt; kind = tt; low = room }; prefix = tt; what = refl; depth = refl; spelled = e }))
        (λ _. is_meets (l.Sign s.OpenParen) tt (nat_le 3 P.depth) _ refuse T FailsTarget ts z
        (λ p us c e.
        let big : 3 ≤ P.depth = leb-true 3 P.depth c in
        then_meets _ (Prefixed IsGroup (R.depth + 1) (sign s.OpenParen p ∷ us)) T (FailsPrefix IsGroup (R.depth + 1) (sign s.OpenParen p ∷ us)) FailsTarget (group_reader R p us)
        (group_meets R hr sr (omega (arith, big, lower)) p us IsGroup (λ x q. tt))
        (λ rest f. fails_in (record {
          opens = opens_none;
          close = sign s.Dot here ∷ name [] here ∷ [];
          put = λ x. field x here [] here;
          good = λ x g. under_field P.depth x g.formed (group_prefix x g.kind) (omega (arith, g.low, lower, big));
          spelled = λ x g. refl;
        }) spell_app ts (sign s.OpenParen p ∷ us) rest e f)
        (λ x rest h. from_meets (as_group x) rest (record {
          written = h.written;
          good = record { formed = h.good.formed; kind = h.good.kind; low = omega (arith, h.good.low, lower, big) };
          prefix = h.prefix;
          what = h.what;
          depth = h.depth;
          spelled = e ∙ h.spelled;
        })))
        (λ _. z))

  -- ---- assignments

  module _ (ts : List Token) where
    Z : List Token → Type 0
    Z rest = FailsStat P.depth (first ts) ts rest

    abbrev T : Measured declared.Stat → List Token → Type 0
    T = ReadsStat P.depth ts

    record Targets (found : Measured (List Expr)) (us : List Token) : Type 0 where
      written : Exp × Tail
      formed : Formed written.0
      is_variable : IsVariable written.0
      others : FormedTail written.1
      are_variables : AreVariables written.1
      low : max (height written.0) (tail_height written.1) ≤ P.depth
      what : found.what ≡ expr_of written.0 ∷ tail_of written.1
      depth : found.depth ≡ max (height written.0) (tail_height written.1)
      spelled : ts ≡ spell_list written us

    same_first : (found : Measured (List Expr)) (us : List Token) (i : Targets found us) (k : List Token) → first (spell i.written.0 k) ≡ first ts
    same_first found us i k = exp_first i.written.0 k (spell_tail i.written.1 us) ∙ sym (ap first i.spelled)

    unassigned : (found : Measured (List Expr)) (us : List Token) → Targets found us → Z us
    unfolding Z
    unassigned found us i = stuck (GoodStat P.depth (first ts)) spell_stat (spell_list i.written) (list_app i.written) (sign s.Equal here ∷ spell nil_exp []) (assign i.written.0 i.written.1 here nil_exp end_tail)
        (record { formed = (i.formed, i.is_variable, i.others, i.are_variables, tt, tt); low = omega (arith, i.low, room); begins = same_first found us i _ }) refl ts us i.spelled

    targets_step : (found : Measured (List Expr)) (us : List Token) → Targets found us → Meets (TurnOf Targets T) Z (targets_turn P Q R found us)
    unfolding Z FailsTarget
    targets_step found us i =
        let U : Turn (Measured (List Expr)) (Measured declared.Stat) → List Token → Type 0 = TurnOf Targets T in
        is_meets (l.Sign s.Comma) tt true _ _ U Z us (unassigned found us i)
        (λ c vs _ e.
        let F : List Token → List Token = λ z. spell_list i.written (sign s.Comma c ∷ z) in
        let at1 : ts ≡ F vs = i.spelled ∙ ap (spell_list i.written) e in
        then_meets _ (Prefixed IsVariable P.depth vs) U (FailsTarget vs) Z (target P Q R vs) (target_meets vs)
        (λ rest f. fails_in (record {
          opens = opens_then (spell_list i.written) (λ z. sign s.Comma c ∷ z) (list_app i.written) (opens_token (sign s.Comma c));
          close = sign s.Equal here ∷ spell nil_exp [];
          put = λ x. assign i.written.0 (snoc_tail i.written.1 c x) here nil_exp end_tail;
          good = λ x g. record {
            formed = (i.formed, i.is_variable, snoc_formed i.written.1 c x i.others g.formed, snoc_variables i.written.1 c x i.are_variables g.kind, tt, tt);
            low = omega (arith, i.low, g.low, room, snoc_height i.written.1 c x);
            begins = same_first found us i _;
          };
          spelled = λ x g. ap (spell i.written.0) (spell_snoc i.written.1 c x _);
        }) spell_app ts vs rest at1 f)
        (λ x rest h. record {
          written = (i.written.0, snoc_tail i.written.1 c h.written);
          formed = i.formed;
          is_variable = i.is_variable;
          others = snoc_formed i.written.1 c h.written i.others h.good.formed;
          are_variables = snoc_variables i.written.1 c h.written i.are_variables h.good.kind;
          low = omega (arith, i.low, h.good.low, snoc_height i.written.1 c h.written);
          what = ap (λ z. z ++ x.what ∷ []) i.what ∙ ap (λ z. expr_of i.written.0 ∷ (tail_of i.written.1 ++ z ∷ [])) h.what ∙ ap (λ z. expr_of i.written.0 ∷ z) (sym (snoc_of i.written.1 c h.written));
          depth = omega (arith, i.depth, h.depth, snoc_height i.written.1 c h.written);
          spelled = at1 ∙ ap F h.spelled ∙ ap (spell i.written.0) (sym (spell_snoc i.written.1 c h.written rest));
        }))
        (λ _. is_meets (l.Sign s.Equal) tt true _ refuse U Z us (unassigned found us i)
        (λ q vs _ e.
        let at1 : ts ≡ spell_list i.written (sign s.Equal q ∷ vs) = i.spelled ∙ ap (spell_list i.written) e in
        then_meets _ (ReadsList P.depth vs) U (FailsList P.depth vs) Z (list P vs) (list_meets P hp sp room vs)
        (λ rest f. fails_in (record {
          opens = opens_then (spell_list i.written) (λ z. sign s.Equal q ∷ z) (list_app i.written) (opens_token (sign s.Equal q));
          close = [];
          put = λ x. assign i.written.0 i.written.1 q x.0 x.1;
          good = λ x g. record { formed = (i.formed, i.is_variable, i.others, i.are_variables, g.formed, g.tail); low = omega (arith, i.low, g.low); begins = same_first found us i _ };
          spelled = λ x g. refl;
        }) list_app ts vs rest at1 f)
        (λ es rest r. record {
          written = assign i.written.0 i.written.1 q r.written.0 r.written.1;
          formed = (i.formed, i.is_variable, i.others, i.are_variables, r.good.formed, r.good.tail);
          low = omega (arith, i.low, r.good.low);
          what = ap (λ z. st.Assign z (expr_of r.written.0 ∷ tail_of r.written.1) ∷ []) (sym i.what) ∙ ap (λ z. st.Assign found.what z ∷ []) (sym r.what);
          depth = omega (arith, i.depth, r.depth);
          spelled = at1 ∙ ap (λ z. spell_list i.written (sign s.Equal q ∷ z)) r.spelled;
          apart = r.no_call;
        }))
        (λ _. unassigned found us i))

    -- ---- the first part

    abbrev first_room : Ends → ℕ
    first_room ends.Variable = P.depth
    first_room ends.Call = P.depth
    first_room ends.Group = P.depth - 1

    record Begun (x : Prefix) (us : List Token) : Type 0 where
      is : Prefixed (Kind x.ends) (first_room x.ends) ts x.expr us

    begun_first : (x : Measured Expr) (us : List Token) (K : Exp → Type 0) (d : ℕ) (r : Prefixed K d ts x us) (k : List Token) → first (spell r.written k) ≡ first ts
    begun_first x us K d r k = exp_first r.written k us ∙ sym (ap first r.spelled)

    begun_here : (w : Ends) (x : Measured Expr) (us : List Token) → Prefixed (Kind w) (first_room w) ts x us → Z us
    unfolding Z
    begun_here ends.Variable x us r = stuck (GoodStat P.depth (first ts)) spell_stat (spell r.written) (spell_app r.written) (sign s.Equal here ∷ spell nil_exp []) (assign r.written end_tail here nil_exp end_tail)
        (record { formed = (r.good.formed, r.good.kind, tt, tt, tt, tt); low = omega (arith, r.good.low, room); begins = begun_first x us IsVariable P.depth r _ }) refl ts us r.spelled
    begun_here ends.Call x us r = stuck (GoodStat P.depth (first ts)) spell_stat (spell r.written) (spell_app r.written) [] (run r.written)
        (record { formed = (r.good.formed, r.good.kind); low = r.good.low; begins = begun_first x us IsCall P.depth r _ }) refl ts us r.spelled
    begun_here ends.Group x us r = stuck (GoodStat P.depth (first ts)) spell_stat (spell r.written) (spell_app r.written) (spell_args empty_args []) (run (call r.written empty_args))
        (record { formed = ((r.good.formed, r.prefix, tt), tt); low = omega (arith, r.good.low, room); begins = begun_first x us IsGroup (P.depth - 1) r _ }) refl ts us r.spelled

    index_fails : (rest : List Token) → FailsPrefix IsVariable (Q.depth + 1) ts rest → Z rest
    unfolding Z
    index_fails rest f = fails_in (record {
      opens = opens_none;
      close = sign s.Equal here ∷ spell nil_exp [];
      put = λ e. assign e end_tail here nil_exp end_tail;
      good = λ e g. record { formed = (g.formed, g.kind, tt, tt, tt, tt); low = omega (arith, g.low, below, room); begins = exp_first e _ [] ∙ g.begins };
      spelled = λ e g. refl;
    }) spell_app ts ts rest refl f

    call_fails : (rest : List Token) → FailsPrefix IsCall (Q.depth + 1) ts rest → Z rest
    unfolding Z
    call_fails rest f = fails_in (record {
      opens = opens_none;
      close = [];
      put = λ e. run e;
      good = λ e g. record { formed = (g.formed, g.kind); low = omega (arith, g.low, below, room); begins = g.begins };
      spelled = λ e g. refl;
    }) spell_app ts ts rest refl f

    record AllBegun (x : Prefix) (us : List Token) : Type 0 where
      is : Begun x us
      no_call : first us ≡ Some (l.Sign s.OpenParen) → ⊥

    prefix_step : (x : Prefix) (us : List Token) → Begun x us → Meets (TurnOf Begun AllBegun) Z (prefix_turn P Q R x us)
    prefix_step x us r =
        let U : Turn Prefix Prefix → List Token → Type 0 = TurnOf Begun AllBegun in
        index_meets Q hq sq (Kind x.ends) (first_room x.ends) ts (λ e. again (as_variable e)) _ U Z x.expr us r.is (begun_here x.ends x.expr us r.is) index_fails
        (λ y rest h. record {
          is = record {
            written = h.written;
            good = record { formed = h.good.formed; kind = h.good.kind; low = omega (arith, h.good.low, below, room) };
            prefix = h.prefix;
            what = h.what;
            depth = h.depth;
            spelled = h.spelled;
          };
        })
        (call_meets Q hq sq (Kind x.ends) (first_room x.ends) ts (λ e. again (as_call e)) _ U Z x.expr us r.is (begun_here x.ends x.expr us r.is) call_fails
        (λ y rest h. record {
          is = record {
            written = h.written;
            good = record { formed = h.good.formed; kind = h.good.kind; low = omega (arith, h.good.low, below, room) };
            prefix = h.prefix;
            what = h.what;
            depth = h.depth;
            spelled = h.spelled;
          };
        })
        (λ n. record { is = r; no_call = n }))

    finished_meets : (w : Ends) (x : Measured Expr) (us : List Token) → Prefixed (Kind w) (first_room w) ts x us → (first us ≡ Some (l.Sign s.OpenParen) → ⊥) → Meets T Z (finished P Q R w x us)
    unfolding assigned
    finished_meets ends.Variable x us r n =
        loop_meets (targets_turn P Q R) (targets_shrinks P Q R hp hq hr) Targets T Z targets_step (only x) us
        (record {
          written = (r.written, end_tail);
          formed = r.good.formed;
          is_variable = r.good.kind;
          others = tt;
          are_variables = tt;
          low = omega (arith, r.good.low);
          what = ap (λ z. z ∷ []) r.what;
          depth = omega (arith, r.depth);
          spelled = r.spelled;
        })
    finished_meets ends.Call x us r n = record {
      written = run r.written;
      formed = (r.good.formed, r.good.kind);
      low = r.good.low;
      what = ap (λ z. st.Call z ∷ []) (sym r.what);
      depth = r.depth;
      spelled = r.spelled;
      apart = λ o. absurd (n o);
    }
    finished_meets ends.Group x us r n = begun_here ends.Group x us r

    begun_meets : (x : Prefix) (us : List Token) → Begun x us → Meets T Z (begun P Q R x us)
    unfolding begun prefixes
    begun_meets x us r =
        then_meets _ AllBegun T Z Z (many (prefix_turn P Q R) x us) (loop_meets (prefix_turn P Q R) (prefix_shrinks P Q R hp hq hr) Begun AllBegun Z prefix_step x us r)
        (λ _ g. g) (λ y rest h. finished_meets y.ends y.expr rest h.is.is h.no_call)

  pub name_meets : (n : Bytes) (p : Place) (us : List Token)
      → Meets (ReadsStat P.depth (name n p ∷ us)) (FailsStat P.depth (Some (l.Name n)) (name n p ∷ us)) (begun P Q R (as_variable (name_leaf n p)) us)
  unfolding Z
  name_meets n p us = begun_meets (name n p ∷ us) (as_variable (name_leaf n p)) us
      (record { is = record { written = variable n p; good = record { formed = tt; kind = tt; low = room }; prefix = tt; what = refl; depth = refl; spelled = refl } })

  pub open_meets : 3 ≤ P.depth → (p : Place) (us : List Token)
      → Meets (ReadsStat P.depth (sign s.OpenParen p ∷ us)) (FailsStat P.depth (Some (l.Sign s.OpenParen)) (sign s.OpenParen p ∷ us)) (after_open P Q R p us)
  unfolding Z after_open
  open_meets big p us =
      let ts : List Token = sign s.OpenParen p ∷ us in
      then_meets _ (Prefixed IsGroup (R.depth + 1) ts) (T ts) (FailsPrefix IsGroup (R.depth + 1) ts) (Z ts) (group_reader R p us)
      (group_meets R hr sr (omega (arith, big, lower)) p us IsGroup (λ x q. tt))
      (λ rest f. fails_in (record {
        opens = opens_none;
        close = spell_args empty_args [];
        put = λ x. run (call x empty_args);
        good = λ x g. record { formed = ((g.formed, group_prefix x g.kind, tt), tt); low = omega (arith, g.low, lower, big); begins = exp_first x _ [] ∙ g.begins };
        spelled = λ x g. refl;
      }) spell_app ts ts rest refl f)
      (λ x rest h. begun_meets ts (as_group x) rest (record {
        is = record {
          written = h.written;
          good = record { formed = h.good.formed; kind = h.good.kind; low = omega (arith, h.good.low, lower, big) };
          prefix = h.prefix;
          what = h.what;
          depth = h.depth;
          spelled = h.spelled;
        };
      }))
