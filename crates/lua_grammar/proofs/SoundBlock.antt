-- Blocks are read as they are spelled.
use Rattle.std.proofs.Common.{◌≡◌, refl, sym, ◌∙◌, ap, subst, ℕ, zero, suc, ◌+◌, ◌-◌, max, nat_le, ◌≤◌, Bool, true, false, if◌then◌else◌, List, [], ◌∷◌, ◌++◌, Option, Some, None, arith, append-nil, append_assoc}
use Rattle.std.proofs.lemmas.Bool.{leb-true}
use Rattle.lua_tokens.specs.declared.place.Place.{Place}
use Rattle.lua_tokens.specs.declared.token.Token.{Token}
use Rattle.lua_tokens.specs.declared.token.Lexeme.{Lexeme}
use Rattle.lua_tokens.specs.declared.token.Lexeme.TheVariants as l
use Rattle.lua_tokens.specs.declared.sign.Sign.TheVariants as s
use Rattle.lua_tokens.specs.declared.word.Word.TheVariants as w
use Rattle.lua_tree.specs.declared.expr.Expr.{Expr}
use Rattle.lua_tree.specs.declared.stat.Stat as declared
use Rattle.lua_tree.specs.declared.stat.Stat.TheVariants as st
use Rattle.lua_grammar.specs.declared.measured.Measured.{Measured}
use Rattle.lua_grammar.specs.Tokens.{sign, word, name}
use Rattle.lua_grammar.specs.Written.{Exps, none, some, Stats, empty, stat, answer, Stat, skip, leave, each, end_names, end_tail}
use Rattle.lua_grammar.specs.Spelling.{spell, spell_exps, spell_semicolon, spell_stats, spell_stat, first}
use Rattle.lua_grammar.specs.Formed.{FormedExps, FormedStats, stat_ends_in_prefix}
use Rattle.lua_grammar.specs.Erasure.{exps_of, stats_of, stat_of}
use Rattle.lua_grammar.specs.Next.{a_name, ends_return}
use Rattle.lua_grammar.specs.Input.{Parser, pure, refuse, ◌>>=◌, before, Turn, done, many}
use Rattle.lua_grammar.specs.Expressions.{Parts, measured, name_leaf, nothing, with_one, list}
use Rattle.lua_grammar.specs.Statements.{after_for, for_numbers, for_each, begun, as_variable, after_open, after_goto, after_colons, after_local, after_if, after_function, after_while, after_repeat, after_do, returned, semicolon, after_return, add, stat_turn, more_stats, block}
use Rattle.lua_grammar.proofs.Heights.{exps_height, stats_height, stat_height}
use Rattle.lua_grammar.proofs.Shorter.{ShorterParts, stat_shrinks}
use Rattle.lua_grammar.proofs.Begins.{stat_first}
use Rattle.lua_grammar.proofs.Spelled.{Opens, opens_token, opens_then, exps_app, stats_app, stat_app}
use Rattle.lua_grammar.proofs.Found.{name_found}
use Rattle.lua_grammar.proofs.Fronts.{Meets, weaken, then_meets, on_meets, is_meets, TurnOf, loop_meets, Fails, Context, fails_in, fails_map, stuck}
use Rattle.lua_grammar.proofs.Answered.{here, NoCall, GoodList, ReadsList, FailsList, spell_list, GoodStats, GoodBlock, ReadsStats, SoundParts}
use Rattle.lua_grammar.proofs.SoundArgs.{list_app, list_meets}
use Rattle.lua_grammar.proofs.SoundStat.{nil_exp, GoodStat, ReadsStat, FailsStat, do_meets, while_meets, repeat_meets, numbers_meet}
use Rattle.lua_grammar.proofs.SoundJump.{goto_meets, label_meets}
use Rattle.lua_grammar.proofs.SoundIf.{if_meets}
use Rattle.lua_grammar.proofs.SoundNames.{each_meets, local_meets}
use Rattle.lua_grammar.proofs.SoundFunction.{function_meets}
use Rattle.lua_grammar.proofs.SoundBegun.{name_meets, open_meets}

-- ---- statements after which others may stand

abbrev pub IsOpen : Stats → Type 0
IsOpen empty = Unit {0}
IsOpen (stat x ss) = IsOpen ss
IsOpen (answer p es m) = ⊥

abbrev pub and_stats : Stats → Stats → Stats
and_stats empty g = g
and_stats (stat x ss) g = stat x (and_stats ss g)
and_stats (answer p es m) g = answer p es m

-- whether the last of them ends in a prefix
abbrev pub last_in_prefix : Stats → Bool
last_in_prefix empty = false
last_in_prefix (stat x empty) = stat_ends_in_prefix x
last_in_prefix (stat x (stat y ss)) = last_in_prefix (stat y ss)
last_in_prefix (stat x (answer p es m)) = false
last_in_prefix (answer p es m) = false

and_spelled : (ss g : Stats) (k : List Token) → IsOpen ss → spell_stats (and_stats ss g) k ≡ spell_stats ss (spell_stats g k)
and_spelled empty g k o = refl
and_spelled (stat x ss) g k o = ap (spell_stat x) (and_spelled ss g k o)
and_spelled (answer p es m) g k o = absurd o

and_of : (ss g : Stats) → IsOpen ss → stats_of (and_stats ss g) ≡ stats_of ss ++ stats_of g
and_of empty g o = refl
and_of (stat x ss) g o = ap (λ z. stat_of x ++ z) (and_of ss g o) ∙ sym (append_assoc (stat_of x) (stats_of ss) (stats_of g))
and_of (answer p es m) g o = absurd o

and_height : (ss g : Stats) → IsOpen ss → stats_height (and_stats ss g) ≡ max (stats_height ss) (stats_height g)
and_height empty g o = omega arith
and_height (stat x ss) g o = omega (arith, and_height ss g o)
and_height (answer p es m) g o = absurd o

and_open : (ss : Stats) (x : Stat) → IsOpen ss → IsOpen (and_stats ss (stat x empty))
and_open empty x o = tt
and_open (stat y ss) x o = and_open ss x o
and_open (answer p es m) x o = absurd o

and_last : (ss : Stats) (x : Stat) → IsOpen ss → last_in_prefix (and_stats ss (stat x empty)) ≡ stat_ends_in_prefix x
and_last empty x o = refl
and_last (stat y empty) x o = refl
and_last (stat y (stat z ss)) x o = and_last (stat z ss) x o
and_last (stat y (answer p es m)) x o = absurd o
and_last (answer p es m) x o = absurd o

abbrev Follows : Stats → Stats → Type 0
Follows ss g = first (spell_stats g []) ≡ Some (l.Sign s.OpenParen) → last_in_prefix ss ≡ false

and_formed : (ss g : Stats) → IsOpen ss → FormedStats ss → FormedStats g → Follows ss g → FormedStats (and_stats ss g)
and_formed empty g o f h n = h
and_formed (stat x empty) g o f h n = (f.0, h, n)
and_formed (stat x (stat y ss)) g o f h n =
    (f.0, and_formed (stat y ss) g o f.1 h n, λ e. f.2 (stat_first y (spell_stats ss []) (spell_stats (and_stats ss g) []) ∙ e))
and_formed (stat x (answer p es m)) g o f h n = absurd o
and_formed (answer p es m) g o f h n = absurd o

no_parenthesis : (x : Stat) → first [] ≡ Some (l.Sign s.OpenParen) → stat_ends_in_prefix x ≡ false
no_parenthesis x e = (let no : None ≡ Some (l.Sign s.OpenParen) = e in cc)

-- no statement is expected where this follows
before_meets : {A : Type 0} (test : Lexeme → Bool) (p q : Parser A) (T : A → List Token → Type 0) (Z : List Token → Type 0) (ts : List Token) → Meets T Z (p ts) → Meets T Z (q ts) → Meets T Z (before test p q ts)
unfolding before
before_meets test p q T Z [] h g = g
before_meets test p q T Z (x ∷ ts) h g = by_test (test x.what)
  where
    by_test : (c : Bool) → Meets T Z (if c then p (x ∷ ts) else q (x ∷ ts))
    by_test true = h
    by_test false = g

module _ (P Q R : Parts) (hp : ShorterParts P) (hq : ShorterParts Q) (hr : ShorterParts R) (sp : SoundParts P) (sq : SoundParts Q) (sr : SoundParts R)
    (below : Q.depth ≡ P.depth - 1) (lower : R.depth ≡ P.depth - 2) (ts : List Token) where
  record SoFar (found : Measured (List declared.Stat)) (us : List Token) : Type 0 where
    written : Stats
    opened : IsOpen written
    formed : FormedStats written
    low : stats_height written ≤ P.depth
    what : found.what ≡ stats_of written
    depth : found.depth ≡ stats_height written
    spelled : ts ≡ spell_stats written us
    last : NoCall (last_in_prefix written) us

  record AllStats (found : Measured (List declared.Stat)) (rest : List Token) : Type 0 where
    written : Stats
    formed : FormedStats written
    low : stats_height written ≤ P.depth
    what : found.what ≡ stats_of written
    depth : found.depth ≡ stats_height written
    spelled : ts ≡ spell_stats written rest

  abbrev Z : List Token → Type 0
  Z rest = Fails (GoodStats P.depth) spell_stats ts rest

  closed : (found : Measured (List declared.Stat)) (us : List Token) → SoFar found us → Z us
  closed found us i = stuck (GoodStats P.depth) spell_stats (spell_stats i.written) (stats_app i.written) [] i.written (record { formed = i.formed; low = i.low }) refl ts us i.spelled

  -- a statement that begins with the next token, in its place
  abbrev in_stats : (found : Measured (List declared.Stat)) (us : List Token) (i : SoFar found us) → Context (GoodStat P.depth (first us)) spell_stat (GoodStats P.depth) spell_stats (spell_stats i.written)
  in_stats found us i = record {
    opens = stats_app i.written;
    close = [];
    put = λ x. and_stats i.written (stat x empty);
    good = λ x g. record {
      formed = and_formed i.written (stat x empty) i.opened i.formed (g.formed, tt, no_parenthesis x) (λ e. i.last (sym g.begins ∙ e));
      low = omega (arith, i.low, g.low, and_height i.written (stat x empty) i.opened);
    };
    spelled = λ x g. and_spelled i.written (stat x empty) [] i.opened;
  }

  one_more : (found : Measured (List declared.Stat)) (us : List Token) (i : SoFar found us) (x : Measured declared.Stat) (rest : List Token) (y : Stat) → FormedStats (and_stats i.written (stat y empty))
      → stat_height y ≤ P.depth → stat_of y ≡ x.what ∷ [] → x.depth ≡ stat_height y → us ≡ spell_stat y rest → NoCall (stat_ends_in_prefix y) rest → SoFar (with_one found x) rest
  one_more found us i x rest y formed low what depth spelled apart = record {
    written = and_stats i.written (stat y empty);
    opened = and_open i.written y i.opened;
    formed = formed;
    low = omega (arith, i.low, low, and_height i.written (stat y empty) i.opened);
    what = ap (λ z. z ++ x.what ∷ []) i.what ∙ ap (λ z. stats_of i.written ++ (z ++ [])) (sym what) ∙ sym (and_of i.written (stat y empty) i.opened);
    depth = omega (arith, i.depth, depth, and_height i.written (stat y empty) i.opened);
    spelled = i.spelled ∙ ap (spell_stats i.written) spelled ∙ sym (and_spelled i.written (stat y empty) rest i.opened);
    last = λ e. and_last i.written y i.opened ∙ apart e;
  }

  begins_as : (us : List Token) (x : Measured declared.Stat) (rest : List Token) (r : ReadsStat P.depth us x rest) → first (spell_stat r.written []) ≡ first us
  begins_as us x rest r = stat_first r.written [] rest ∙ sym (ap first r.spelled)

  abbrev BlockTurn : Turn (Measured (List declared.Stat)) (Measured (List declared.Stat)) → List Token → Type 0
  BlockTurn = TurnOf SoFar AllStats

  -- a statement that is read from here on
  add_meets : (found : Measured (List declared.Stat)) (us : List Token) → SoFar found us → (o : Option Lexeme) → first us ≡ o → (p : Parser (Measured declared.Stat)) (vs : List Token)
      → Meets (ReadsStat P.depth us) (FailsStat P.depth o us) (p vs) → Meets BlockTurn Z (add P Q R found p vs)
  add_meets found us i o e p vs h =
      then_meets _ (ReadsStat P.depth us) BlockTurn (FailsStat P.depth o us) Z (p vs) h
      (λ rest f. fails_in (in_stats found us i) stat_app ts us rest i.spelled (subst (λ z. FailsStat P.depth z us rest) (sym e) f))
      (λ x rest r. one_more found us i x rest r.written
      ((in_stats found us i).good r.written (record { formed = r.formed; low = r.low; begins = begins_as us x rest r })).formed r.low r.what r.depth r.spelled r.apart)

  -- ---- `return`

  record ReadsExps (us : List Token) (x : Measured (List Expr)) (rest : List Token) : Type 0 where
    written : Exps
    formed : FormedExps written
    low : exps_height written ≤ P.depth
    what : x.what ≡ exps_of written
    depth : x.depth ≡ exps_height written
    spelled : us ≡ spell_exps written rest

  module _ (found : Measured (List declared.Stat)) (p : Place) (us : List Token) (i : SoFar found (word w.Return p ∷ us)) where
    abbrev in_return : List Token → List Token
    in_return z = spell_stats i.written (word w.Return p ∷ z)

    opens_return : Opens in_return
    opens_return = opens_then (spell_stats i.written) (λ z. word w.Return p ∷ z) (stats_app i.written) (opens_token (word w.Return p))

    answer_good : (es : Exps) (m : Option Place) → FormedExps es → exps_height es ≤ P.depth → GoodStats P.depth (and_stats i.written (answer p es m))
    answer_good es m f h = record {
      formed = and_formed i.written (answer p es m) i.opened i.formed f (λ e. (let no : Some (l.Word w.Return) ≡ Some (l.Sign s.OpenParen) = e in cc));
      low = omega (arith, i.low, h, and_height i.written (answer p es m) i.opened);
    }

    bare : Z us
    bare = stuck (GoodStats P.depth) spell_stats in_return opens_return [] (and_stats i.written (answer p none None)) (answer_good none None tt (omega arith)) (and_spelled i.written (answer p none None) [] i.opened) ts us i.spelled

    abbrev in_answer : Context (GoodList P.depth) spell_list (GoodStats P.depth) spell_stats in_return
    in_answer = record {
      opens = opens_return;
      close = [];
      put = λ x. and_stats i.written (answer p (some x.0 x.1) None);
      good = λ x g. answer_good (some x.0 x.1) None (g.formed, g.tail) g.low;
      spelled = λ x g. and_spelled i.written (answer p (some x.0 x.1) None) [] i.opened;
    }

    some_meets : 1 ≤ P.depth → Meets (ReadsExps us) Z (list P us)
    some_meets room =
        weaken (ReadsList P.depth us) (ReadsExps us) (FailsList P.depth us) Z (list P us)
        (λ x rest r. record { written = some r.written.0 r.written.1; formed = (r.good.formed, r.good.tail); low = r.good.low; what = r.what; depth = r.depth; spelled = r.spelled })
        (λ rest f. fails_in in_answer list_app ts us rest i.spelled f) (list_meets P hp sp room us)

    listed_meets : (d : ℕ) → P.depth ≡ d → Meets (ReadsExps us) Z (list P us)
    unfolding list
    listed_meets zero e = then_meets _ (λ _ _. ⊥) (ReadsExps us) (λ rest. rest ≡ us) Z (P.expr 0 us) (sp.flat e 0 us) (λ rest g. subst Z (sym g) bare) (λ x rest h. absurd h)
    listed_meets (suc d) e = some_meets (omega (arith, e))

    return_meets : Meets BlockTurn Z ((after_return P Q R >>= λ x. pure (done (with_one found x))) us)
    unfolding after_return returned semicolon
    return_meets =
        then_meets _ (λ x rest. AllStats (with_one found x) rest) BlockTurn Z Z (after_return P Q R us)
        (then_meets _ (ReadsExps us) (λ x rest. AllStats (with_one found x) rest) Z Z (returned P Q R us)
        (before_meets ends_return (pure nothing) (list P) (ReadsExps us) Z us (record { written = none; formed = tt; low = omega arith; what = refl; depth = refl; spelled = refl }) (listed_meets P.depth refl))
        (λ _ g. g)
        (λ es rest r.
        then_meets _ (λ _ end. AllStats (with_one found (measured (st.Return es.what) es.depth)) end) (λ x rest. AllStats (with_one found x) rest) Z Z (semicolon P Q R rest)
        (is_meets (l.Sign s.Semicolon) tt true _ _ (λ _ end. AllStats (with_one found (measured (st.Return es.what) es.depth)) end) Z rest
        (stuck (GoodStats P.depth) spell_stats (λ z. in_return (spell_exps r.written z)) (opens_then in_return (spell_exps r.written) opens_return (exps_app r.written)) []
        (and_stats i.written (answer p r.written None)) (answer_good r.written None r.formed r.low) (and_spelled i.written (answer p r.written None) [] i.opened) ts rest (i.spelled ∙ ap in_return r.spelled))
        (λ q vs _ e. ended es rest r (Some q) vs e) (λ _. ended es rest r None rest refl))
        (λ _ g. g) (λ _ end h. h)))
        (λ _ g. g) (λ x rest h. h)
      where
        ended : (es : Measured (List Expr)) (rest : List Token) (r : ReadsExps us es rest) (m : Option Place) (vs : List Token) → rest ≡ spell_semicolon m vs → AllStats (with_one found (measured (st.Return es.what) es.depth)) vs
        ended es rest r m vs e = record {
          written = and_stats i.written (answer p r.written m);
          formed = (answer_good r.written m r.formed r.low).formed;
          low = (answer_good r.written m r.formed r.low).low;
          what = ap (λ z. z ++ st.Return es.what ∷ []) i.what ∙ ap (λ z. stats_of i.written ++ st.Return z ∷ []) r.what ∙ sym (and_of i.written (answer p r.written m) i.opened);
          depth = omega (arith, i.depth, r.depth, and_height i.written (answer p r.written m) i.opened);
          spelled = i.spelled ∙ ap in_return (r.spelled ∙ ap (spell_exps r.written) e) ∙ sym (and_spelled i.written (answer p r.written m) vs i.opened);
        }

  -- ---- `for`

  for_meets : 1 ≤ P.depth → (p : Place) (us : List Token) → Meets (ReadsStat P.depth (word w.For p ∷ us)) (FailsStat P.depth (Some (l.Word w.For)) (word w.For p ∷ us)) (after_for P Q R us)
  unfolding after_for
  for_meets room p us =
      let whole : List Token = word w.For p ∷ us in
      let T : Measured declared.Stat → List Token → Type 0 = ReadsStat P.depth whole in
      let Y : List Token → Type 0 = FailsStat P.depth (Some (l.Word w.For)) whole in
      let z : Y us = stuck (GoodStat P.depth (Some (l.Word w.For))) spell_stat (λ z. word w.For p ∷ z) (opens_token (word w.For p)) (name [] here ∷ word w.In here ∷ spell nil_exp (word w.Do here ∷ word w.End here ∷ []))
      (each p [] here end_names here nil_exp end_tail here empty here) (record { formed = (tt, tt, tt); low = omega (arith, room); begins = refl }) refl whole us refl in
      on_meets a_name (λ n. l.Name n) name_found true _ refuse T Y us z
      (λ n q vs _ _ e.
      is_meets (l.Sign s.Equal) tt true _ _ T Y vs
      (stuck (GoodStat P.depth (Some (l.Word w.For))) spell_stat (λ z. word w.For p ∷ name n q ∷ z) (λ u v. refl) (word w.In here ∷ spell nil_exp (word w.Do here ∷ word w.End here ∷ []))
      (each p n q end_names here nil_exp end_tail here empty here) (record { formed = (tt, tt, tt); low = omega (arith, room); begins = refl }) refl whole vs (ap (λ z. word w.For p ∷ z) e))
      (λ r ws _ e2.
      subst (λ y. Meets (ReadsStat P.depth y) (FailsStat P.depth (Some (l.Word w.For)) y) (for_numbers P Q R n q ws)) (ap (λ z. word w.For p ∷ z) (sym (e ∙ ap (λ z. name n q ∷ z) e2)))
      (numbers_meet P Q R sp room p n q r ws))
      (λ _.
      subst (λ y. Meets (ReadsStat P.depth y) (FailsStat P.depth (Some (l.Word w.For)) y) (for_each P Q R n q vs)) (ap (λ z. word w.For p ∷ z) (sym e))
      (each_meets P Q R hp hq hr sp room p n q vs)))
      (λ _. z)

  -- ---- rows of statements

  stat_step : (found : Measured (List declared.Stat)) (us : List Token) → SoFar found us → Meets BlockTurn Z (stat_turn P Q R found us)
  stat_step found us i =
      let z : Z us = closed found us i in
      let room1 : nat_le 1 P.depth ≡ true → 1 ≤ P.depth = λ c. leb-true 1 P.depth c in
      let at : (vs : List Token) → us ≡ vs → SoFar found vs = λ vs e. subst (SoFar found) e i in
      is_meets (l.Sign s.Semicolon) tt true _ _ BlockTurn Z us z
      (λ p vs _ e.
      let j : SoFar found (sign s.Semicolon p ∷ vs) = at (sign s.Semicolon p ∷ vs) e in
      let g : GoodStats P.depth (and_stats j.written (stat (skip p) empty)) = (in_stats found (sign s.Semicolon p ∷ vs) j).good (skip p) (record { formed = tt; low = omega arith; begins = refl }) in
      record {
        written = and_stats j.written (stat (skip p) empty);
        opened = and_open j.written (skip p) j.opened;
        formed = g.formed;
        low = g.low;
        what = j.what ∙ sym (append-nil (stats_of j.written)) ∙ sym (and_of j.written (stat (skip p) empty) j.opened);
        depth = omega (arith, j.depth, and_height j.written (stat (skip p) empty) j.opened);
        spelled = j.spelled ∙ sym (and_spelled j.written (stat (skip p) empty) vs j.opened);
        last = λ o. and_last j.written (skip p) j.opened;
      })
      (λ _. is_meets (l.Word w.Return) tt true _ _ BlockTurn Z us z (λ p vs _ e. return_meets found p vs (at (word w.Return p ∷ vs) e))
      (λ _. is_meets (l.Word w.Break) tt true _ _ BlockTurn Z us z
      (λ p vs _ e.
      let j : SoFar found (word w.Break p ∷ vs) = at (word w.Break p ∷ vs) e in
      let g : GoodStats P.depth (and_stats j.written (stat (leave p) empty)) = (in_stats found (word w.Break p ∷ vs) j).good (leave p) (record { formed = tt; low = omega arith; begins = refl }) in
      one_more found (word w.Break p ∷ vs) j (measured (st.Break p) 0) vs (leave p) g.formed (omega arith) refl refl refl (λ _. refl))
      (λ _. is_meets (l.Word w.Goto) tt true _ _ BlockTurn Z us z
      (λ p vs c e. add_meets found (word w.Goto p ∷ vs) (at (word w.Goto p ∷ vs) e) (Some (l.Word w.Goto)) refl after_goto vs (goto_meets P Q R p vs))
      (λ _. is_meets (l.Sign s.ColonColon) tt true _ _ BlockTurn Z us z
      (λ p vs c e. add_meets found (sign s.ColonColon p ∷ vs) (at (sign s.ColonColon p ∷ vs) e) (Some (l.Sign s.ColonColon)) refl after_colons vs (label_meets P Q R p vs))
      (λ _. on_meets a_name (λ n. l.Name n) name_found (nat_le 1 P.depth) _ _ BlockTurn Z us z
      (λ n p vs c _ e. add_meets found (name n p ∷ vs) (at (name n p ∷ vs) e) (Some (l.Name n)) refl (begun P Q R (as_variable (name_leaf n p))) vs (name_meets P Q R hp hq hr sp sq sr (room1 c) below lower n p vs))
      (λ _. is_meets (l.Sign s.OpenParen) tt (nat_le 3 P.depth) _ _ BlockTurn Z us z
      (λ p vs c e.
      let big : 3 ≤ P.depth = leb-true 3 P.depth c in
      add_meets found (sign s.OpenParen p ∷ vs) (at (sign s.OpenParen p ∷ vs) e) (Some (l.Sign s.OpenParen)) refl (after_open P Q R p) vs (open_meets P Q R hp hq hr sp sq sr (omega (arith, big)) below lower big p vs))
      (λ _. is_meets (l.Word w.Local) tt true _ _ BlockTurn Z us z
      (λ p vs c e. add_meets found (word w.Local p ∷ vs) (at (word w.Local p ∷ vs) e) (Some (l.Word w.Local)) refl (after_local P Q R) vs (local_meets P Q R hp hq hr sp p vs))
      (λ _. is_meets (l.Word w.If) tt (nat_le 1 P.depth) _ _ BlockTurn Z us z
      (λ p vs c e. add_meets found (word w.If p ∷ vs) (at (word w.If p ∷ vs) e) (Some (l.Word w.If)) refl (after_if P Q R) vs (if_meets P Q R hp hq hr sp (room1 c) p vs))
      (λ _. is_meets (l.Word w.For) tt (nat_le 1 P.depth) _ _ BlockTurn Z us z
      (λ p vs c e. add_meets found (word w.For p ∷ vs) (at (word w.For p ∷ vs) e) (Some (l.Word w.For)) refl (after_for P Q R) vs (for_meets (room1 c) p vs))
      (λ _. is_meets (l.Word w.Function) tt (nat_le 2 P.depth) _ _ BlockTurn Z us z
      (λ p vs c e.
      let big : 2 ≤ P.depth = leb-true 2 P.depth c in
      add_meets found (word w.Function p ∷ vs) (at (word w.Function p ∷ vs) e) (Some (l.Word w.Function)) refl (after_function P Q R p) vs (function_meets P Q R hp hq hr sp sq big (omega (arith, big, below)) p vs))
      (λ _. is_meets (l.Word w.While) tt (nat_le 1 P.depth) _ _ BlockTurn Z us z
      (λ p vs c e. add_meets found (word w.While p ∷ vs) (at (word w.While p ∷ vs) e) (Some (l.Word w.While)) refl (after_while P Q R) vs (while_meets P Q R sp (room1 c) p vs))
      (λ _. is_meets (l.Word w.Repeat) tt (nat_le 1 P.depth) _ _ BlockTurn Z us z
      (λ p vs c e. add_meets found (word w.Repeat p ∷ vs) (at (word w.Repeat p ∷ vs) e) (Some (l.Word w.Repeat)) refl (after_repeat P Q R) vs (repeat_meets P Q R sp (room1 c) p vs))
      (λ _. is_meets (l.Word w.Do) tt (nat_le 1 P.depth) _ _ BlockTurn Z us z
      (λ p vs c e. add_meets found (word w.Do p ∷ vs) (at (word w.Do p ∷ vs) e) (Some (l.Word w.Do)) refl (after_do P Q R) vs (do_meets P Q R sp (room1 c) p vs))
      (λ _. record { written = i.written; formed = i.formed; low = i.low; what = i.what; depth = i.depth; spelled = i.spelled }))))))))))))))

  pub block_meets : Meets (ReadsStats (P.depth + 1) ts) (Fails (GoodBlock (P.depth + 1)) spell_stats ts) (block P Q R ts)
  unfolding block more_stats
  block_meets =
      then_meets _ AllStats (ReadsStats (P.depth + 1) ts) Z (Fails (GoodBlock (P.depth + 1)) spell_stats ts) (many (stat_turn P Q R) nothing ts)
      (loop_meets (stat_turn P Q R) (stat_shrinks P Q R hp hq hr) SoFar AllStats Z stat_step nothing ts
      (record { written = empty; opened = tt; formed = tt; low = omega arith; what = refl; depth = refl; spelled = refl; last = λ o. refl }))
      (λ rest f. fails_map (GoodStats P.depth) (GoodBlock (P.depth + 1)) spell_stats ts rest (λ ss g. record { formed = g.formed; low = omega (arith, g.low) }) f)
      (λ x rest r. record { written = r.written; formed = r.formed; low = omega (arith, r.low); what = r.what; depth = ap (λ z. z + 1) r.depth; spelled = r.spelled })
