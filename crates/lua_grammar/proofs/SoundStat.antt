-- Statements that are made of expressions and blocks are read as they are spelled.
use Rattle.std.proofs.Common.{◌≡◌, refl, sym, ◌∙◌, ap, ℕ, ◌≤◌, true, false, List, [], ◌∷◌, Option, Some, arith}
use Rattle.lua_tokens.specs.declared.place.Place.{Place}
use Rattle.lua_tokens.specs.declared.token.Token.{Token}
use Rattle.lua_tokens.specs.declared.token.Lexeme.{Lexeme}
use Rattle.lua_tokens.specs.declared.token.Lexeme.TheVariants as l
use Rattle.lua_tokens.specs.declared.sign.Sign.TheVariants as s
use Rattle.lua_tokens.specs.declared.word.Word.TheVariants as w
use Rattle.lua_tree.specs.declared.expr.Expr.{Expr}
use Rattle.lua_tree.specs.declared.stat.Stat as declared
use Rattle.lua_tree.specs.declared.stat.Stat.TheVariants as st
use Rattle.lua_grammar.specs.declared.measured.Measured.{Measured}
use Rattle.lua_grammar.specs.Tokens.{token, sign, word, name}
use Rattle.lua_grammar.specs.Written.{Bytes, Exp, atom, nil, Stats, empty, Stat, nest, loop, repeat, count, Step, no_step, step}
use Rattle.lua_grammar.specs.Spelling.{spell, spell_stats, spell_stat, spell_step, first}
use Rattle.lua_grammar.specs.Formed.{FormedStat, FormedStep, stat_ends_in_prefix}
use Rattle.lua_grammar.specs.Erasure.{block_of, expr_of, stats_of, stat_of, step_of}
use Rattle.lua_grammar.specs.Input.{Parser, pure, ◌>>=◌, expect}
use Rattle.lua_grammar.specs.Expressions.{Parts}
use Rattle.lua_grammar.specs.Statements.{after_do, after_while, after_repeat, for_step, for_numbers}
use Rattle.lua_grammar.proofs.Heights.{stat_height, step_height}
use Rattle.lua_grammar.proofs.Spelled.{Opens, opens_token, opens_then, opens_none, spell_app, stats_app, step_app}
use Rattle.lua_grammar.proofs.Found.{IsFixed}
use Rattle.lua_grammar.proofs.Fronts.{Meets, then_meets, is_meets, expect_meets, Fails, Context, fails_in, stuck}
use Rattle.lua_grammar.proofs.Answered.{here, NoCall, Good, ReadsExpr, FailsExpr, GoodBlock, ReadsStats, SoundParts}

-- a statement whose parts have this depth, and that begins with this token
pub record GoodStat (d : ℕ) (o : Option Lexeme) (x : Stat) : Type 0 where
  pub formed : FormedStat x
  pub low : stat_height x ≤ d
  pub begins : first (spell_stat x []) ≡ o

pub record ReadsStat (d : ℕ) (ts : List Token) (x : Measured declared.Stat) (rest : List Token) : Type 0 where
  pub written : Stat
  pub formed : FormedStat written
  pub low : stat_height written ≤ d
  pub what : stat_of written ≡ x.what ∷ []
  pub depth : x.depth ≡ stat_height written
  pub spelled : ts ≡ spell_stat written rest
  pub apart : NoCall (stat_ends_in_prefix written) rest

abbrev pub FailsStat : ℕ → Option Lexeme → List Token → List Token → Type 0
FailsStat d o ts rest = Fails (GoodStat d o) spell_stat ts rest

abbrev pub nil_exp : Exp
nil_exp = atom nil here

-- ---- what stands in many statements

module _ (P : Parts) (sp : SoundParts P) (room : 1 ≤ P.depth) (T : Measured declared.Stat → List Token → Type 0) (Z : List Token → Type 0) where
  -- an expression, and what follows it
  pub expr_in : (us : List Token) → ((rest : List Token) → FailsExpr P.depth 0 us rest → Z rest) → (f : Measured Expr → Parser (Measured declared.Stat))
      → ((x : Measured Expr) (rest : List Token) → ReadsExpr P.depth 0 us x rest → Meets T Z (f x rest)) → Meets T Z ((P.expr 0 >>= f) us)
  expr_in us fails f hit = then_meets f (ReadsExpr P.depth 0 us) T (FailsExpr P.depth 0 us) Z (P.expr 0 us) (sp.expr room 0 (omega arith) us) fails hit

  -- a block, and what follows it
  pub block_in : (us : List Token) → ((rest : List Token) → Fails (GoodBlock P.depth) spell_stats us rest → Z rest) → (f : Measured (List declared.Stat) → Parser (Measured declared.Stat))
      → ((x : Measured (List declared.Stat)) (rest : List Token) → ReadsStats P.depth us x rest → Meets T Z (f x rest)) → Meets T Z ((P.block >>= f) us)
  block_in us fails f hit = then_meets f (ReadsStats P.depth us) T (Fails (GoodBlock P.depth) spell_stats us) Z (P.block us) (sp.block room us) fails hit

-- a token, and what follows it
pub token_in : {A : Type 0} (T : A → List Token → Type 0) (Z : List Token → Type 0) (x : Lexeme) → IsFixed x → (us : List Token) → Z us → (f : Place → Parser A)
    → ((q : Place) (vs : List Token) → us ≡ token x q ∷ vs → Meets T Z (f q vs)) → Meets T Z ((expect x >>= f) us)
token_in T Z x fixed us z f hit = then_meets f (λ q vs. us ≡ token x q ∷ vs) T Z Z (expect x us) (expect_meets x fixed _ Z us z (λ q vs e. e)) (λ _ g. g) hit

pub block_good : (d : ℕ) (ts : List Token) (x : Measured (List declared.Stat)) (rest : List Token) (r : ReadsStats d ts x rest) → GoodBlock d r.written
block_good d ts x rest r = record { formed = r.formed; low = r.low }

-- a block that `end` closes, in its place within a statement
module _ (P : Parts) (sp : SoundParts P) (room : 1 ≤ P.depth) (o : Option Lexeme) (F : List Token → List Token) (opens : Opens F) (put : Stats → Place → Stat)
    (spelled : (ss : Stats) (q : Place) (k : List Token) → spell_stat (put ss q) k ≡ F (spell_stats ss (word w.End q ∷ k)))
    (good : (ss : Stats) (q : Place) → GoodBlock P.depth ss → GoodStat P.depth o (put ss q)) where
  abbrev in_its_place : Context (GoodBlock P.depth) spell_stats (GoodStat P.depth o) spell_stat F
  in_its_place = record { opens = opens; close = word w.End here ∷ []; put = λ ss. put ss here; good = λ ss g. good ss here g; spelled = λ ss g. spelled ss here [] }

  pub block_end : (ts us : List Token) → ts ≡ F us → (g : Measured (List declared.Stat) → Measured declared.Stat)
      → ((b : Measured (List declared.Stat)) (rest : List Token) (q : Place) (r : ReadsStats P.depth us b rest) → stat_of (put r.written q) ≡ (g b).what ∷ [])
      → ((b : Measured (List declared.Stat)) (rest : List Token) (q : Place) (r : ReadsStats P.depth us b rest) → (g b).depth ≡ stat_height (put r.written q))
      → ((ss : Stats) (q : Place) → stat_ends_in_prefix (put ss q) ≡ false)
      → Meets (ReadsStat P.depth ts) (FailsStat P.depth o ts) ((P.block >>= λ b. expect (l.Word w.End) >>= λ _. pure (g b)) us)
  block_end ts us e g what depth closed =
      let T : Measured declared.Stat → List Token → Type 0 = ReadsStat P.depth ts in
      let Z : List Token → Type 0 = FailsStat P.depth o ts in
      block_in P sp room T Z us (λ rest f. fails_in in_its_place stats_app ts us rest e f) _
      (λ b rest r.
      let at_end : ts ≡ F (spell_stats r.written rest) = e ∙ ap F r.spelled in
      token_in T Z (l.Word w.End) tt rest
      (stuck (GoodStat P.depth o) spell_stat (λ z. F (spell_stats r.written z)) (opens_then F (spell_stats r.written) opens (stats_app r.written)) (word w.End here ∷ []) (put r.written here)
      (good r.written here (block_good P.depth us b rest r)) (spelled r.written here []) ts rest at_end)
      _ (λ q vs e2. record {
        written = put r.written q;
        formed = (good r.written q (block_good P.depth us b rest r)).formed;
        low = (good r.written q (block_good P.depth us b rest r)).low;
        what = what b rest q r;
        depth = depth b rest q r;
        spelled = at_end ∙ ap (λ z. F (spell_stats r.written z)) e2 ∙ sym (spelled r.written q vs);
        apart = λ _. closed r.written q;
      }))

module _ (P Q R : Parts) (sp : SoundParts P) (room : 1 ≤ P.depth) where
  -- ---- `do`

  pub do_meets : (p : Place) (us : List Token) → Meets (ReadsStat P.depth (word w.Do p ∷ us)) (FailsStat P.depth (Some (l.Word w.Do)) (word w.Do p ∷ us)) (after_do P Q R us)
  unfolding after_do
  do_meets p us = block_end P sp room (Some (l.Word w.Do)) (λ z. word w.Do p ∷ z) (opens_token (word w.Do p)) (λ ss q. nest p ss q) (λ ss q k. refl)
      (λ ss q g. record { formed = g.formed; low = g.low; begins = refl }) (word w.Do p ∷ us) us refl _
      (λ b rest q r. ap (λ z. st.Do (block_of z) ∷ []) (sym r.what)) (λ b rest q r. r.depth) (λ ss q. refl)

  -- ---- `while`

  pub while_meets : (p : Place) (us : List Token) → Meets (ReadsStat P.depth (word w.While p ∷ us)) (FailsStat P.depth (Some (l.Word w.While)) (word w.While p ∷ us)) (after_while P Q R us)
  unfolding after_while
  while_meets p us =
      let ts : List Token = word w.While p ∷ us in
      let o : Option Lexeme = Some (l.Word w.While) in
      let T : Measured declared.Stat → List Token → Type 0 = ReadsStat P.depth ts in
      let Z : List Token → Type 0 = FailsStat P.depth o ts in
      let inside : Context (Good P.depth 0) spell (GoodStat P.depth o) spell_stat (λ z. word w.While p ∷ z) = record {
        opens = opens_token (word w.While p);
        close = word w.Do here ∷ word w.End here ∷ [];
        put = λ e. loop p e here empty here;
        good = λ e g. record { formed = (g.formed, tt); low = omega (arith, g.low, room); begins = refl };
        spelled = λ e g. refl;
      } in
      expr_in P sp room T Z us (λ rest f. fails_in inside spell_app ts us rest refl f) _
      (λ x rest h.
      let opens : Opens (λ z. word w.While p ∷ spell h.0.written z) = opens_then (λ z. word w.While p ∷ z) (spell h.0.written) (opens_token (word w.While p)) (spell_app h.0.written) in
      let at_do : ts ≡ word w.While p ∷ spell h.0.written rest = ap (λ z. word w.While p ∷ z) h.0.spelled in
      token_in T Z (l.Word w.Do) tt rest
      (stuck (GoodStat P.depth o) spell_stat (λ z. word w.While p ∷ spell h.0.written z) opens inside.close (inside.put h.0.written) (inside.good h.0.written h.0.good) refl ts rest at_do)
      _ (λ q vs e.
      block_end P sp room o (λ z. word w.While p ∷ spell h.0.written (word w.Do q ∷ z)) (opens_then (λ z. word w.While p ∷ spell h.0.written z) (λ z. word w.Do q ∷ z) opens (opens_token (word w.Do q)))
      (λ ss r. loop p h.0.written q ss r) (λ ss r k. refl) (λ ss r g. record { formed = (h.0.good.formed, g.formed); low = omega (arith, h.0.good.low, g.low); begins = refl })
      ts vs (at_do ∙ ap (λ z. word w.While p ∷ spell h.0.written z) e) _
      (λ b end q2 r. ap (λ z. st.While z (block_of (stats_of r.written)) ∷ []) (sym h.0.what) ∙ ap (λ z. st.While x.what (block_of z) ∷ []) (sym r.what))
      (λ b end q2 r. omega (arith, h.0.depth, r.depth)) (λ ss r. refl)))

  -- ---- `repeat`

  pub repeat_meets : (p : Place) (us : List Token) → Meets (ReadsStat P.depth (word w.Repeat p ∷ us)) (FailsStat P.depth (Some (l.Word w.Repeat)) (word w.Repeat p ∷ us)) (after_repeat P Q R us)
  unfolding after_repeat
  repeat_meets p us =
      let ts : List Token = word w.Repeat p ∷ us in
      let o : Option Lexeme = Some (l.Word w.Repeat) in
      let T : Measured declared.Stat → List Token → Type 0 = ReadsStat P.depth ts in
      let Z : List Token → Type 0 = FailsStat P.depth o ts in
      let inside : Context (GoodBlock P.depth) spell_stats (GoodStat P.depth o) spell_stat (λ z. word w.Repeat p ∷ z) = record {
        opens = opens_token (word w.Repeat p);
        close = word w.Until here ∷ spell nil_exp [];
        put = λ ss. repeat p ss here nil_exp;
        good = λ ss g. record { formed = (g.formed, tt); low = omega (arith, g.low, room); begins = refl };
        spelled = λ ss g. refl;
      } in
      block_in P sp room T Z us (λ rest f. fails_in inside stats_app ts us rest refl f) _
      (λ b rest r.
      let opens : Opens (λ z. word w.Repeat p ∷ spell_stats r.written z) = opens_then (λ z. word w.Repeat p ∷ z) (spell_stats r.written) (opens_token (word w.Repeat p)) (stats_app r.written) in
      let at_until : ts ≡ word w.Repeat p ∷ spell_stats r.written rest = ap (λ z. word w.Repeat p ∷ z) r.spelled in
      token_in T Z (l.Word w.Until) tt rest
      (stuck (GoodStat P.depth o) spell_stat (λ z. word w.Repeat p ∷ spell_stats r.written z) opens inside.close (inside.put r.written) (inside.good r.written (block_good P.depth us b rest r)) refl ts rest at_until)
      _ (λ q vs e.
      let at_exp : ts ≡ word w.Repeat p ∷ spell_stats r.written (word w.Until q ∷ vs) = at_until ∙ ap (λ z. word w.Repeat p ∷ spell_stats r.written z) e in
      let further : Context (Good P.depth 0) spell (GoodStat P.depth o) spell_stat (λ z. word w.Repeat p ∷ spell_stats r.written (word w.Until q ∷ z)) = record {
        opens = opens_then (λ z. word w.Repeat p ∷ spell_stats r.written z) (λ z. word w.Until q ∷ z) opens (opens_token (word w.Until q));
        close = [];
        put = λ x. repeat p r.written q x;
        good = λ x g. record { formed = (r.formed, g.formed); low = omega (arith, g.low, r.low); begins = refl };
        spelled = λ x g. refl;
      } in
      expr_in P sp room T Z vs (λ end f. fails_in further spell_app ts vs end at_exp f) _
      (λ x end h. record {
        written = repeat p r.written q h.0.written;
        formed = (r.formed, h.0.good.formed);
        low = omega (arith, r.low, h.0.good.low);
        what = ap (λ z. st.Repeat (block_of z) (expr_of h.0.written) ∷ []) (sym r.what) ∙ ap (λ z. st.Repeat (block_of b.what) z ∷ []) (sym h.0.what);
        depth = omega (arith, r.depth, h.0.depth);
        spelled = at_exp ∙ ap (λ z. word w.Repeat p ∷ spell_stats r.written (word w.Until q ∷ z)) h.0.spelled;
        apart = h.0.no_call;
      })))

  -- ---- `for` with numbers

  record ReadsStep (ts : List Token) (x : Measured (Option Expr)) (rest : List Token) : Type 0 where
    written : Step
    formed : FormedStep written
    low : step_height written ≤ P.depth
    what : x.what ≡ step_of written
    depth : x.depth ≡ step_height written
    spelled : ts ≡ spell_step written rest

  record GoodStep (x : Step) : Type 0 where
    formed : FormedStep x
    low : step_height x ≤ P.depth

  step_meets : (ts : List Token) → Meets (ReadsStep ts) (Fails GoodStep spell_step ts) (for_step P Q R ts)
  unfolding for_step
  step_meets ts =
      let T : Measured (Option Expr) → List Token → Type 0 = ReadsStep ts in
      let Z : List Token → Type 0 = Fails GoodStep spell_step ts in
      is_meets (l.Sign s.Comma) tt true _ _ T Z ts (stuck GoodStep spell_step (λ z. z) opens_none [] no_step (record { formed = tt; low = omega arith }) refl ts ts refl)
      (λ p us _ e.
      let inside : Context (Good P.depth 0) spell GoodStep spell_step (λ z. sign s.Comma p ∷ z) = record {
        opens = opens_token (sign s.Comma p);
        close = [];
        put = λ x. step p x;
        good = λ x g. record { formed = g.formed; low = g.low };
        spelled = λ x g. refl;
      } in
      then_meets _ (ReadsExpr P.depth 0 us) T (FailsExpr P.depth 0 us) Z (P.expr 0 us) (sp.expr room 0 (omega arith) us)
      (λ rest f. fails_in inside spell_app ts us rest e f)
      (λ x rest h. record {
        written = step p h.0.written;
        formed = h.0.good.formed;
        low = h.0.good.low;
        what = ap Some h.0.what;
        depth = h.0.depth;
        spelled = e ∙ ap (λ z. sign s.Comma p ∷ z) h.0.spelled;
      }))
      (λ _. record { written = no_step; formed = tt; low = omega arith; what = refl; depth = refl; spelled = refl })

  pub numbers_meet : (p : Place) (n : Bytes) (q r : Place) (us : List Token)
      → Meets (ReadsStat P.depth (word w.For p ∷ name n q ∷ sign s.Equal r ∷ us)) (FailsStat P.depth (Some (l.Word w.For)) (word w.For p ∷ name n q ∷ sign s.Equal r ∷ us)) (for_numbers P Q R n q us)
  unfolding for_numbers
  numbers_meet p n q r us =
      let ts : List Token = word w.For p ∷ name n q ∷ sign s.Equal r ∷ us in
      let o : Option Lexeme = Some (l.Word w.For) in
      let T : Measured declared.Stat → List Token → Type 0 = ReadsStat P.depth ts in
      let Z : List Token → Type 0 = FailsStat P.depth o ts in
      let F0 : List Token → List Token = λ z. word w.For p ∷ name n q ∷ sign s.Equal r ∷ z in
      let first_in : Context (Good P.depth 0) spell (GoodStat P.depth o) spell_stat F0 = record {
        opens = λ u v. refl;
        close = sign s.Comma here ∷ spell nil_exp (word w.Do here ∷ word w.End here ∷ []);
        put = λ e. count p n q r e here nil_exp no_step here empty here;
        good = λ e g. record { formed = (g.formed, tt, tt, tt); low = omega (arith, g.low, room); begins = refl };
        spelled = λ e g. refl;
      } in
      expr_in P sp room T Z us (λ rest f. fails_in first_in spell_app ts us rest refl f) _
      (λ from vs h1.
      let F1 : List Token → List Token = λ z. F0 (spell h1.0.written z) in
      let opens1 : Opens F1 = opens_then F0 (spell h1.0.written) (λ u v. refl) (spell_app h1.0.written) in
      let at1 : ts ≡ F1 vs = ap F0 h1.0.spelled in
      token_in T Z (l.Sign s.Comma) tt vs (stuck (GoodStat P.depth o) spell_stat F1 opens1 first_in.close (first_in.put h1.0.written) (first_in.good h1.0.written h1.0.good) refl ts vs at1)
      _ (λ c ws e1.
      let F2 : List Token → List Token = λ z. F1 (sign s.Comma c ∷ z) in
      let opens2 : Opens F2 = opens_then F1 (λ z. sign s.Comma c ∷ z) opens1 (opens_token (sign s.Comma c)) in
      let at2 : ts ≡ F2 ws = at1 ∙ ap F1 e1 in
      let second_in : Context (Good P.depth 0) spell (GoodStat P.depth o) spell_stat F2 = record {
        opens = opens2;
        close = word w.Do here ∷ word w.End here ∷ [];
        put = λ e. count p n q r h1.0.written c e no_step here empty here;
        good = λ e g. record { formed = (h1.0.good.formed, g.formed, tt, tt); low = omega (arith, h1.0.good.low, g.low, room); begins = refl };
        spelled = λ e g. refl;
      } in
      expr_in P sp room T Z ws (λ rest f. fails_in second_in spell_app ts ws rest at2 f) _
      (λ to xs h2.
      let F3 : List Token → List Token = λ z. F2 (spell h2.0.written z) in
      let opens3 : Opens F3 = opens_then F2 (spell h2.0.written) opens2 (spell_app h2.0.written) in
      let at3 : ts ≡ F3 xs = at2 ∙ ap F2 h2.0.spelled in
      let third_in : Context GoodStep spell_step (GoodStat P.depth o) spell_stat F3 = record {
        opens = opens3;
        close = word w.Do here ∷ word w.End here ∷ [];
        put = λ x. count p n q r h1.0.written c h2.0.written x here empty here;
        good = λ x g. record { formed = (h1.0.good.formed, h2.0.good.formed, g.formed, tt); low = omega (arith, h1.0.good.low, h2.0.good.low, g.low, room); begins = refl };
        spelled = λ x g. refl;
      } in
      then_meets _ (ReadsStep xs) T (Fails GoodStep spell_step xs) Z (for_step P Q R xs) (step_meets xs) (λ rest f. fails_in third_in step_app ts xs rest at3 f)
      (λ by ys h3.
      let F4 : List Token → List Token = λ z. F3 (spell_step h3.written z) in
      let opens4 : Opens F4 = opens_then F3 (spell_step h3.written) opens3 (step_app h3.written) in
      let at4 : ts ≡ F4 ys = at3 ∙ ap F3 h3.spelled in
      token_in T Z (l.Word w.Do) tt ys
      (stuck (GoodStat P.depth o) spell_stat F4 opens4 third_in.close (third_in.put h3.written) (third_in.good h3.written (record { formed = h3.formed; low = h3.low })) refl ts ys at4)
      _ (λ d zs e4.
      block_end P sp room o (λ z. F4 (word w.Do d ∷ z)) (opens_then F4 (λ z. word w.Do d ∷ z) opens4 (opens_token (word w.Do d)))
      (λ ss x. count p n q r h1.0.written c h2.0.written h3.written d ss x) (λ ss x k. refl)
      (λ ss x g. record { formed = (h1.0.good.formed, h2.0.good.formed, h3.formed, g.formed); low = omega (arith, h1.0.good.low, h2.0.good.low, h3.low, g.low); begins = refl })
      ts zs (at4 ∙ ap F4 e4) _
      (λ b end x r2.
      ap (λ z. st.ForNum n q z (expr_of h2.0.written) (step_of h3.written) (block_of (stats_of r2.written)) ∷ []) (sym h1.0.what)
      ∙ ap (λ z. st.ForNum n q from.what z (step_of h3.written) (block_of (stats_of r2.written)) ∷ []) (sym h2.0.what)
      ∙ ap (λ z. st.ForNum n q from.what to.what z (block_of (stats_of r2.written)) ∷ []) (sym h3.what)
      ∙ ap (λ z. st.ForNum n q from.what to.what by.what (block_of z) ∷ []) (sym r2.what))
      (λ b end x r2. omega (arith, h1.0.depth, h2.0.depth, h3.depth, r2.depth)) (λ ss x. refl))))))
