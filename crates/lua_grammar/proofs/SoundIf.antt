-- `if` statements are read as they are spelled.
use Rattle.std.proofs.Common.{◌≡◌, refl, sym, ◌∙◌, ap, ℕ, ◌+◌, max, ◌≤◌, true, List, [], ◌∷◌, ◌++◌, Option, Some, arith}
use Rattle.lua_tokens.specs.declared.place.Place.{Place}
use Rattle.lua_tokens.specs.declared.token.Token.{Token}
use Rattle.lua_tokens.specs.declared.token.Lexeme.{Lexeme}
use Rattle.lua_tokens.specs.declared.token.Lexeme.TheVariants as l
use Rattle.lua_tokens.specs.declared.word.Word.TheVariants as w
use Rattle.lua_tree.specs.declared.stat.Stat as declared
use Rattle.lua_tree.specs.declared.stat.Stat.TheVariants as st
use Rattle.lua_tree.specs.declared.stat.Branch as declared_branch
use Rattle.lua_grammar.specs.declared.measured.Measured.{Measured}
use Rattle.lua_grammar.specs.Tokens.{word}
use Rattle.lua_grammar.specs.Written.{Exp, Stats, empty, Stat, branch, Arms, over, otherwise, further}
use Rattle.lua_grammar.specs.Spelling.{spell, spell_stats, spell_stat, spell_arms}
use Rattle.lua_grammar.specs.Formed.{Formed, FormedStats, FormedArms}
use Rattle.lua_grammar.specs.Erasure.{block_of, branch_of, expr_of, stats_of, stat_of, arms_of, else_of}
use Rattle.lua_grammar.specs.Input.{Turn}
use Rattle.lua_grammar.specs.Expressions.{Parts, only}
use Rattle.lua_grammar.specs.Statements.{condition, after_else, arm_turn, more_arms, after_if}
use Rattle.lua_grammar.proofs.Heights.{height, stats_height, arms_height}
use Rattle.lua_grammar.proofs.Shorter.{ShorterParts, arm_shrinks}
use Rattle.lua_grammar.proofs.Spelled.{Opens, opens_token, opens_then, spell_app, stats_app}
use Rattle.lua_grammar.proofs.Fronts.{Meets, then_meets, is_meets, TurnOf, loop_meets, Fails, Context, fails_in, stuck}
use Rattle.lua_grammar.proofs.Answered.{here, Good, ReadsExpr, FailsExpr, GoodBlock, ReadsStats, SoundParts}
use Rattle.lua_grammar.proofs.SoundStat.{GoodStat, ReadsStat, FailsStat, token_in, block_good, block_end}

-- ---- branches after which others may stand

data Further : Type 0 where
  end_further : Further
  more_further : Place → Exp → Place → Stats → Further → Further

abbrev close_with : Further → Arms → Arms
close_with end_further a = a
close_with (more_further p e q ss fs) a = further p e q ss (close_with fs a)

abbrev spell_further : Further → List Token → List Token
spell_further end_further k = k
spell_further (more_further p e q ss fs) k = word w.Elseif p ∷ spell e (word w.Then q ∷ spell_stats ss (spell_further fs k))

abbrev FormedFurther : Further → Type 0
FormedFurther end_further = Unit {0}
FormedFurther (more_further p e q ss fs) = Formed e × FormedStats ss × FormedFurther fs

abbrev further_height : Further → ℕ
further_height end_further = 0
further_height (more_further p e q ss fs) = max (max (height e) (stats_height ss + 1)) (further_height fs)

abbrev further_of : Further → List declared_branch.Branch
further_of end_further = []
further_of (more_further p e q ss fs) = branch_of (expr_of e) (stats_of ss) ∷ further_of fs

abbrev and_further : Further → Place → Exp → Place → Stats → Further
and_further end_further p e q ss = more_further p e q ss end_further
and_further (more_further x f y ts fs) p e q ss = more_further x f y ts (and_further fs p e q ss)

close_spelled : (fs : Further) (a : Arms) (k : List Token) → spell_arms (close_with fs a) k ≡ spell_further fs (spell_arms a k)
close_spelled end_further a k = refl
close_spelled (more_further p e q ss fs) a k = ap (λ z. word w.Elseif p ∷ spell e (word w.Then q ∷ spell_stats ss z)) (close_spelled fs a k)

close_formed : (fs : Further) (a : Arms) → FormedFurther fs → FormedArms a → FormedArms (close_with fs a)
close_formed end_further a f g = g
close_formed (more_further p e q ss fs) a f g = (f.0, f.1, close_formed fs a f.2 g)

close_height : (fs : Further) (a : Arms) → arms_height (close_with fs a) ≡ max (further_height fs) (arms_height a)
close_height end_further a = omega arith
close_height (more_further p e q ss fs) a = omega (arith, close_height fs a)

close_of : (fs : Further) (a : Arms) → arms_of a ≡ [] → arms_of (close_with fs a) ≡ further_of fs
close_of end_further a h = h
close_of (more_further p e q ss fs) a h = ap (λ z. branch_of (expr_of e) (stats_of ss) ∷ z) (close_of fs a h)

close_else : (fs : Further) (a : Arms) → else_of (close_with fs a) ≡ else_of a
close_else end_further a = refl
close_else (more_further p e q ss fs) a = close_else fs a

and_spelled : (fs : Further) (p : Place) (e : Exp) (q : Place) (ss : Stats) (k : List Token)
    → spell_further (and_further fs p e q ss) k ≡ spell_further fs (word w.Elseif p ∷ spell e (word w.Then q ∷ spell_stats ss k))
and_spelled end_further p e q ss k = refl
and_spelled (more_further x f y ts fs) p e q ss k = ap (λ z. word w.Elseif x ∷ spell f (word w.Then y ∷ spell_stats ts z)) (and_spelled fs p e q ss k)

and_formed : (fs : Further) (p : Place) (e : Exp) (q : Place) (ss : Stats) → FormedFurther fs → Formed e → FormedStats ss → FormedFurther (and_further fs p e q ss)
and_formed end_further p e q ss f g h = (g, h, tt)
and_formed (more_further x c y ts fs) p e q ss f g h = (f.0, f.1, and_formed fs p e q ss f.2 g h)

and_height : (fs : Further) (p : Place) (e : Exp) (q : Place) (ss : Stats) → further_height (and_further fs p e q ss) ≡ max (further_height fs) (max (height e) (stats_height ss + 1))
and_height end_further p e q ss = omega arith
and_height (more_further x c y ts fs) p e q ss = omega (arith, and_height fs p e q ss)

and_of : (fs : Further) (p : Place) (e : Exp) (q : Place) (ss : Stats) → further_of (and_further fs p e q ss) ≡ further_of fs ++ branch_of (expr_of e) (stats_of ss) ∷ []
and_of end_further p e q ss = refl
and_of (more_further x c y ts fs) p e q ss = ap (λ z. branch_of (expr_of c) (stats_of ts) ∷ z) (and_of fs p e q ss)

further_app : (fs : Further) → Opens (spell_further fs)
further_app end_further u v = refl
further_app (more_further p e q ss fs) u v =
    ap (λ z. word w.Elseif p ∷ z)
    (ap (λ z. spell e (word w.Then q ∷ z)) (ap (spell_stats ss) (further_app fs u v) ∙ stats_app ss (spell_further fs u) v) ∙ spell_app e (word w.Then q ∷ spell_stats ss (spell_further fs u)) v)

module _ (P Q R : Parts) (hp : ShorterParts P) (hq : ShorterParts Q) (hr : ShorterParts R) (sp : SoundParts P) (room : 1 ≤ P.depth) where
  -- ---- a condition and its block

  record ReadsBranch (ts : List Token) (x : Measured declared_branch.Branch) (rest : List Token) : Type 0 where
    guard : Exp
    then_place : Place
    inner : Stats
    good : Good P.depth 0 guard
    inner_good : GoodBlock P.depth inner
    what : x.what ≡ branch_of (expr_of guard) (stats_of inner)
    depth : x.depth ≡ max (height guard) (stats_height inner + 1)
    spelled : ts ≡ spell guard (word w.Then then_place ∷ spell_stats inner rest)

  -- in its place within a statement, where `end` may follow
  module _ (o : Option Lexeme) (F : List Token → List Token) (opens : Opens F) (put : Exp → Place → Stats → Stat)
      (spelled : (e : Exp) (q : Place) (ss : Stats) → spell_stat (put e q ss) [] ≡ F (spell e (word w.Then q ∷ spell_stats ss (word w.End here ∷ []))))
      (good : (e : Exp) (q : Place) (ss : Stats) → Good P.depth 0 e → GoodBlock P.depth ss → GoodStat P.depth o (put e q ss)) where
    condition_meets : (ts us : List Token) → ts ≡ F us → Meets (ReadsBranch us) (FailsStat P.depth o ts) (condition P Q R us)
    unfolding condition
    condition_meets ts us e =
        let T : Measured declared_branch.Branch → List Token → Type 0 = ReadsBranch us in
        let Z : List Token → Type 0 = FailsStat P.depth o ts in
        let no_block : GoodBlock P.depth empty = record { formed = tt; low = omega (arith, room) } in
        let inside : Context (Good P.depth 0) spell (GoodStat P.depth o) spell_stat F = record {
          opens = opens;
          close = word w.Then here ∷ word w.End here ∷ [];
          put = λ x. put x here empty;
          good = λ x g. good x here empty g no_block;
          spelled = λ x g. spelled x here empty;
        } in
        then_meets _ (ReadsExpr P.depth 0 us) T (FailsExpr P.depth 0 us) Z (P.expr 0 us) (sp.expr room 0 (omega arith) us)
        (λ rest f. fails_in inside spell_app ts us rest e f)
        (λ x rest h.
        let opens1 : Opens (λ z. F (spell h.0.written z)) = opens_then F (spell h.0.written) opens (spell_app h.0.written) in
        let at_then : ts ≡ F (spell h.0.written rest) = e ∙ ap F h.0.spelled in
        token_in T Z (l.Word w.Then) tt rest
        (stuck (GoodStat P.depth o) spell_stat (λ z. F (spell h.0.written z)) opens1 inside.close (inside.put h.0.written) (inside.good h.0.written h.0.good) (inside.spelled h.0.written h.0.good) ts rest at_then)
        _ (λ q vs e1.
        let F2 : List Token → List Token = λ z. F (spell h.0.written (word w.Then q ∷ z)) in
        let at_block : ts ≡ F2 vs = at_then ∙ ap (λ z. F (spell h.0.written z)) e1 in
        let within : Context (GoodBlock P.depth) spell_stats (GoodStat P.depth o) spell_stat F2 = record {
          opens = opens_then (λ z. F (spell h.0.written z)) (λ z. word w.Then q ∷ z) opens1 (opens_token (word w.Then q));
          close = word w.End here ∷ [];
          put = λ ss. put h.0.written q ss;
          good = λ ss g. good h.0.written q ss h.0.good g;
          spelled = λ ss g. spelled h.0.written q ss;
        } in
        then_meets _ (ReadsStats P.depth vs) T (Fails (GoodBlock P.depth) spell_stats vs) Z (P.block vs) (sp.block room vs)
        (λ end f. fails_in within stats_app ts vs end at_block f)
        (λ b end r. record {
          guard = h.0.written;
          then_place = q;
          inner = r.written;
          good = h.0.good;
          inner_good = block_good P.depth vs b end r;
          what = ap (λ z. branch_of z b.what) h.0.what ∙ ap (branch_of (expr_of h.0.written)) r.what;
          depth = omega (arith, h.0.depth, r.depth);
          spelled = h.0.spelled ∙ ap (spell h.0.written) (e1 ∙ ap (λ z. word w.Then q ∷ z) r.spelled);
        })))

  -- ---- the branches so far

  module _ (p : Place) (us : List Token) where
    abbrev ts : List Token
    ts = word w.If p ∷ us

    abbrev o : Option Lexeme
    o = Some (l.Word w.If)

    record SoFar (found : Measured (List declared_branch.Branch)) (rest : List Token) : Type 0 where
      guard : Exp
      then_place : Place
      inner : Stats
      others : Further
      good : Good P.depth 0 guard
      inner_good : GoodBlock P.depth inner
      formed : FormedFurther others
      low : further_height others ≤ P.depth
      what : found.what ≡ branch_of (expr_of guard) (stats_of inner) ∷ further_of others
      depth : found.depth ≡ max (max (height guard) (stats_height inner + 1)) (further_height others)
      spelled : ts ≡ word w.If p ∷ spell guard (word w.Then then_place ∷ spell_stats inner (spell_further others rest))

    module _ (found : Measured (List declared_branch.Branch)) (rest : List Token) (i : SoFar found rest) where
      abbrev so_far : List Token → List Token
      so_far z = word w.If p ∷ spell i.guard (word w.Then i.then_place ∷ spell_stats i.inner (spell_further i.others z))

      opens_so_far : Opens so_far
      opens_so_far = opens_then (λ z. word w.If p ∷ spell i.guard (word w.Then i.then_place ∷ spell_stats i.inner z)) (spell_further i.others)
          (opens_then (λ z. word w.If p ∷ spell i.guard (word w.Then i.then_place ∷ z)) (spell_stats i.inner)
          (opens_then (λ z. word w.If p ∷ spell i.guard z) (λ z. word w.Then i.then_place ∷ z) (opens_then (λ z. word w.If p ∷ z) (spell i.guard) (opens_token (word w.If p)) (spell_app i.guard))
          (opens_token (word w.Then i.then_place)))
          (stats_app i.inner))
          (further_app i.others)

      abbrev whole_if : Arms → Stat
      whole_if a = branch p i.guard i.then_place i.inner (close_with i.others a)

      if_spelled : (a : Arms) (k : List Token) → spell_stat (whole_if a) k ≡ so_far (spell_arms a k)
      if_spelled a k = ap (λ z. word w.If p ∷ spell i.guard (word w.Then i.then_place ∷ spell_stats i.inner z)) (close_spelled i.others a k)

      if_good : (a : Arms) → FormedArms a → arms_height a ≤ P.depth → GoodStat P.depth o (whole_if a)
      if_good a f h = record {
        formed = (i.good.formed, i.inner_good.formed, close_formed i.others a i.formed f);
        low = omega (arith, i.good.low, i.inner_good.low, i.low, h, close_height i.others a);
        begins = refl;
      }

      if_what : (a : Arms) → arms_of a ≡ [] → stat_of (whole_if a) ≡ st.If found.what (else_of a) ∷ []
      if_what a h =
          ap (λ z. st.If (branch_of (expr_of i.guard) (stats_of i.inner) ∷ z) (else_of (close_with i.others a)) ∷ []) (close_of i.others a h)
          ∙ ap (λ z. st.If z (else_of (close_with i.others a)) ∷ []) (sym i.what) ∙ ap (λ z. st.If found.what z ∷ []) (close_else i.others a)

    closed : (found : Measured (List declared_branch.Branch)) (rest : List Token) → SoFar found rest → FailsStat P.depth o ts rest
    closed found rest i = stuck (GoodStat P.depth o) spell_stat (so_far found rest i) (opens_so_far found rest i) (word w.End here ∷ []) (whole_if found rest i (over here))
        (if_good found rest i (over here) tt (omega arith)) (if_spelled found rest i (over here) []) ts rest i.spelled

    arm_step : (found : Measured (List declared_branch.Branch)) (rest : List Token) → SoFar found rest
        → Meets (TurnOf SoFar (ReadsStat P.depth ts)) (FailsStat P.depth o ts) (arm_turn P Q R found rest)
    unfolding after_else
    arm_step found rest i =
        let T : Turn (Measured (List declared_branch.Branch)) (Measured declared.Stat) → List Token → Type 0 = TurnOf SoFar (ReadsStat P.depth ts) in
        let Z : List Token → Type 0 = FailsStat P.depth o ts in
        is_meets (l.Word w.Elseif) tt true _ _ T Z rest (closed found rest i)
        (λ x vs _ e.
        let F : List Token → List Token = λ z. so_far found rest i (word w.Elseif x ∷ z) in
        then_meets _ (ReadsBranch vs) T Z Z (condition P Q R vs)
        (condition_meets o F (opens_then (so_far found rest i) (λ z. word w.Elseif x ∷ z) (opens_so_far found rest i) (opens_token (word w.Elseif x)))
        (λ c q ss. whole_if found rest i (further x c q ss (over here))) (λ c q ss. if_spelled found rest i (further x c q ss (over here)) [])
        (λ c q ss g h. if_good found rest i (further x c q ss (over here)) (g.formed, h.formed, tt) (omega (arith, g.low, h.low)))
        ts vs (i.spelled ∙ ap (so_far found rest i) e))
        (λ _ g. g)
        (λ b ws r. record {
          guard = i.guard;
          then_place = i.then_place;
          inner = i.inner;
          others = and_further i.others x r.guard r.then_place r.inner;
          good = i.good;
          inner_good = i.inner_good;
          formed = and_formed i.others x r.guard r.then_place r.inner i.formed r.good.formed r.inner_good.formed;
          low = omega (arith, and_height i.others x r.guard r.then_place r.inner, i.low, r.good.low, r.inner_good.low);
          what = ap (λ z. z ++ b.what ∷ []) i.what ∙ ap (λ z. branch_of (expr_of i.guard) (stats_of i.inner) ∷ (further_of i.others ++ z ∷ [])) r.what
              ∙ ap (λ z. branch_of (expr_of i.guard) (stats_of i.inner) ∷ z) (sym (and_of i.others x r.guard r.then_place r.inner));
          depth = omega (arith, i.depth, r.depth, and_height i.others x r.guard r.then_place r.inner);
          spelled = i.spelled ∙ ap (so_far found rest i) (e ∙ ap (λ z. word w.Elseif x ∷ z) r.spelled)
              ∙ ap (λ z. word w.If p ∷ spell i.guard (word w.Then i.then_place ∷ spell_stats i.inner z)) (sym (and_spelled i.others x r.guard r.then_place r.inner ws));
        }))
        (λ _. is_meets (l.Word w.Else) tt true _ _ T Z rest (closed found rest i)
        (λ x vs _ e.
        then_meets _ (ReadsStat P.depth ts) T Z Z (after_else P Q R found vs)
        (block_end P sp room o (λ z. so_far found rest i (word w.Else x ∷ z)) (opens_then (so_far found rest i) (λ z. word w.Else x ∷ z) (opens_so_far found rest i) (opens_token (word w.Else x)))
        (λ ss q. whole_if found rest i (otherwise x ss q)) (λ ss q k. if_spelled found rest i (otherwise x ss q) k)
        (λ ss q g. if_good found rest i (otherwise x ss q) g.formed (omega (arith, g.low)))
        ts vs (i.spelled ∙ ap (so_far found rest i) e) _
        (λ b end q r. if_what found rest i (otherwise x r.written q) refl ∙ ap (λ z. st.If found.what (Some (block_of z)) ∷ []) (sym r.what))
        (λ b end q r. omega (arith, i.depth, r.depth, close_height i.others (otherwise x r.written q))) (λ ss q. refl))
        (λ _ g. g) (λ y end r. r))
        (λ _. is_meets (l.Word w.End) tt true _ _ T Z rest (closed found rest i)
        (λ x vs _ e. record {
          written = whole_if found rest i (over x);
          formed = (if_good found rest i (over x) tt (omega arith)).formed;
          low = (if_good found rest i (over x) tt (omega arith)).low;
          what = if_what found rest i (over x) refl;
          depth = omega (arith, i.depth, close_height i.others (over x));
          spelled = i.spelled ∙ ap (so_far found rest i) e ∙ sym (if_spelled found rest i (over x) vs);
          apart = λ _. refl;
        })
        (λ _. closed found rest i)))

    pub if_meets : Meets (ReadsStat P.depth (word w.If p ∷ us)) (FailsStat P.depth (Some (l.Word w.If)) (word w.If p ∷ us)) (after_if P Q R us)
    unfolding after_if more_arms
    if_meets =
        let T : Measured declared.Stat → List Token → Type 0 = ReadsStat P.depth ts in
        let Z : List Token → Type 0 = FailsStat P.depth o ts in
        then_meets _ (ReadsBranch us) T Z Z (condition P Q R us)
        (condition_meets o (λ z. word w.If p ∷ z) (opens_token (word w.If p)) (λ c q ss. branch p c q ss (over here)) (λ c q ss. refl)
        (λ c q ss g h. record { formed = (g.formed, h.formed, tt); low = omega (arith, g.low, h.low); begins = refl }) ts us refl)
        (λ _ g. g)
        (λ b vs r.
        loop_meets (arm_turn P Q R) (arm_shrinks P Q R hp hq hr) SoFar T Z arm_step (only b) vs
        (record {
          guard = r.guard;
          then_place = r.then_place;
          inner = r.inner;
          others = end_further;
          good = r.good;
          inner_good = r.inner_good;
          formed = tt;
          low = omega arith;
          what = ap (λ z. z ∷ []) r.what;
          depth = omega (arith, r.depth);
          spelled = ap (λ z. word w.If p ∷ z) r.spelled;
        }))
