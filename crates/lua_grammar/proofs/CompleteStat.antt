-- Each statement is read from what spells it, over complete readers of its parts.
use Rattle.std.proofs.Common.{◌≡◌, refl, sym, ◌∙◌, ap, ℕ, ◌+◌, max, ◌≤◌, Bool, List, [], ◌∷◌, ◌++◌, Some, None, Ok, arith, append_assoc, append-nil}
use Rattle.lua_tokens.specs.declared.place.Place.{Place}
use Rattle.lua_tokens.specs.declared.token.Token.{Token}
use Rattle.lua_tokens.specs.declared.token.Lexeme.TheVariants as l
use Rattle.lua_tokens.specs.declared.sign.Sign.TheVariants as s
use Rattle.lua_tokens.specs.declared.word.Word.TheVariants as w
use Rattle.lua_tree.specs.declared.stat.Stat.TheVariants as st
use Rattle.lua_tree.specs.declared.stat.Branch.{Branch}
use Rattle.lua_grammar.specs.declared.measured.Measured.{Measured}
use Rattle.lua_grammar.specs.Tokens.{sign, word, name}
use Rattle.lua_grammar.specs.Written.{Bytes, Names, end_names, more_names, Exp, Tail, Stats, Arms, over, otherwise, further, Step, no_step, step}
use Rattle.lua_grammar.specs.Spelling.{spell_names, spell, spell_tail, spell_stats, spell_arms, spell_step, first}
use Rattle.lua_grammar.specs.Formed.{ends_in_prefix, Formed, FormedTail, FormedStats, FormedArms, FormedStep}
use Rattle.lua_grammar.specs.Erasure.{block_of, branch_of, names_of, expr_of, tail_of, stats_of, arms_of, else_of, step_of}
use Rattle.lua_grammar.specs.Input.{and_then, on, pure, again, done}
use Rattle.lua_grammar.specs.Expressions.{measured, with_one, only, Parts}
use Rattle.lua_grammar.specs.Statements.{after_do, after_while, after_repeat, condition, after_else, arm_turn, more_arms, after_if, for_step, for_numbers, name_turn, for_names, for_each, after_for}
use Rattle.lua_grammar.proofs.Heights.{height, tail_height, stats_height, arms_height, step_height}
use Rattle.lua_grammar.proofs.Loops.{many_done, many_again}
use Rattle.lua_grammar.proofs.Shorter.{arm_shrinks, name_shrinks}
use Rattle.lua_grammar.proofs.Complete.{then_ok, expected, same_measured, Parted, comma, do_word, then_word, parted_by}
use Rattle.lua_grammar.proofs.CompleteList.{BlockEnds, Around, whole, enclosed, list_read}

module _ (P Q R : Parts) (h : Around P Q R) where
  -- ---- blocks inside

  pub do_read : (ss : Stats) (q : Place) (k : List Token) → FormedStats ss → stats_height ss + 1 ≤ P.depth
      → after_do P Q R (spell_stats ss (word w.End q ∷ k)) ≡ Ok (measured (st.Do (block_of (stats_of ss))) (stats_height ss + 1), k)
  unfolding after_do
  do_read ss q k f d = then_ok _ _ _ _ _ (h.here.block ss f d (word w.End q ∷ k) tt) (then_ok _ _ _ _ _ (expected (l.Word w.End) q k) refl)

  pub while_read : (e : Exp) (q : Place) (ss : Stats) (r : Place) (k : List Token) → Formed e → FormedStats ss → max (height e) (stats_height ss + 1) ≤ P.depth
      → after_while P Q R (spell e (word w.Do q ∷ spell_stats ss (word w.End r ∷ k))) ≡ Ok (measured (st.While (expr_of e) (block_of (stats_of ss))) (max (height e) (stats_height ss + 1)), k)
  unfolding after_while
  while_read e q ss r k fe fs d =
      then_ok _ _ _ _ _ (enclosed P h.shorter h.here e fe (omega (arith, d)) do_word q (spell_stats ss (word w.End r ∷ k)))
      (then_ok _ _ _ _ _ (expected (l.Word w.Do) q (spell_stats ss (word w.End r ∷ k)))
      (then_ok _ _ _ _ _ (h.here.block ss fs (omega (arith, d)) (word w.End r ∷ k) tt) (then_ok _ _ _ _ _ (expected (l.Word w.End) r k) refl)))

  pub repeat_read : (ss : Stats) (q : Place) (e : Exp) (k : List Token) → FormedStats ss → Formed e → max (stats_height ss + 1) (height e) ≤ P.depth → Parted (ends_in_prefix e) (first k)
      → after_repeat P Q R (spell_stats ss (word w.Until q ∷ spell e k)) ≡ Ok (measured (st.Repeat (block_of (stats_of ss)) (expr_of e)) (max (stats_height ss + 1) (height e)), k)
  unfolding after_repeat
  repeat_read ss q e k fs fe d a =
      then_ok _ _ _ _ _ (h.here.block ss fs (omega (arith, d)) (word w.Until q ∷ spell e k) tt)
      (then_ok _ _ _ _ _ (expected (l.Word w.Until) q (spell e k)) (then_ok _ _ _ _ _ (whole P h.shorter h.here e fe (omega (arith, d)) k a) refl))

  -- ---- `if`

  condition_read : (e : Exp) (q : Place) (ss : Stats) (k : List Token) → Formed e → FormedStats ss → max (height e) (stats_height ss + 1) ≤ P.depth → BlockEnds (first k)
      → condition P Q R (spell e (word w.Then q ∷ spell_stats ss k)) ≡ Ok (measured (branch_of (expr_of e) (stats_of ss)) (max (height e) (stats_height ss + 1)), k)
  unfolding condition
  condition_read e q ss k fe fs d b =
      then_ok _ _ _ _ _ (enclosed P h.shorter h.here e fe (omega (arith, d)) then_word q (spell_stats ss k))
      (then_ok _ _ _ _ _ (expected (l.Word w.Then) q (spell_stats ss k)) (then_ok _ _ _ _ _ (h.here.block ss fs (omega (arith, d)) k b) refl))

  else_read : (found : Measured (List Branch)) (ss : Stats) (q : Place) (k : List Token) → FormedStats ss → stats_height ss + 1 ≤ P.depth
      → after_else P Q R found (spell_stats ss (word w.End q ∷ k)) ≡ Ok (measured (st.If found.what (Some (block_of (stats_of ss)))) (max found.depth (stats_height ss + 1)), k)
  unfolding after_else
  else_read found ss q k f d = then_ok _ _ _ _ _ (h.here.block ss f d (word w.End q ∷ k) tt) (then_ok _ _ _ _ _ (expected (l.Word w.End) q k) refl)

  end_arms : (found : Measured (List Branch)) (p : Place) (k : List Token) → arm_turn P Q R found (word w.End p ∷ k) ≡ Ok (done (measured (st.If found.what None) found.depth), k)
  unfolding on
  end_arms found p k = refl

  else_turn : (found : Measured (List Branch)) (p : Place) (k : List Token) → arm_turn P Q R found (word w.Else p ∷ k) ≡ and_then (after_else P Q R found k) (λ x. pure (done x))
  unfolding on
  else_turn found p k = refl

  elseif_turn : (found : Measured (List Branch)) (p : Place) (k : List Token) → arm_turn P Q R found (word w.Elseif p ∷ k) ≡ and_then (condition P Q R k) (λ x. pure (again (with_one found x)))
  unfolding on
  elseif_turn found p k = refl

  arms_end : (arms : Arms) (k : List Token) → BlockEnds (first (spell_arms arms k))
  arms_end (over p) k = tt
  arms_end (otherwise p ss q) k = tt
  arms_end (further p e q ss arms) k = tt

  same_if : (xs ys : List Branch) (arms : Arms) (m n : ℕ) → xs ≡ ys → m ≡ n → measured (st.If xs (else_of arms)) m ≡ measured (st.If ys (else_of arms)) n
  same_if xs ys arms m n e h = same_measured _ _ _ _ (ap (λ z. st.If z (else_of arms)) e) h

  arms_read : (arms : Arms) (found : Measured (List Branch)) (k : List Token) → FormedArms arms → arms_height arms ≤ P.depth
      → more_arms P Q R found (spell_arms arms k) ≡ Ok (measured (st.If (found.what ++ arms_of arms) (else_of arms)) (max found.depth (arms_height arms)), k)
  unfolding more_arms
  arms_read (over p) found k f d =
      many_done (arm_turn P Q R) (arm_shrinks P Q R h.shorter h.shorter_below h.shorter_lower) found (word w.End p ∷ k) k (measured (st.If found.what None) found.depth) (end_arms found p k)
      ∙ ap (λ z. Ok (z, k)) (same_if found.what (found.what ++ []) (over p) found.depth (max found.depth 0) (sym (append-nil found.what)) (omega arith))
  arms_read (otherwise p ss q) found k f d =
      many_done (arm_turn P Q R) (arm_shrinks P Q R h.shorter h.shorter_below h.shorter_lower) found (word w.Else p ∷ spell_stats ss (word w.End q ∷ k)) k (measured (st.If found.what (Some (block_of (stats_of ss)))) (max found.depth (stats_height ss + 1)))
      (else_turn found p (spell_stats ss (word w.End q ∷ k)) ∙ then_ok _ _ _ _ _ (else_read found ss q k f d) refl)
      ∙ ap (λ z. Ok (z, k)) (same_if found.what (found.what ++ []) (otherwise p ss q) _ _ (sym (append-nil found.what)) refl)
  arms_read (further p e q ss arms) found k f d =
      let x : Measured Branch = measured (branch_of (expr_of e) (stats_of ss)) (max (height e) (stats_height ss + 1)) in
      many_again (arm_turn P Q R) (arm_shrinks P Q R h.shorter h.shorter_below h.shorter_lower) found (with_one found x) (word w.Elseif p ∷ spell e (word w.Then q ∷ spell_stats ss (spell_arms arms k))) (spell_arms arms k)
      (elseif_turn found p (spell e (word w.Then q ∷ spell_stats ss (spell_arms arms k)))
      ∙ then_ok _ _ _ _ _ (condition_read e q ss (spell_arms arms k) f.0 f.1 (omega (arith, d)) (arms_end arms k)) refl)
      ∙ arms_read arms (with_one found x) k f.2 (omega (arith, d))
      ∙ ap (λ z. Ok (z, k)) (same_if _ _ arms _ _ (append_assoc found.what (x.what ∷ []) (arms_of arms)) (omega arith))

  pub if_read : (e : Exp) (q : Place) (ss : Stats) (arms : Arms) (k : List Token) → Formed e → FormedStats ss → FormedArms arms → max (max (height e) (stats_height ss + 1)) (arms_height arms) ≤ P.depth
      → after_if P Q R (spell e (word w.Then q ∷ spell_stats ss (spell_arms arms k)))
      ≡ Ok (measured (st.If (branch_of (expr_of e) (stats_of ss) ∷ arms_of arms) (else_of arms)) (max (max (height e) (stats_height ss + 1)) (arms_height arms)), k)
  unfolding after_if
  if_read e q ss arms k fe fs fa d =
      then_ok _ _ _ _ _ (condition_read e q ss (spell_arms arms k) fe fs (omega (arith, d)) (arms_end arms k))
      (arms_read arms (only (measured (branch_of (expr_of e) (stats_of ss)) (max (height e) (stats_height ss + 1)))) k fa (omega (arith, d)))
      ∙ ap (λ z. Ok (z, k)) (same_measured _ _ _ _ refl (omega arith))

  -- ---- `for`

  step_turn : (p : Place) (k : List Token) → for_step P Q R (sign s.Comma p ∷ k) ≡ and_then (P.expr 0 k) (λ e. pure (measured (Some e.what) e.depth))
  unfolding on for_step
  step_turn p k = refl

  step_read : (x : Step) (y : Place) (k : List Token) → FormedStep x → step_height x ≤ P.depth → for_step P Q R (spell_step x (word w.Do y ∷ k)) ≡ Ok (measured (step_of x) (step_height x), word w.Do y ∷ k)
  unfolding on for_step
  step_read no_step y k f d = refl
  step_read (step p e) y k f d = step_turn p (spell e (word w.Do y ∷ k)) ∙ then_ok _ _ _ _ _ (enclosed P h.shorter h.here e f d do_word y k) refl

  before_step : (prefix : Bool) (x : Step) (y : Place) (k : List Token) → Parted prefix (first (spell_step x (word w.Do y ∷ k)))
  before_step prefix no_step y k = parted_by prefix do_word
  before_step prefix (step p e) y k = parted_by prefix comma

  numbers_read : (n : Bytes) (q : Place) (from : Exp) (x : Place) (to : Exp) (by : Step) (y : Place) (ss : Stats) (z : Place) (k : List Token) → Formed from → Formed to → FormedStep by → FormedStats ss
      → max (max (height from) (height to)) (max (step_height by) (stats_height ss + 1)) ≤ P.depth
      → for_numbers P Q R n q (spell from (sign s.Comma x ∷ spell to (spell_step by (word w.Do y ∷ spell_stats ss (word w.End z ∷ k)))))
      ≡ Ok (measured (st.ForNum n q (expr_of from) (expr_of to) (step_of by) (block_of (stats_of ss))) (max (max (height from) (height to)) (max (step_height by) (stats_height ss + 1))), k)
  unfolding for_numbers
  numbers_read n q from x to by y ss z k ff ft fb fs d =
      let body : List Token = spell_stats ss (word w.End z ∷ k) in
      then_ok _ _ _ _ _ (enclosed P h.shorter h.here from ff (omega (arith, d)) comma x (spell to (spell_step by (word w.Do y ∷ body))))
      (then_ok _ _ _ _ _ (expected (l.Sign s.Comma) x (spell to (spell_step by (word w.Do y ∷ body))))
      (then_ok _ _ _ _ _ (whole P h.shorter h.here to ft (omega (arith, d)) (spell_step by (word w.Do y ∷ body)) (before_step (ends_in_prefix to) by y body))
      (then_ok _ _ _ _ _ (step_read by y body fb (omega (arith, d)))
      (then_ok _ _ _ _ _ (expected (l.Word w.Do) y body)
      (then_ok _ _ _ _ _ (h.here.block ss fs (omega (arith, d)) (word w.End z ∷ k) tt) (then_ok _ _ _ _ _ (expected (l.Word w.End) z k) refl))))))

  numbers_turn : (n : Bytes) (q r : Place) (k : List Token) → after_for P Q R (name n q ∷ sign s.Equal r ∷ k) ≡ for_numbers P Q R n q k
  unfolding on after_for
  numbers_turn n q r k = refl

  pub count_read : (n : Bytes) (q r : Place) (from : Exp) (x : Place) (to : Exp) (by : Step) (y : Place) (ss : Stats) (z : Place) (k : List Token) → Formed from → Formed to → FormedStep by → FormedStats ss
      → max (max (height from) (height to)) (max (step_height by) (stats_height ss + 1)) ≤ P.depth
      → after_for P Q R (name n q ∷ sign s.Equal r ∷ spell from (sign s.Comma x ∷ spell to (spell_step by (word w.Do y ∷ spell_stats ss (word w.End z ∷ k)))))
      ≡ Ok (measured (st.ForNum n q (expr_of from) (expr_of to) (step_of by) (block_of (stats_of ss))) (max (max (height from) (height to)) (max (step_height by) (stats_height ss + 1))), k)
  count_read n q r from x to by y ss z k ff ft fb fs d = numbers_turn n q r _ ∙ numbers_read n q from x to by y ss z k ff ft fb fs d

  names_end : (found : List (Bytes × Place)) (r : Place) (k : List Token) → name_turn P Q R found (word w.In r ∷ k) ≡ Ok (done found, k)
  unfolding on
  names_end found r k = refl

  names_again : (found : List (Bytes × Place)) (p : Place) (n : Bytes) (q : Place) (k : List Token) → name_turn P Q R found (sign s.Comma p ∷ name n q ∷ k) ≡ Ok (again (found ++ (n, q) ∷ []), k)
  unfolding on
  names_again found p n q k = refl

  names_read : (ns : Names) (found : List (Bytes × Place)) (r : Place) (k : List Token) → for_names P Q R found (spell_names ns (word w.In r ∷ k)) ≡ Ok (found ++ names_of ns, k)
  unfolding for_names
  names_read end_names found r k =
      many_done (name_turn P Q R) (name_shrinks P Q R h.shorter h.shorter_below h.shorter_lower) found (word w.In r ∷ k) k found (names_end found r k) ∙ ap (λ z. Ok (z, k)) (sym (append-nil found))
  names_read (more_names p n q ns) found r k =
      many_again (name_turn P Q R) (name_shrinks P Q R h.shorter h.shorter_below h.shorter_lower) found (found ++ (n, q) ∷ []) (sign s.Comma p ∷ name n q ∷ spell_names ns (word w.In r ∷ k)) (spell_names ns (word w.In r ∷ k))
      (names_again found p n q (spell_names ns (word w.In r ∷ k)))
      ∙ names_read ns (found ++ (n, q) ∷ []) r k
      ∙ ap (λ z. Ok (z, k)) (append_assoc found ((n, q) ∷ []) (names_of ns))

  each_turn : (n : Bytes) (q : Place) (ns : Names) (r : Place) (k : List Token) → after_for P Q R (name n q ∷ spell_names ns (word w.In r ∷ k)) ≡ for_each P Q R n q (spell_names ns (word w.In r ∷ k))
  unfolding on after_for
  each_turn n q end_names r k = refl
  each_turn n q (more_names p m x ns) r k = refl

  pub each_read : (n : Bytes) (q : Place) (ns : Names) (r : Place) (e : Exp) (es : Tail) (x : Place) (ss : Stats) (y : Place) (k : List Token) → Formed e → FormedTail es → FormedStats ss
      → max (max (height e) (tail_height es)) (stats_height ss + 1) ≤ P.depth
      → after_for P Q R (name n q ∷ spell_names ns (word w.In r ∷ spell e (spell_tail es (word w.Do x ∷ spell_stats ss (word w.End y ∷ k)))))
      ≡ Ok (measured (st.ForIn ((n, q) ∷ names_of ns) (expr_of e ∷ tail_of es) (block_of (stats_of ss))) (max (max (height e) (tail_height es)) (stats_height ss + 1)), k)
  unfolding for_each
  each_read n q ns r e es x ss y k fe ft fs d =
      let body : List Token = spell_stats ss (word w.End y ∷ k) in
      each_turn n q ns r (spell e (spell_tail es (word w.Do x ∷ body)))
      ∙ then_ok _ _ _ _ _ (names_read ns ((n, q) ∷ []) r (spell e (spell_tail es (word w.Do x ∷ body))))
      (then_ok _ _ _ _ _ (list_read P h.shorter h.here e es fe ft (omega (arith, d)) (word w.Do x ∷ body) (parted_by _ do_word) refl)
      (then_ok _ _ _ _ _ (expected (l.Word w.Do) x body)
      (then_ok _ _ _ _ _ (h.here.block ss fs (omega (arith, d)) (word w.End y ∷ k) tt) (then_ok _ _ _ _ _ (expected (l.Word w.End) y k) refl))))
