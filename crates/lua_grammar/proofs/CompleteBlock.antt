-- Everything that is written and no deeper than a reader is for is read from what spells it.
use Rattle.std.proofs.Common.{◌≡◌, refl, ◌∙◌, ap, ℕ, zero, suc, ◌+◌, max, ◌≤◌, true, List, [], ◌∷◌, ◌++◌, Some, Ok, arith}
use Rattle.lua_tokens.specs.declared.place.Place.{Place}
use Rattle.lua_tokens.specs.declared.token.Token.{Token}
use Rattle.lua_tokens.specs.declared.token.Lexeme.{Lexeme}
use Rattle.lua_tokens.specs.declared.token.Lexeme.TheVariants as l
use Rattle.lua_tokens.specs.declared.sign.Sign.TheVariants as s
use Rattle.lua_tokens.specs.declared.word.Word.TheVariants as w
use Rattle.lua_tree.specs.declared.stat.Stat as statement
use Rattle.lua_tree.specs.declared.stat.Stat.TheVariants as st
use Rattle.lua_grammar.specs.declared.measured.Measured.{Measured}
use Rattle.lua_grammar.specs.Tokens.{token, sign, word, name}
use Rattle.lua_grammar.specs.Written.{Bytes, Exp, atom, function, variable, group, field, item, call, method, table, unary, binary, Stats, empty, stat, answer, Stat, skip, assign, run, leave, jump, label, nest, loop, repeat, branch, count, each, define, define_local, declare}
use Rattle.lua_grammar.specs.Spelling.{spell, spell_colon, spell_attrib, spell_declared, spell_values, spell_names, spell_step, spell_arms, spell_body, spell_exps, spell_semicolon, spell_tail, spell_stats, spell_stat, first}
use Rattle.lua_grammar.specs.Formed.{level, IsPrefix, IsVariable, IsCall, Formed, FormedStats, FormedStat, stat_ends_in_prefix}
use Rattle.lua_grammar.specs.Erasure.{expr_of, exps_of, stats_of, stat_of}
use Rattle.lua_grammar.specs.Input.{Outcome, and_then, on, pure, Turn, again, done, expect}
use Rattle.lua_grammar.specs.Expressions.{measured, nothing, with_one, name_leaf, Parts, from_level, operand, rest_of}
use Rattle.lua_grammar.specs.Statements.{after_do, after_while, after_repeat, after_if, after_for, after_local, after_function, after_goto, after_colons, after_return, finished, stat_turn, more_stats, block, flat_parts, deeper_parts, levels, parts}
use Rattle.lua_grammar.proofs.Heights.{height, stats_height, stat_height, exps_height}
use Rattle.lua_grammar.proofs.DepthLaws.{height_pos, body_pos}
use Rattle.lua_grammar.proofs.Loops.{many_done, many_again}
use Rattle.lua_grammar.proofs.Levels.{parts_depth}
use Rattle.lua_grammar.proofs.Shorter.{levels_shorter, stat_shrinks}
use Rattle.lua_grammar.proofs.Complete.{then_ok, in_room, same_measured, no_more, more_of, NoSuffix, Apart, Below}
use Rattle.lua_grammar.proofs.CompleteList.{BlockEnds, CompleteParts, Around, table_read}
use Rattle.lua_grammar.proofs.CompleteExpr.{read_as, level_read}
use Rattle.lua_grammar.proofs.CompletePrefix.{ends_of, prefix_of, variable_prefix, under_group, begun_by, begin_read, no_more_prefixes, define_read}
use Rattle.lua_grammar.proofs.Follows.{Follows, next_follows, call_prefix}
use Rattle.lua_grammar.proofs.CompleteStat.{do_read, while_read, repeat_read, if_read, count_read, each_read}
use Rattle.lua_grammar.proofs.CompleteLocal.{declare_read, local_function_read, before_targets, assign_read, run_read, return_read}

module _ (P Q R : Parts) (h : Around P Q R) where
  -- the statements so h.far, with those of one more
  abbrev extended : Measured (List statement.Stat) → Stat → Measured (List statement.Stat)
  extended found x = measured (found.what ++ stat_of x) (max found.depth (stat_height x))

  -- a statement that a word begins
  added : Measured (List statement.Stat) → Outcome (Measured statement.Stat) → Outcome (Turn (Measured (List statement.Stat)) (Measured (List statement.Stat)))
  added found o = and_then o (λ x. pure (again (with_one found x)))

  module _ (found : Measured (List statement.Stat)) (p : Place) (k : List Token) where
    skip_turn : stat_turn P Q R found (sign s.Semicolon p ∷ k) ≡ Ok (again found, k)
    unfolding on
    skip_turn = refl

    break_turn : stat_turn P Q R found (word w.Break p ∷ k) ≡ Ok (again (with_one found (measured (st.Break p) 0)), k)
    unfolding on
    break_turn = refl

    goto_turn : (n : Bytes) (q : Place) → stat_turn P Q R found (word w.Goto p ∷ name n q ∷ k) ≡ Ok (again (with_one found (measured (st.Goto n q) 0)), k)
    unfolding on after_goto
    goto_turn n q = refl

    label_turn : (n : Bytes) (q r : Place) → stat_turn P Q R found (sign s.ColonColon p ∷ name n q ∷ sign s.ColonColon r ∷ k) ≡ Ok (again (with_one found (measured (st.Label n q) 0)), k)
    unfolding on expect after_colons
    label_turn n q r = refl

    do_turn : 1 ≤ P.depth → stat_turn P Q R found (word w.Do p ∷ k) ≡ added found (after_do P Q R k)
    unfolding on added
    do_turn d = in_room _ _ _ _ _ d refl

    while_turn : 1 ≤ P.depth → stat_turn P Q R found (word w.While p ∷ k) ≡ added found (after_while P Q R k)
    unfolding on added
    while_turn d = in_room _ _ _ _ _ d refl

    repeat_turn : 1 ≤ P.depth → stat_turn P Q R found (word w.Repeat p ∷ k) ≡ added found (after_repeat P Q R k)
    unfolding on added
    repeat_turn d = in_room _ _ _ _ _ d refl

    if_turn : 1 ≤ P.depth → stat_turn P Q R found (word w.If p ∷ k) ≡ added found (after_if P Q R k)
    unfolding on added
    if_turn d = in_room _ _ _ _ _ d refl

    for_turn : 1 ≤ P.depth → stat_turn P Q R found (word w.For p ∷ k) ≡ added found (after_for P Q R k)
    unfolding on added
    for_turn d = in_room _ _ _ _ _ d refl

    local_turn : stat_turn P Q R found (word w.Local p ∷ k) ≡ added found (after_local P Q R k)
    unfolding on added
    local_turn = refl

    function_turn : 2 ≤ P.depth → stat_turn P Q R found (word w.Function p ∷ k) ≡ added found (after_function P Q R p k)
    unfolding on added
    function_turn d = in_room _ _ _ _ _ d refl

    return_turn : stat_turn P Q R found (word w.Return p ∷ k) ≡ and_then (after_return P Q R k) (λ x. pure (done (with_one found x)))
    unfolding on
    return_turn = refl

  one_added : (found : Measured (List statement.Stat)) (o : Outcome (Measured statement.Stat)) (x : statement.Stat) (n : ℕ) (k : List Token) → o ≡ Ok (measured x n, k)
      → added found o ≡ Ok (again (measured (found.what ++ x ∷ []) (max found.depth n)), k)
  unfolding added
  one_added found o x n k e = then_ok _ _ _ _ _ e refl

  -- what becomes of a prefix that is read whole
  begun_read : (found : Measured (List statement.Stat)) (e : Exp) (x : statement.Stat) (n : ℕ) (k rest : List Token) → IsPrefix e → Formed e → height e + under_group e ≤ P.depth → NoSuffix (first k)
      → finished P Q R (ends_of e) (read_as e) k ≡ Ok (measured x n, rest) → stat_turn P Q R found (spell e k) ≡ Ok (again (measured (found.what ++ x ∷ []) (max found.depth n)), rest)
  begun_read found e x n k rest i f d ends whole =
      begin_read P Q R h found e i f d k
      ∙ ap (begun_by P Q R h found) (no_more_prefixes P Q R h (prefix_of e) k ends)
      ∙ then_ok _ _ _ _ _ whole refl

  variable_alone : (e : Exp) → IsVariable e → under_group e ≡ 0
  variable_alone (variable n p) i = refl
  variable_alone (field e p n q) i = refl
  variable_alone (item e p x q) i = refl
  variable_alone (atom a p) i = absurd i
  variable_alone (function p b) i = absurd i
  variable_alone (group p e q) i = absurd i
  variable_alone (call e a) i = absurd i
  variable_alone (method e p n q a) i = absurd i
  variable_alone (table p fs q) i = absurd i
  variable_alone (unary op p e) i = absurd i
  variable_alone (binary op p x y) i = absurd i

  call_alone : (e : Exp) → IsCall e → under_group e ≡ 0
  call_alone (call e a) i = refl
  call_alone (method e p n q a) i = refl
  call_alone (variable n p) i = absurd i
  call_alone (field e p n q) i = absurd i
  call_alone (item e p x q) i = absurd i
  call_alone (atom a p) i = absurd i
  call_alone (function p b) i = absurd i
  call_alone (group p e q) i = absurd i
  call_alone (table p fs q) i = absurd i
  call_alone (unary op p e) i = absurd i
  call_alone (binary op p x y) i = absurd i

  -- ---- one statement

  stat_read : (found : Measured (List statement.Stat)) (x : Stat) (k : List Token) → FormedStat x → stat_height x ≤ P.depth → Follows (stat_ends_in_prefix x) (first k)
      → stat_turn P Q R found (spell_stat x k) ≡ Ok (again (extended found x), k)
  stat_read found (skip p) k f d n = skip_turn found p k ∙ ap (λ z. Ok (again z, k)) (no_more found)
  stat_read found (assign t ts p e es) k f d n =
      begun_read found t _ _ (spell_tail ts (sign s.Equal p ∷ spell e (spell_tail es k))) k (variable_prefix t f.1) f.0 (omega (arith, d, variable_alone t f.1))
      (before_targets P Q R h ts p (spell e (spell_tail es k)))
      (assign_read P Q R h t ts p e es k f.1 f.2 f.3 f.4 f.5 d n)
  stat_read found (run e) k f d n =
      begun_read found e _ _ k k (call_prefix e f.1) f.0 (omega (arith, d, call_alone e f.1)) (n.parted.no_suffix refl) (run_read P Q R h e k f.1)
  stat_read found (leave p) k f d n = break_turn found p k
  stat_read found (jump p m q) k f d n = goto_turn found p k m q
  stat_read found (label p m q r) k f d n = label_turn found p k m q r
  stat_read found (nest p ss q) k f d n =
      do_turn found p (spell_stats ss (word w.End q ∷ k)) (omega (arith, d)) ∙ one_added found _ _ _ _ (do_read P Q R h ss q k f d)
  stat_read found (loop p e q ss r) k f d n =
      while_turn found p (spell e (word w.Do q ∷ spell_stats ss (word w.End r ∷ k))) (omega (arith, d)) ∙ one_added found _ _ _ _ (while_read P Q R h e q ss r k f.0 f.1 d)
  stat_read found (repeat p ss q e) k f d n =
      repeat_turn found p (spell_stats ss (word w.Until q ∷ spell e k)) (omega (arith, d)) ∙ one_added found _ _ _ _ (repeat_read P Q R h ss q e k f.0 f.1 d n.parted)
  stat_read found (branch p e q ss arms) k f d n =
      if_turn found p (spell e (word w.Then q ∷ spell_stats ss (spell_arms arms k))) (omega (arith, d)) ∙ one_added found _ _ _ _ (if_read P Q R h e q ss arms k f.0 f.1 f.2 d)
  stat_read found (count p m q r from x to by y ss z) k f d n =
      for_turn found p (name m q ∷ sign s.Equal r ∷ spell from (sign s.Comma x ∷ spell to (spell_step by (word w.Do y ∷ spell_stats ss (word w.End z ∷ k))))) (omega (arith, d))
      ∙ one_added found _ _ _ _ (count_read P Q R h m q r from x to by y ss z k f.0 f.1 f.2 f.3 d)
  stat_read found (each p m q ns r e es x ss y) k f d n =
      for_turn found p (name m q ∷ spell_names ns (word w.In r ∷ spell e (spell_tail es (word w.Do x ∷ spell_stats ss (word w.End y ∷ k))))) (omega (arith, d))
      ∙ one_added found _ _ _ _ (each_read P Q R h m q ns r e es x ss y k f.0 f.1 f.2 d)
  stat_read found (define p e x b) k f d n =
      function_turn found p (spell e (spell_colon x (spell_body b k))) (omega (arith, d, body_pos b)) ∙ one_added found _ _ _ _ (define_read P Q R h p e x b f.0 f.1 d k)
  stat_read found (define_local p q m r b) k f d n =
      local_turn found p (word w.Function q ∷ name m r ∷ spell_body b k) ∙ one_added found _ _ _ _ (local_function_read P Q R h q m r b k f d)
  stat_read found (declare p m q a ds vs) k f d n =
      local_turn found p (name m q ∷ spell_attrib a (spell_declared ds (spell_values vs k))) ∙ one_added found _ _ _ _ (declare_read P Q R h m q a ds vs k f d n)

  -- ---- statements in a row

  end_turn : (found : Measured (List statement.Stat)) (x : Lexeme) (p : Place) (k : List Token) → BlockEnds (Some x) → stat_turn P Q R found (token x p ∷ k) ≡ Ok (done found, token x p ∷ k)
  unfolding on
  end_turn found l.End p k b = refl
  end_turn found (l.Word w.End) p k b = refl
  end_turn found (l.Word w.Else) p k b = refl
  end_turn found (l.Word w.Elseif) p k b = refl
  end_turn found (l.Word w.Until) p k b = refl
  end_turn found _ p k b = absurd b

  no_stat : (found : Measured (List statement.Stat)) (k : List Token) → BlockEnds (first k) → stat_turn P Q R found k ≡ Ok (done found, k)
  no_stat found [] b = absurd b
  no_stat found (x ∷ k) b = end_turn found x.what x.place k b

  stats_read : (ss : Stats) (found : Measured (List statement.Stat)) (k : List Token) → FormedStats ss → stats_height ss ≤ P.depth → BlockEnds (first k)
      → more_stats P Q R found (spell_stats ss k) ≡ Ok (measured (found.what ++ stats_of ss) (max found.depth (stats_height ss)), k)
  unfolding more_stats
  stats_read empty found k f d b =
      many_done (stat_turn P Q R) (stat_shrinks P Q R h.shorter h.shorter_below h.shorter_lower) found k k found (no_stat found k b) ∙ ap (λ z. Ok (z, k)) (no_more found)
  stats_read (stat x ss) found k f d b =
      many_again (stat_turn P Q R) (stat_shrinks P Q R h.shorter h.shorter_below h.shorter_lower) found (extended found x) (spell_stat x (spell_stats ss k)) (spell_stats ss k)
      (stat_read found x (spell_stats ss k) f.0 (omega (arith, d)) (next_follows x ss k f b))
      ∙ stats_read ss (extended found x) k f.1 (omega (arith, d)) b
      ∙ ap (λ z. Ok (z, k)) (more_of found (stat_of x) (stats_of ss) (stat_height x) (stats_height ss))
  stats_read (answer p es m) found k f d b =
      many_done (stat_turn P Q R) (stat_shrinks P Q R h.shorter h.shorter_below h.shorter_lower) found (word w.Return p ∷ spell_exps es (spell_semicolon m k)) k (with_one found (measured (st.Return (exps_of es)) (exps_height es)))
      (return_turn found p (spell_exps es (spell_semicolon m k)) ∙ then_ok _ _ _ _ _ (return_read P Q R h es m k f d b) refl)

  block_read : (ss : Stats) (k : List Token) → FormedStats ss → stats_height ss ≤ P.depth → BlockEnds (first k) → block P Q R (spell_stats ss k) ≡ Ok (measured (stats_of ss) (stats_height ss + 1), k)
  unfolding block
  block_read ss k f d b = then_ok _ _ _ _ _ (stats_read ss nothing k f d b) (ap (λ z. Ok (z, k)) (same_measured _ _ _ _ refl (omega arith)))

-- ---- readers of each depth

-- a reader of expressions goes on after a name as one that begins there
name_goes_on : (P : Parts) (n : Bytes) (p : Place) (ts : List Token) → rest_of P (name_leaf n p) ts ≡ from_level P true 0 (name n p ∷ ts)
unfolding rest_of from_level operand on
name_goes_on P n p ts = refl

-- nothing is so flat
flat_complete : CompleteParts flat_parts
flat_complete = record {
  expr = λ m e f low d k a b. absurd (omega (arith, d, height_pos e));
  rest = λ n p ts d. absurd (omega (arith, d));
  table = λ p fs f d q k. absurd (omega (arith, d));
  block = λ ss f d k b. absurd (omega (arith, d));
}

deeper_complete : (P Q R : Parts) → Around P Q R → CompleteParts (deeper_parts P Q R)
deeper_complete P Q R h = record {
  expr = λ m e f low d k a b. level_read P h.shorter h.here m e f low d k a b;
  rest = λ n p ts d. name_goes_on P n p ts;
  table = λ p fs f d q k. table_read P h.shorter h.here p fs f (omega (arith, d)) q k;
  block = λ ss f d k b. block_read P Q R h ss k f (omega (arith, d)) b;
}

levels_complete : (d : ℕ) → Around (levels d).here (levels d).below (levels d).lower
unfolding levels
levels_complete zero =
    let s = levels_shorter 0 in
    record { shorter = s.here; shorter_below = s.below; shorter_lower = s.lower; here = flat_complete; below = flat_complete; lower = flat_complete; near = omega arith; far = omega arith }
levels_complete (suc d) =
    let s = levels_shorter (suc d) in
    let h = levels_complete d in
    record {
      shorter = s.here;
      shorter_below = s.below;
      shorter_lower = s.lower;
      here = deeper_complete (levels d).here (levels d).below (levels d).lower h;
      below = h.here;
      lower = h.below;
      near = omega arith;
      far = omega (arith, h.near);
    }

pub parts_complete : (d : ℕ) → CompleteParts (parts d)
parts_complete d = (levels_complete d).here

-- ---- what is written is read

pub expr_reads : (d m : ℕ) (e : Exp) → Formed e → m ≤ level e → height e ≤ d → (k : List Token) → Apart e (first k) → Below m (first k) → (parts d).expr m (spell e k) ≡ Ok (measured (expr_of e) (height e), k)
expr_reads d m e f low h k a b = (parts_complete d).expr m e f low (omega (arith, h, parts_depth d)) k a b

pub block_reads : (d : ℕ) (w : Stats) → FormedStats w → stats_height w + 1 ≤ d → (k : List Token) → BlockEnds (first k) → (parts d).block (spell_stats w k) ≡ Ok (measured (stats_of w) (stats_height w + 1), k)
block_reads d w f h k b = (parts_complete d).block w f (omega (arith, h, parts_depth d)) k b
