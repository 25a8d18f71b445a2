-- How statements, blocks and scripts are read, in one pass.
use Rattle.std.specs.Prelude.{ℕ, zero, ◌+◌, suc, max, nat_le, Bool, true, false, List, [], ◌∷◌, ◌++◌, Option, Some, None, Ok, Err}
use Rattle.lua_tokens.specs.declared.place.Place.{Place}
use Rattle.lua_tokens.specs.declared.token.Lexeme.TheVariants as l
use Rattle.lua_tokens.specs.declared.sign.Sign.TheVariants as s
use Rattle.lua_tokens.specs.declared.word.Word.TheVariants as w
use Rattle.lua_tree.specs.declared.expr.Expr.{Expr}
use Rattle.lua_tree.specs.declared.stat.Stat.{Stat}
use Rattle.lua_tree.specs.declared.stat.Stat.TheVariants as st
use Rattle.lua_tree.specs.declared.stat.Branch.{Branch}
use Rattle.lua_tree.specs.declared.stat.Tree.{Tree}
use Rattle.lua_grammar.specs.declared.measured.Measured.{Measured}
use Rattle.lua_grammar.specs.declared.measured.Prefix.{Prefix}
use Rattle.lua_grammar.specs.declared.measured.Ends.{Ends}
use Rattle.lua_grammar.specs.declared.measured.Ends.TheVariants as ends
use Rattle.lua_grammar.specs.Tokens.{self_name}
use Rattle.lua_grammar.specs.Written.{Bytes}
use Rattle.lua_grammar.specs.Erasure.{block_of, branch_of}
use Rattle.lua_grammar.specs.Next.{is_sign, is_word, is, a_name, ends_return}
use Rattle.lua_grammar.specs.Input.{Parser, bad, ◌>>=◌, pure, refuse, on, expect, before, attribute_name, Turn, again, done, many}
use Rattle.lua_grammar.specs.Expressions.{measured, name_leaf, dotted, function_node, nothing, with_one, only, Parts, list, on_index, on_call, function_body, group, table, from_level, rest_of}

abbrev pub stat_of : Stat → ℕ → Measured Stat
stat_of x d = measured x d

abbrev pub as_variable : Measured Expr → Prefix
as_variable e = record { expr = e; ends = ends.Variable }

abbrev pub as_call : Measured Expr → Prefix
as_call e = record { expr = e; ends = ends.Call }

abbrev pub as_group : Measured Expr → Prefix
as_group e = record { expr = e; ends = ends.Group }

-- ---- jumps

-- after `goto`
unfoldable pub after_goto : Parser (Measured Stat)
after_goto = on a_name true (λ n p. pure (measured (st.Goto n p) 0)) refuse

-- after the `::` that begins a label
unfoldable pub after_colons : Parser (Measured Stat)
after_colons =
    on a_name true
    (λ n p. expect (l.Sign s.ColonColon) >>= λ _. pure (measured (st.Label n p) 0)) refuse

-- Statements whose parts have the depth of P, and the parts of those the depth of Q and R, one and
-- two below.
module _ (P Q R : Parts) where
  -- ---- blocks inside

  -- after `do`
  unfoldable pub after_do : Parser (Measured Stat)
  after_do =
      P.block >>= λ b. expect (l.Word w.End) >>= λ _.
      pure (measured (st.Do (block_of b.what)) b.depth)

  -- after `while`
  unfoldable pub after_while : Parser (Measured Stat)
  after_while =
      P.expr 0 >>= λ e. expect (l.Word w.Do) >>= λ _. P.block >>= λ b.
      expect (l.Word w.End) >>= λ _.
      pure (measured (st.While e.what (block_of b.what)) (max e.depth b.depth))

  -- after `repeat`
  unfoldable pub after_repeat : Parser (Measured Stat)
  after_repeat =
      P.block >>= λ b. expect (l.Word w.Until) >>= λ _. P.expr 0 >>= λ e.
      pure (measured (st.Repeat (block_of b.what) e.what) (max b.depth e.depth))

  -- after `if` or `elseif`
  unfoldable pub condition : Parser (Measured Branch)
  condition =
      P.expr 0 >>= λ e. expect (l.Word w.Then) >>= λ _. P.block >>= λ b.
      pure (measured (branch_of e.what b.what) (max e.depth b.depth))

  -- after `else`
  unfoldable pub after_else : Measured (List Branch) → Parser (Measured Stat)
  after_else found =
      P.block >>= λ b. expect (l.Word w.End) >>= λ _.
      pure (measured (st.If found.what (Some (block_of b.what))) (max found.depth b.depth))

  abbrev pub arm_turn : Measured (List Branch)
      → Parser (Turn (Measured (List Branch)) (Measured Stat))
  arm_turn found =
      on (is_word w.Elseif) true (λ _ _. condition >>= λ x. pure (again (with_one found x)))
      (on (is_word w.Else) true (λ _ _. after_else found >>= λ x. pure (done x))
      (on (is_word w.End) true
      (λ _ _. pure (done (measured (st.If found.what None) found.depth))) refuse))

  unfoldable pub more_arms : Measured (List Branch) → Parser (Measured Stat)
  more_arms found = many arm_turn found

  -- after `if`
  unfoldable pub after_if : Parser (Measured Stat)
  after_if = condition >>= λ x. more_arms (only x)

  -- ---- `for`

  unfoldable pub for_step : Parser (Measured (Option Expr))
  for_step =
      on (is_sign s.Comma) true (λ _ _. P.expr 0 >>= λ e. pure (measured (Some e.what) e.depth))
      (pure (measured None 0))

  -- after `for name =`
  unfoldable pub for_numbers : Bytes → Place → Parser (Measured Stat)
  for_numbers n p =
      P.expr 0 >>= λ from. expect (l.Sign s.Comma) >>= λ _. P.expr 0 >>= λ to. for_step >>= λ by.
      expect (l.Word w.Do) >>= λ _.
      P.block >>= λ b. expect (l.Word w.End) >>= λ _.
      pure (measured (st.ForNum n p from.what to.what by.what (block_of b.what))
      (max (max from.depth to.depth) (max by.depth b.depth)))

  abbrev pub name_turn : List (Bytes × Place)
      → Parser (Turn (List (Bytes × Place)) (List (Bytes × Place)))
  name_turn found =
      on (is_sign s.Comma) true (λ _ _. on a_name true
      (λ n p. pure (again (found ++ (n, p) ∷ []))) refuse)
      (on (is_word w.In) true (λ _ _. pure (done found)) refuse)

  -- further names, up to `in`
  unfoldable pub for_names : List (Bytes × Place) → Parser (List (Bytes × Place))
  for_names found = many name_turn found

  -- after `for name`
  unfoldable pub for_each : Bytes → Place → Parser (Measured Stat)
  for_each n p =
      for_names ((n, p) ∷ []) >>= λ ns. list P >>= λ es. expect (l.Word w.Do) >>= λ _.
      P.block >>= λ b. expect (l.Word w.End) >>= λ _.
      pure (measured (st.ForIn ns es.what (block_of b.what)) (max es.depth b.depth))

  -- after `for`
  unfoldable pub after_for : Parser (Measured Stat)
  after_for =
      on a_name true (λ n p. on (is_sign s.Equal) true (λ _ _. for_numbers n p)
      (for_each n p)) refuse

  -- ---- `local`

  unfoldable pub attrib : Parser Bool
  attrib =
      on (is_sign s.Less) true (λ _ _. attribute_name >>= λ _. expect (l.Sign s.Greater) >>= λ _.
      pure true) (pure false)

  abbrev pub declared_turn : List (Bytes × Bool × Place)
      → Parser (Turn (List (Bytes × Bool × Place)) (List (Bytes × Bool × Place)))
  declared_turn found =
      on (is_sign s.Comma) true (λ _ _. on a_name true
      (λ n p. attrib >>= λ a. pure (again (found ++ (n, a, p) ∷ []))) refuse)
      (pure (done found))

  -- further declared names
  unfoldable pub more_declared : List (Bytes × Bool × Place) → Parser (List (Bytes × Bool × Place))
  more_declared found = many declared_turn found

  unfoldable pub values : Parser (Measured (List Expr))
  values = on (is_sign s.Equal) (nat_le 1 P.depth) (λ _ _. list P) (pure nothing)

  -- after `local name`
  unfoldable pub local_names : Bytes → Place → Parser (Measured Stat)
  local_names n p =
      attrib >>= λ a. more_declared ((n, a, p) ∷ []) >>= λ ns. values >>= λ es.
      pure (measured (st.Local ns es.what) es.depth)

  -- after `local function`
  unfoldable pub local_function : Place → Parser (Measured Stat)
  local_function at =
      on a_name true (λ n p. function_body P at [] >>= λ b.
      pure (measured (st.LocalFunction n p b.what) b.depth)) refuse

  -- after `local`
  unfoldable pub after_local : Parser (Measured Stat)
  after_local =
      on (is_word w.Function) (nat_le 1 P.depth) (λ _ p. local_function p)
      (on a_name true local_names refuse)

  -- ---- `function`

  abbrev pub path_turn : Measured Expr → Parser (Turn (Measured Expr) (Measured Expr))
  path_turn e =
      on (is_sign s.Dot) (nat_le e.depth Q.depth)
      (λ _ p. on a_name true (λ n q. pure (again (dotted e p n q))) refuse) (pure (done e))

  -- further names of a path
  unfoldable pub path : Measured Expr → Parser (Measured Expr)
  path e = many path_turn e

  unfoldable pub defined : Place → Measured Expr → List (Bytes × Place) → Parser (Measured Stat)
  defined at e first =
      function_body Q at first >>= λ b. pure (measured
      (st.Assign (e.what ∷ []) ((function_node at b).what ∷ [])) (max e.depth (b.depth + 1)))

  -- after the names
  unfoldable pub after_path : Place → Measured Expr → Parser (Measured Stat)
  after_path at e =
      on (is_sign s.Colon) (nat_le e.depth Q.depth)
      (λ _ p. on a_name true (λ n q. defined at (dotted e p n q) ((self_name, q) ∷ [])) refuse)
      (defined at e [])

  -- after `function`
  unfoldable pub after_function : Place → Parser (Measured Stat)
  after_function at = on a_name true (λ n p. path (name_leaf n p) >>= after_path at) refuse

  -- ---- assignments and calls

  -- In a target after the first a call must lie under an index, so its parts are one less deep.
  abbrev pub target_turn : Prefix → Parser (Turn Prefix Prefix)
  target_turn x =
      on_index Q x.expr (λ e. again (as_variable e))
      (on_call R x.expr (λ e. again (as_call e)) (pure (done x)))

  abbrev pub needs_variable : Ends → Measured Expr → Parser (Measured Expr)
  needs_variable ends.Variable e = pure e
  needs_variable _ e = refuse

  unfoldable pub target_from : Prefix → Parser (Measured Expr)
  target_from x = many target_turn x >>= λ y. needs_variable y.ends y.expr

  -- after a comma
  unfoldable pub target : Parser (Measured Expr)
  target =
      on a_name true (λ n p. target_from (as_variable (name_leaf n p)))
      (on (is_sign s.OpenParen) (nat_le 3 P.depth)
      (λ _ p. group R p >>= λ e. target_from (as_group e)) refuse)

  abbrev pub targets_turn : Measured (List Expr)
      → Parser (Turn (Measured (List Expr)) (Measured Stat))
  targets_turn found =
      on (is_sign s.Comma) true (λ _ _. target >>= λ e. pure (again (with_one found e)))
      (on (is_sign s.Equal) true (λ _ _. list P >>= λ es.
      pure (done (measured (st.Assign found.what es.what) (max found.depth es.depth)))) refuse)

  -- after some targets
  unfoldable pub assigned : Measured (List Expr) → Parser (Measured Stat)
  assigned found = many targets_turn found

  abbrev pub finished : Ends → Measured Expr → Parser (Measured Stat)
  finished ends.Variable e = assigned (only e)
  finished ends.Call e = pure (measured (st.Call e.what) e.depth)
  finished ends.Group e = refuse

  abbrev pub prefix_turn : Prefix → Parser (Turn Prefix Prefix)
  prefix_turn x =
      on_index Q x.expr (λ e. again (as_variable e))
      (on_call Q x.expr (λ e. again (as_call e)) (pure (done x)))

  unfoldable pub prefixes : Prefix → Parser Prefix
  prefixes x = many prefix_turn x

  -- a statement that begins so
  unfoldable pub begun : Prefix → Parser (Measured Stat)
  begun x = prefixes x >>= λ y. finished y.ends y.expr

  -- after an opening parenthesis
  unfoldable pub after_open : Place → Parser (Measured Stat)
  after_open p = group R p >>= λ e. begun (as_group e)

  -- ---- blocks

  unfoldable pub returned : Parser (Measured (List Expr))
  returned = before ends_return (pure nothing) (list P)

  unfoldable pub semicolon : Parser (Unit {0})
  semicolon = on (is_sign s.Semicolon) true (λ _ _. pure tt) (pure tt)

  -- after `return`
  unfoldable pub after_return : Parser (Measured Stat)
  after_return = returned >>= λ es. semicolon >>= λ _. pure (measured (st.Return es.what) es.depth)

  abbrev pub add : Measured (List Stat) → Parser (Measured Stat)
      → Parser (Turn (Measured (List Stat)) (Measured (List Stat)))
  add found p = p >>= λ x. pure (again (with_one found x))

  abbrev pub stat_turn : Measured (List Stat)
      → Parser (Turn (Measured (List Stat)) (Measured (List Stat)))
  stat_turn found =
      on (is_sign s.Semicolon) true (λ _ _. pure (again found))
      (on (is_word w.Return) true (λ _ _. after_return >>= λ x. pure (done (with_one found x)))
      (on (is_word w.Break) true (λ _ p. pure (again (with_one found (measured (st.Break p) 0))))
      (on (is_word w.Goto) true (λ _ _. add found after_goto)
      (on (is_sign s.ColonColon) true (λ _ _. add found after_colons)
      (on a_name (nat_le 1 P.depth) (λ n p. add found (begun (as_variable (name_leaf n p))))
      (on (is_sign s.OpenParen) (nat_le 3 P.depth) (λ _ p. add found (after_open p))
      (on (is_word w.Local) true (λ _ _. add found after_local)
      (on (is_word w.If) (nat_le 1 P.depth) (λ _ _. add found after_if)
      (on (is_word w.For) (nat_le 1 P.depth) (λ _ _. add found after_for)
      (on (is_word w.Function) (nat_le 2 P.depth) (λ _ p. add found (after_function p))
      (on (is_word w.While) (nat_le 1 P.depth) (λ _ _. add found after_while)
      (on (is_word w.Repeat) (nat_le 1 P.depth) (λ _ _. add found after_repeat)
      (on (is_word w.Do) (nat_le 1 P.depth) (λ _ _. add found after_do)
      (pure (done found)))))))))))))))

  -- further statements of a block
  unfoldable pub more_stats : Measured (List Stat) → Parser (Measured (List Stat))
  more_stats found = many stat_turn found

  unfoldable pub block : Parser (Measured (List Stat))
  block = more_stats nothing >>= λ found. pure (measured found.what (found.depth + 1))

-- ---- readers of each depth

-- those that read nothing
abbrev pub no_parts : Parts
no_parts =
    record {
      depth = 0;
      expr = λ m. refuse;
      rest = λ e. refuse;
      table = λ p. refuse;
      block = refuse;
    }

-- those of a depth of 0, where each expression is too deep
abbrev pub flat_parts : Parts
flat_parts =
    record {
      depth = 0;
      expr = λ m. from_level no_parts false m;
      rest = λ e. refuse;
      table = λ p. refuse;
      block = refuse;
    }

-- those of one level more
abbrev pub deeper_parts : Parts → Parts → Parts → Parts
deeper_parts P Q R =
    record {
      depth = suc P.depth;
      expr = λ m. from_level P true m;
      rest = λ e. rest_of P e;
      table = λ p. table P p;
      block = block P Q R;
    }

-- those of a depth, and of one and two less
pub record Levels : Type 0 where
  pub here : Parts
  pub below : Parts
  pub lower : Parts

unfoldable pub levels : ℕ → Levels
levels zero = record { here = flat_parts; below = flat_parts; lower = flat_parts }
levels (suc d) =
    record {
      here = deeper_parts (levels d).here (levels d).below (levels d).lower;
      below = (levels d).here;
      lower = (levels d).below;
    }

-- the readers of what has at most this depth
abbrev pub parts : ℕ → Parts
parts d = (levels d).here

-- ---- scripts

-- nothing follows the end of a script
abbrev pub nothing_more : Measured (List Stat) → Parser Tree
nothing_more b [] = Ok (record { block = block_of b.what }, [])
nothing_more b (x ∷ xs) = Err (bad, x ∷ xs)

abbrev pub whole : Measured (List Stat) → Parser Tree
whole b = on (is l.End) true (λ _ _. nothing_more b) refuse

-- a script of at most this depth
unfoldable pub script : ℕ → Parser Tree
script d = (parts d).block >>= whole
