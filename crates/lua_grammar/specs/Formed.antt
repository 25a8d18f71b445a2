-- Which of what can be written keeps the rules: precedence, what may be called, indexed, assigned
-- to or a statement, and that an opening parenthesis goes on with an expression before it (manual,
-- sections 3.3.1 and 3.4.8).
use Rattle.std.specs.Prelude.{◌≡◌, ℕ, ◌≤◌, Bool, true, false, [], Some}
use Rattle.lua_tokens.specs.declared.token.Lexeme.TheVariants as l
use Rattle.lua_tokens.specs.declared.sign.Sign.TheVariants as s
use Rattle.lua_grammar.specs.Tokens.{op_level, left_level, right_level}
use Rattle.lua_grammar.specs.Written.{Exp, atom, function, variable, group, field, item, call, method, table, unary, binary, Args, listed, braced, quoted, Exps, none, some, Tail, end_tail, more, Fields, no_fields, last_field, more_fields, Field, single, titled, keyed, Body, body, Stats, empty, stat, answer, Stat, skip, assign, run, leave, jump, label, nest, loop, repeat, branch, count, each, define, define_local, declare, Arms, over, otherwise, further, Step, no_step, step, Values, no_values, values}
use Rattle.lua_grammar.specs.Spelling.{spell_stats, first}

abbrev pub level : Exp → ℕ
level (unary op p e) = 11
level (binary op p x y) = op_level op
level _ = 12

-- what can be called and indexed
abbrev pub IsPrefix : Exp → Type 0
IsPrefix (variable n p) = Unit {0}
IsPrefix (group p e q) = Unit {0}
IsPrefix (field e p n q) = Unit {0}
IsPrefix (item e p x q) = Unit {0}
IsPrefix (call e a) = Unit {0}
IsPrefix (method e p n q a) = Unit {0}
IsPrefix _ = ⊥

-- what can be assigned to
abbrev pub IsVariable : Exp → Type 0
IsVariable (variable n p) = Unit {0}
IsVariable (field e p n q) = Unit {0}
IsVariable (item e p x q) = Unit {0}
IsVariable _ = ⊥

-- what can be a statement
abbrev pub IsCall : Exp → Type 0
IsCall (call e a) = Unit {0}
IsCall (method e p n q a) = Unit {0}
IsCall _ = ⊥

abbrev pub AreVariables : Tail → Type 0
AreVariables end_tail = Unit {0}
AreVariables (more p e es) = IsVariable e × AreVariables es

-- names with dots between, as a `function` statement has them
abbrev pub IsPath : Exp → Type 0
IsPath (variable n p) = Unit {0}
IsPath (field e p n q) = IsPath e
IsPath _ = ⊥

-- whether the last part is a prefix, so that an opening parenthesis after it would be a call's
abbrev pub ends_in_prefix : Exp → Bool
ends_in_prefix (atom a p) = false
ends_in_prefix (function p b) = false
ends_in_prefix (variable n p) = true
ends_in_prefix (group p e q) = true
ends_in_prefix (field e p n q) = true
ends_in_prefix (item e p x q) = true
ends_in_prefix (call e a) = true
ends_in_prefix (method e p n q a) = true
ends_in_prefix (table p fs q) = false
ends_in_prefix (unary op p e) = ends_in_prefix e
ends_in_prefix (binary op p x y) = ends_in_prefix y

-- the same of a list that begins with this expression
abbrev pub list_ends_in_prefix : Exp → Tail → Bool
list_ends_in_prefix e end_tail = ends_in_prefix e
list_ends_in_prefix e (more p x es) = list_ends_in_prefix x es

abbrev pub values_end_in_prefix : Values → Bool
values_end_in_prefix no_values = false
values_end_in_prefix (values p e es) = list_ends_in_prefix e es

-- A statement ends in a prefix where its last expression stands last in it and is one.
abbrev pub stat_ends_in_prefix : Stat → Bool
stat_ends_in_prefix (skip p) = false
stat_ends_in_prefix (assign t ts p e es) = list_ends_in_prefix e es
stat_ends_in_prefix (run e) = true
stat_ends_in_prefix (leave p) = false
stat_ends_in_prefix (jump p n q) = false
stat_ends_in_prefix (label p n q r) = false
stat_ends_in_prefix (nest p ss q) = false
stat_ends_in_prefix (loop p e q ss r) = false
stat_ends_in_prefix (repeat p ss q e) = ends_in_prefix e
stat_ends_in_prefix (branch p e q ss arms) = false
stat_ends_in_prefix (count p n q r from x to by y ss z) = false
stat_ends_in_prefix (each p n q ns r e es x ss y) = false
stat_ends_in_prefix (define p e c b) = false
stat_ends_in_prefix (define_local p q n r b) = false
stat_ends_in_prefix (declare p n q a ds vs) = values_end_in_prefix vs

abbrev mutual
  pub Formed : Exp → Type 0
  Formed (atom a p) = Unit {0}
  Formed (function p b) = FormedBody b
  Formed (variable n p) = Unit {0}
  Formed (group p e q) = Formed e
  Formed (field e p n q) = Formed e × IsPrefix e
  Formed (item e p x q) = Formed e × IsPrefix e × Formed x
  Formed (call e a) = Formed e × IsPrefix e × FormedArgs a
  Formed (method e p n q a) = Formed e × IsPrefix e × FormedArgs a
  Formed (table p fs q) = FormedFields fs
  Formed (unary op p e) = Formed e × (11 ≤ level e)
  Formed (binary op p x y) =
      Formed x × Formed y × (left_level (op_level op) ≤ level x)
      × (right_level (op_level op) ≤ level y)

  pub FormedArgs : Args → Type 0
  FormedArgs (listed p es q) = FormedExps es
  FormedArgs (braced p fs q) = FormedFields fs
  FormedArgs (quoted t p) = Unit {0}

  pub FormedExps : Exps → Type 0
  FormedExps none = Unit {0}
  FormedExps (some e es) = Formed e × FormedTail es

  pub FormedTail : Tail → Type 0
  FormedTail end_tail = Unit {0}
  FormedTail (more p e es) = Formed e × FormedTail es

  pub FormedFields : Fields → Type 0
  FormedFields no_fields = Unit {0}
  FormedFields (last_field f) = FormedField f
  FormedFields (more_fields f x p fs) = FormedField f × FormedFields fs

  pub FormedField : Field → Type 0
  FormedField (single e) = Formed e
  FormedField (titled n p q e) = Formed e
  FormedField (keyed p x q r e) = Formed x × Formed e

  pub FormedBody : Body → Type 0
  FormedBody (body p ps q ss r) = FormedStats ss

  pub FormedStats : Stats → Type 0
  FormedStats empty = Unit {0}
  FormedStats (stat x ss) =
      FormedStat x × FormedStats ss × (first (spell_stats ss []) ≡ Some (l.Sign s.OpenParen)
      → stat_ends_in_prefix x ≡ false)
  FormedStats (answer p es m) = FormedExps es

  pub FormedStat : Stat → Type 0
  FormedStat (skip p) = Unit {0}
  FormedStat (assign t ts p e es) =
      Formed t × IsVariable t × FormedTail ts × AreVariables ts × Formed e × FormedTail es
  FormedStat (run e) = Formed e × IsCall e
  FormedStat (leave p) = Unit {0}
  FormedStat (jump p n q) = Unit {0}
  FormedStat (label p n q r) = Unit {0}
  FormedStat (nest p ss q) = FormedStats ss
  FormedStat (loop p e q ss r) = Formed e × FormedStats ss
  FormedStat (repeat p ss q e) = FormedStats ss × Formed e
  FormedStat (branch p e q ss arms) = Formed e × FormedStats ss × FormedArms arms
  FormedStat (count p n q r from x to by y ss z) =
      Formed from × Formed to × FormedStep by × FormedStats ss
  FormedStat (each p n q ns r e es x ss y) = Formed e × FormedTail es × FormedStats ss
  FormedStat (define p e c b) = IsPath e × FormedBody b
  FormedStat (define_local p q n r b) = FormedBody b
  FormedStat (declare p n q a ds vs) = FormedValues vs

  pub FormedArms : Arms → Type 0
  FormedArms (over p) = Unit {0}
  FormedArms (otherwise p ss q) = FormedStats ss
  FormedArms (further p e q ss arms) = Formed e × FormedStats ss × FormedArms arms

  pub FormedStep : Step → Type 0
  FormedStep no_step = Unit {0}
  FormedStep (step p e) = Formed e

  pub FormedValues : Values → Type 0
  FormedValues no_values = Unit {0}
  FormedValues (values p e es) = Formed e × FormedTail es
