-- How deep what is written is nested.
use Rattle.std.proofs.Common.{ℕ, ◌+◌, max}
use Rattle.lua_grammar.specs.Written.{Colon, no_colon, colon, Exp, atom, function, variable, group, field, item, call, method, table, unary, binary, Args, listed, braced, quoted, Exps, none, some, Tail, end_tail, more, Fields, no_fields, last_field, more_fields, Field, single, titled, keyed, Body, body, Stats, empty, stat, answer, Stat, skip, assign, run, leave, jump, label, nest, loop, repeat, branch, count, each, define, define_local, declare, Arms, over, otherwise, further, Step, no_step, step, Values, no_values, values}

-- of the target of a `function` statement
abbrev pub target_height : ℕ → Colon → ℕ
target_height n no_colon = n
target_height n (colon p x q) = n + 1

abbrev mutual
  pub height : Exp → ℕ
  height (atom a p) = 1
  height (function p b) = body_height b + 1
  height (variable n p) = 1
  height (group p e q) = height e + 1
  height (field e p n q) = height e + 1
  height (item e p x q) = max (height e) (height x) + 1
  height (call e a) = max (height e) (args_height a) + 1
  height (method e p n q a) = max (height e) (args_height a) + 1
  height (table p fs q) = fields_height fs + 1
  height (unary op p e) = height e + 1
  height (binary op p x y) = max (height x) (height y) + 1

  pub args_height : Args → ℕ
  args_height (listed p es q) = exps_height es
  args_height (braced p fs q) = fields_height fs + 1
  args_height (quoted t p) = 1

  pub exps_height : Exps → ℕ
  exps_height none = 0
  exps_height (some e es) = max (height e) (tail_height es)

  pub tail_height : Tail → ℕ
  tail_height end_tail = 0
  tail_height (more p e es) = max (height e) (tail_height es)

  pub fields_height : Fields → ℕ
  fields_height no_fields = 0
  fields_height (last_field f) = field_height f
  fields_height (more_fields f x p fs) = max (field_height f) (fields_height fs)

  pub field_height : Field → ℕ
  field_height (single e) = height e
  field_height (titled n p q e) = height e
  field_height (keyed p x q r e) = max (height x) (height e)

  -- that of its block
  pub body_height : Body → ℕ
  body_height (body p ps q ss r) = stats_height ss + 1

  -- the greatest in some statements
  pub stats_height : Stats → ℕ
  stats_height empty = 0
  stats_height (stat x ss) = max (stat_height x) (stats_height ss)
  stats_height (answer p es m) = exps_height es

  pub stat_height : Stat → ℕ
  stat_height (skip p) = 0
  stat_height (assign t ts p e es) = max (max (height t) (tail_height ts)) (max (height e) (tail_height es))
  stat_height (run e) = height e
  stat_height (leave p) = 0
  stat_height (jump p n q) = 0
  stat_height (label p n q r) = 0
  stat_height (nest p ss q) = stats_height ss + 1
  stat_height (loop p e q ss r) = max (height e) (stats_height ss + 1)
  stat_height (repeat p ss q e) = max (stats_height ss + 1) (height e)
  stat_height (branch p e q ss arms) = max (max (height e) (stats_height ss + 1)) (arms_height arms)
  stat_height (count p n q r from x to by y ss z) = max (max (height from) (height to)) (max (step_height by) (stats_height ss + 1))
  stat_height (each p n q ns r e es x ss y) = max (max (height e) (tail_height es)) (stats_height ss + 1)
  stat_height (define p e c b) = max (target_height (height e) c) (body_height b + 1)
  stat_height (define_local p q n r b) = body_height b
  stat_height (declare p n q a ds vs) = values_height vs

  pub arms_height : Arms → ℕ
  arms_height (over p) = 0
  arms_height (otherwise p ss q) = stats_height ss + 1
  arms_height (further p e q ss arms) = max (max (height e) (stats_height ss + 1)) (arms_height arms)

  pub step_height : Step → ℕ
  step_height no_step = 0
  step_height (step p e) = height e

  pub values_height : Values → ℕ
  values_height no_values = 0
  values_height (values p e es) = max (height e) (tail_height es)
