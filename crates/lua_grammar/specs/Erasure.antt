-- The tree of what is written. Separators, semicolons and the kinds of arguments are gone, and
-- lines stand where the rule says.
use Rattle.std.specs.Prelude.{ℕ, Bool, true, false, List, [], ◌∷◌, ◌++◌, Option, Some, None}
use Rattle.lua_tokens.specs.declared.place.Place.{Place}
use Rattle.lua_tree.specs.declared.expr.Expr.{Expr, roll-Expr}
use Rattle.lua_tree.specs.declared.expr.Pair.{Pair}
use Rattle.lua_tree.specs.declared.expr.ExprKind.{ExprKind}
use Rattle.lua_tree.specs.declared.expr.ExprKind.TheVariants as k
use Rattle.lua_tree.specs.declared.expr.Field as declared
use Rattle.lua_tree.specs.declared.expr.Field.TheVariants as f
use Rattle.lua_tree.specs.declared.stat.Stat as statement
use Rattle.lua_tree.specs.declared.stat.Stat.TheVariants as st
use Rattle.lua_tree.specs.declared.stat.Block.{Block}
use Rattle.lua_tree.specs.declared.stat.Body as function_body
use Rattle.lua_tree.specs.declared.stat.Branch.{Branch}
use Rattle.lua_tree.specs.declared.stat.Tree.{Tree}
use Rattle.lua_grammar.specs.Tokens.{Op, or, and, plain, self_name}
use Rattle.lua_grammar.specs.Written.{Bytes, Atom, nil, yes, no, int, quote, dots, MoreParams, end_params, more_dots, more_param, Params, no_params, only_dots, params, Names, end_names, more_names, Attrib, no_attrib, const, Declared, end_declared, more_declared, Colon, no_colon, colon, Exp, atom, function, variable, group, field, item, call, method, table, unary, binary, Args, listed, braced, quoted, Exps, none, some, Tail, end_tail, more, Fields, no_fields, last_field, more_fields, Field, single, titled, keyed, Body, body, Stats, empty, stat, answer, Stat, skip, assign, run, leave, jump, label, nest, loop, repeat, branch, count, each, define, define_local, declare, Arms, over, otherwise, further, Step, no_step, step, Values, no_values, values}

-- ---- one node

abbrev pub node : ExprKind → Place → Expr
node what p = roll-Expr (record { what = what; line = p.line })

abbrev pub block_of : List statement.Stat → Block
block_of ss = record { stats = ss }

abbrev pub branch_of : Expr → List statement.Stat → Branch
branch_of e ss = record { condition = e; block = block_of ss }

abbrev pub body_of : List (Bytes × Place) → Bool → List statement.Stat → ℕ → function_body.Body
body_of ps vararg ss line =
    record { params = ps; vararg = vararg; block = block_of ss; line = line }

abbrev pub text_node : Bytes → Place → Expr
text_node t p = node (k.Text t) p

abbrev pub name_node : Bytes → Place → Expr
name_node n p = node (k.Name n p) p

abbrev pub pair : Expr → Expr → Pair
pair x y = record { left = x; right = y }

abbrev pub index_node : Expr → Place → Expr → Expr
index_node e p x = node (k.Index (pair e x)) p

abbrev pub op_kind : Op → Expr → Expr → ExprKind
op_kind or x y = k.Or (pair x y)
op_kind and x y = k.And (pair x y)
op_kind (plain op) x y = k.Binary op (pair x y)

abbrev pub atom_kind : Atom → Place → ExprKind
atom_kind nil p = k.Nil
atom_kind yes p = k.True
atom_kind no p = k.False
atom_kind (int n) p = k.Int n
atom_kind (quote t) p = k.Text t
atom_kind dots p = k.Dots p

-- ---- names

abbrev pub more_params_of : MoreParams → List (Bytes × Place)
more_params_of end_params = []
more_params_of (more_dots p q) = []
more_params_of (more_param p n q ps) = (n, q) ∷ more_params_of ps

abbrev pub params_of : Params → List (Bytes × Place)
params_of no_params = []
params_of (only_dots p) = []
params_of (params n p ps) = (n, p) ∷ more_params_of ps

abbrev pub more_params_dots : MoreParams → Bool
more_params_dots end_params = false
more_params_dots (more_dots p q) = true
more_params_dots (more_param p n q ps) = more_params_dots ps

abbrev pub params_dots : Params → Bool
params_dots no_params = false
params_dots (only_dots p) = true
params_dots (params n p ps) = more_params_dots ps

abbrev pub names_of : Names → List (Bytes × Place)
names_of end_names = []
names_of (more_names p n q ns) = (n, q) ∷ names_of ns

abbrev pub is_const : Attrib → Bool
is_const no_attrib = false
is_const (const p q r) = true

abbrev pub declared_of : Declared → List (Bytes × Bool × Place)
declared_of end_declared = []
declared_of (more_declared p n q a ds) = (n, is_const a, q) ∷ declared_of ds

-- the target of a `function` statement
abbrev pub target_of : Expr → Colon → Expr
target_of e no_colon = e
target_of e (colon p n q) = index_node e p (text_node n q)

-- the parameter that a colon adds
abbrev pub self_of : Colon → List (Bytes × Place)
self_of no_colon = []
self_of (colon p n q) = (self_name, q) ∷ []

-- where the arguments of a call begin
abbrev pub args_place : Args → Place
args_place (listed p es q) = p
args_place (braced p fs q) = p
args_place (quoted t p) = p

-- ---- expressions, blocks and statements

abbrev mutual
  pub expr_of : Exp → Expr
  expr_of (atom a p) = node (atom_kind a p) p
  expr_of (function p b) = node (k.Function (function_of p [] b)) p
  expr_of (variable n p) = name_node n p
  expr_of (group p e q) = node (k.Paren (expr_of e)) p
  expr_of (field e p n q) = index_node (expr_of e) p (text_node n q)
  expr_of (item e p x q) = index_node (expr_of e) p (expr_of x)
  expr_of (call e a) = node (k.Call (expr_of e) (args_of a)) (args_place a)
  expr_of (method e p n q a) = node (k.Method (expr_of e) n (args_of a)) (args_place a)
  expr_of (table p fs q) = node (k.Table (fields_of fs)) p
  expr_of (unary op p e) = node (k.Unary op (expr_of e)) p
  expr_of (binary op p x y) = node (op_kind op (expr_of x) (expr_of y)) p

  pub args_of : Args → List Expr
  args_of (listed p es q) = exps_of es
  args_of (braced p fs q) = node (k.Table (fields_of fs)) p ∷ []
  args_of (quoted t p) = text_node t p ∷ []

  pub exps_of : Exps → List Expr
  exps_of none = []
  exps_of (some e es) = expr_of e ∷ tail_of es

  pub tail_of : Tail → List Expr
  tail_of end_tail = []
  tail_of (more p e es) = expr_of e ∷ tail_of es

  pub fields_of : Fields → List declared.Field
  fields_of no_fields = []
  fields_of (last_field x) = field_of x ∷ []
  fields_of (more_fields x y p fs) = field_of x ∷ fields_of fs

  pub field_of : Field → declared.Field
  field_of (single e) = f.Item (expr_of e)
  field_of (titled n p q e) = f.Named n (expr_of e)
  field_of (keyed p x q r e) = f.Keyed (expr_of x) (expr_of e)

  -- of a function whose word `function` is here, with these parameters before its own
  pub function_of : Place → List (Bytes × Place) → Body → function_body.Body
  function_of at first (body p ps q ss r) =
      body_of (first ++ params_of ps) (params_dots ps) (stats_of ss) at.line

  pub stats_of : Stats → List statement.Stat
  stats_of empty = []
  stats_of (stat x ss) = stat_of x ++ stats_of ss
  stats_of (answer p es m) = st.Return (exps_of es) ∷ []

  -- no statement for a semicolon, else one
  pub stat_of : Stat → List statement.Stat
  stat_of (skip p) = []
  stat_of (assign t ts p e es) = st.Assign (expr_of t ∷ tail_of ts) (expr_of e ∷ tail_of es) ∷ []
  stat_of (run e) = st.Call (expr_of e) ∷ []
  stat_of (leave p) = st.Break p ∷ []
  stat_of (jump p n q) = st.Goto n q ∷ []
  stat_of (label p n q r) = st.Label n q ∷ []
  stat_of (nest p ss q) = st.Do (block_of (stats_of ss)) ∷ []
  stat_of (loop p e q ss r) = st.While (expr_of e) (block_of (stats_of ss)) ∷ []
  stat_of (repeat p ss q e) = st.Repeat (block_of (stats_of ss)) (expr_of e) ∷ []
  stat_of (branch p e q ss arms) =
      st.If (branch_of (expr_of e) (stats_of ss) ∷ arms_of arms) (else_of arms) ∷ []
  stat_of (count p n q r from x to by y ss z) =
      st.ForNum n q (expr_of from) (expr_of to) (step_of by) (block_of (stats_of ss)) ∷ []
  stat_of (each p n q ns r e es x ss y) =
      st.ForIn ((n, q) ∷ names_of ns) (expr_of e ∷ tail_of es) (block_of (stats_of ss)) ∷ []
  stat_of (define p e c b) =
      st.Assign (target_of (expr_of e) c ∷ [])
      (node (k.Function (function_of p (self_of c) b)) p ∷ []) ∷ []
  stat_of (define_local p q n r b) = st.LocalFunction n r (function_of q [] b) ∷ []
  stat_of (declare p n q a ds vs) =
      st.Local ((n, is_const a, q) ∷ declared_of ds) (values_of vs) ∷ []

  pub arms_of : Arms → List Branch
  arms_of (over p) = []
  arms_of (otherwise p ss q) = []
  arms_of (further p e q ss arms) = branch_of (expr_of e) (stats_of ss) ∷ arms_of arms

  pub else_of : Arms → Option Block
  else_of (over p) = None
  else_of (otherwise p ss q) = Some (block_of (stats_of ss))
  else_of (further p e q ss arms) = else_of arms

  pub step_of : Step → Option Expr
  step_of no_step = None
  step_of (step p e) = Some (expr_of e)

  pub values_of : Values → List Expr
  values_of no_values = []
  values_of (values p e es) = expr_of e ∷ tail_of es

abbrev pub tree_of : Stats → Tree
tree_of ss = record { block = block_of (stats_of ss) }
