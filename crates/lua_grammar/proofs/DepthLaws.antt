-- How deep the tree of what is written is: as deep as what is written.
use Rattle.std.proofs.Common.{◌≡◌, refl, ◌∙◌, ap, ℕ, ◌+◌, suc, max, ◌≤◌, Bool, List, [], ◌∷◌, ◌++◌, map, Option, Some, None, arith}
use Rattle.lua_tree.specs.declared.expr.Expr.{Expr, the_lemmas}
use Rattle.lua_tree.specs.declared.expr.ExprKind.TheVariants as k
use Rattle.lua_tree.specs.declared.expr.Field.{Field, fold-Field}
use Rattle.lua_tree.specs.declared.expr.Field.TheVariants as f
use Rattle.lua_tree.specs.declared.stat.Stat.{Stat}
use Rattle.lua_tree.specs.declared.stat.Stat.TheVariants as st
use Rattle.lua_tree.specs.declared.stat.Block.{Block, fold-Block}
use Rattle.lua_tree.specs.declared.stat.Body.{Body, fold-Body}
use Rattle.lua_tree.specs.declared.stat.Branch.{Branch, fold-Branch}
use Rattle.lua_tree.specs.declared.operator.Unary.{Unary}
use Rattle.lua_tokens.specs.declared.place.Place.{Place}
use Rattle.lua_grammar.specs.Tokens.{Op, or, and, plain}
use Rattle.lua_grammar.specs.Erasure.{node, block_of, body_of, branch_of, text_node, name_node, index_node, op_kind, atom_kind, target_of, self_of, params_of, params_dots, names_of, is_const, declared_of, args_place, expr_of, args_of, exps_of, tail_of, fields_of, field_of, function_of, stats_of, stat_of, arms_of, else_of, step_of, values_of, tree_of}
use Rattle.lua_grammar.specs.Depth.{greatest, depth_of, kind_depth, field_depth, stat_depth, expr_depth as expr_layer, pair_depth, block_depth, body_depth, branch_depth, depth_of_expr, depth_of_stat, depths_of_stats}
use Rattle.lua_grammar.specs.Written.{Bytes, Atom, nil, yes, no, int, quote, dots, Colon, no_colon, colon, Exp, atom, function, variable, group, field, item, call, method, table, unary, binary, Args, listed, braced, quoted, Exps, none, some, Tail, end_tail, more, Fields, no_fields, last_field, more_fields, Field as written_field, single, titled, keyed, Body as written_body, body, Stats, empty, stat, answer, Stat as written_stat, skip, assign, run, leave, jump, label, nest, loop, repeat, branch, count, each, define, define_local, declare, Arms, over, otherwise, further, Step, no_step, step, Values, no_values, values}
use Rattle.lua_grammar.proofs.Heights.{target_height, height, args_height, exps_height, tail_height, fields_height, field_height, body_height, stats_height, stat_height, arms_height, step_height, values_height}

-- ---- the depth of each form of the tree

abbrev depth_of_field : Field → ℕ
depth_of_field = fold-Field ℕ ℕ ℕ ℕ ℕ ℕ ℕ ℕ kind_depth field_depth stat_depth expr_layer pair_depth block_depth body_depth branch_depth

abbrev depth_of_block : Block → ℕ
depth_of_block = fold-Block ℕ ℕ ℕ ℕ ℕ ℕ ℕ ℕ kind_depth field_depth stat_depth expr_layer pair_depth block_depth body_depth branch_depth

abbrev depth_of_body : Body → ℕ
depth_of_body = fold-Body ℕ ℕ ℕ ℕ ℕ ℕ ℕ ℕ kind_depth field_depth stat_depth expr_layer pair_depth block_depth body_depth branch_depth

abbrev depth_of_branch : Branch → ℕ
depth_of_branch = fold-Branch ℕ ℕ ℕ ℕ ℕ ℕ ℕ ℕ kind_depth field_depth stat_depth expr_layer pair_depth block_depth body_depth branch_depth

abbrev depths : List Expr → ℕ
depths es = greatest (map depth_of_expr es)

abbrev field_depths : List Field → ℕ
field_depths fs = greatest (map depth_of_field fs)

abbrev branch_depths : List Branch → ℕ
branch_depths bs = greatest (map depth_of_branch bs)

stats_depths : (ss : List Stat) → greatest (map depth_of_stat ss) ≡ depths_of_stats ss
stats_depths [] = refl
stats_depths (x ∷ xs) = ap (max (depth_of_stat x)) (stats_depths xs)

block_deep : (ss : List Stat) → depth_of_block (block_of ss) ≡ suc (greatest (map depth_of_stat ss))
block_deep ss = search the_lemmas

body_deep : (ps : List (Bytes × Place)) (v : Bool) (ss : List Stat) (n : ℕ) → depth_of_body (body_of ps v ss n) ≡ suc (greatest (map depth_of_stat ss))
body_deep ps v ss n = search the_lemmas

branch_deep : (e : Expr) (ss : List Stat) → depth_of_branch (branch_of e ss) ≡ max (depth_of_expr e) (suc (greatest (map depth_of_stat ss)))
branch_deep e ss = search the_lemmas

abbrev or_block : Option Block → ℕ
or_block None = 0
or_block (Some b) = depth_of_block b

abbrev or_expr : Option Expr → ℕ
or_expr None = 0
or_expr (Some e) = depth_of_expr e

module _ (p : Place) where
  atom_deep : (a : Atom) → depth_of_expr (node (atom_kind a p) p) ≡ 1
  atom_deep nil = search the_lemmas
  atom_deep yes = search the_lemmas
  atom_deep no = search the_lemmas
  atom_deep (int n) = search the_lemmas
  atom_deep (quote t) = search the_lemmas
  atom_deep dots = search the_lemmas

  text_deep : (t : Bytes) → depth_of_expr (text_node t p) ≡ 1
  text_deep t = search the_lemmas

  name_deep : (n : Bytes) → depth_of_expr (name_node n p) ≡ 1
  name_deep n = search the_lemmas

  paren_deep : (e : Expr) → depth_of_expr (node (k.Paren e) p) ≡ suc (depth_of_expr e)
  paren_deep e = search the_lemmas

  index_deep : (e x : Expr) → depth_of_expr (index_node e p x) ≡ suc (max (depth_of_expr e) (depth_of_expr x))
  index_deep e x = search the_lemmas

  call_deep : (e : Expr) (es : List Expr) → depth_of_expr (node (k.Call e es) p) ≡ suc (max (depth_of_expr e) (depths es))
  call_deep e es = search the_lemmas

  method_deep : (e : Expr) (n : Bytes) (es : List Expr) → depth_of_expr (node (k.Method e n es) p) ≡ suc (max (depth_of_expr e) (depths es))
  method_deep e n es = search the_lemmas

  function_deep : (b : Body) → depth_of_expr (node (k.Function b) p) ≡ suc (depth_of_body b)
  function_deep b = search the_lemmas

  op_deep : (op : Op) (x y : Expr) → depth_of_expr (node (op_kind op x y) p) ≡ suc (max (depth_of_expr x) (depth_of_expr y))
  op_deep or x y = search the_lemmas
  op_deep and x y = search the_lemmas
  op_deep (plain op) x y = search the_lemmas

  unary_deep : (op : Unary) (e : Expr) → depth_of_expr (node (k.Unary op e) p) ≡ suc (depth_of_expr e)
  unary_deep op e = search the_lemmas

  table_deep : (fs : List Field) → depth_of_expr (node (k.Table fs) p) ≡ suc (field_depths fs)
  table_deep fs = search the_lemmas

single_deep : (e : Expr) → depth_of_field (f.Item e) ≡ depth_of_expr e
single_deep e = search the_lemmas

named_deep : (n : Bytes) (e : Expr) → depth_of_field (f.Named n e) ≡ depth_of_expr e
named_deep n e = search the_lemmas

keyed_deep : (x e : Expr) → depth_of_field (f.Keyed x e) ≡ max (depth_of_expr x) (depth_of_expr e)
keyed_deep x e = search the_lemmas

local_deep : (ns : List (Bytes × Bool × Place)) (es : List Expr) → depth_of_stat (st.Local ns es) ≡ depths es
local_deep ns es = search the_lemmas

assign_deep : (ts es : List Expr) → depth_of_stat (st.Assign ts es) ≡ max (depths ts) (depths es)
assign_deep ts es = search the_lemmas

run_deep : (e : Expr) → depth_of_stat (st.Call e) ≡ depth_of_expr e
run_deep e = search the_lemmas

do_deep : (b : Block) → depth_of_stat (st.Do b) ≡ depth_of_block b
do_deep b = search the_lemmas

while_deep : (e : Expr) (b : Block) → depth_of_stat (st.While e b) ≡ max (depth_of_expr e) (depth_of_block b)
while_deep e b = search the_lemmas

repeat_deep : (b : Block) (e : Expr) → depth_of_stat (st.Repeat b e) ≡ max (depth_of_block b) (depth_of_expr e)
repeat_deep b e = search the_lemmas

if_deep : (bs : List Branch) (b : Option Block) → depth_of_stat (st.If bs b) ≡ max (branch_depths bs) (or_block b)
if_deep bs None = search the_lemmas
if_deep bs (Some b) = search the_lemmas

count_deep : (n : Bytes) (p : Place) (from to : Expr) (by : Option Expr) (b : Block)
    → depth_of_stat (st.ForNum n p from to by b) ≡ max (max (depth_of_expr from) (depth_of_expr to)) (max (or_expr by) (depth_of_block b))
count_deep n p from to None b = search the_lemmas
count_deep n p from to (Some e) b = search the_lemmas

each_deep : (ns : List (Bytes × Place)) (es : List Expr) (b : Block) → depth_of_stat (st.ForIn ns es b) ≡ max (depths es) (depth_of_block b)
each_deep ns es b = search the_lemmas

local_function_deep : (n : Bytes) (p : Place) (b : Body) → depth_of_stat (st.LocalFunction n p b) ≡ depth_of_body b
local_function_deep n p b = search the_lemmas

return_deep : (es : List Expr) → depth_of_stat (st.Return es) ≡ depths es
return_deep es = search the_lemmas

break_deep : (p : Place) → depth_of_stat (st.Break p) ≡ 0
break_deep p = search the_lemmas

goto_deep : (n : Bytes) (p : Place) → depth_of_stat (st.Goto n p) ≡ 0
goto_deep n p = search the_lemmas

label_deep : (n : Bytes) (p : Place) → depth_of_stat (st.Label n p) ≡ 0
label_deep n p = search the_lemmas

-- ---- of what is written

appended : (xs ys : List Stat) → depths_of_stats (xs ++ ys) ≡ max (depths_of_stats xs) (depths_of_stats ys)
appended [] ys = omega arith
appended (x ∷ xs) ys = omega (arith, appended xs ys)

pub height_pos : (e : Exp) → 1 ≤ height e
height_pos (atom a p) = omega arith
height_pos (function p b) = omega arith
height_pos (variable n p) = omega arith
height_pos (group p e q) = omega arith
height_pos (field e p n q) = omega arith
height_pos (item e p x q) = omega arith
height_pos (call e a) = omega arith
height_pos (method e p n q a) = omega arith
height_pos (table p fs q) = omega arith
height_pos (unary op p e) = omega arith
height_pos (binary op p x y) = omega arith

pub body_pos : (b : written_body) → 1 ≤ body_height b
body_pos (body p ps q ss r) = omega arith

target_deep : (e : Expr) (c : Colon) (n : ℕ) → depth_of_expr e ≡ n → 1 ≤ n → depth_of_expr (target_of e c) ≡ target_height n c
target_deep e no_colon n h pos = h
target_deep e (colon p x q) n h pos = omega (arith, index_deep p e (text_node x q), text_deep q x)

block_depths : (ss : List Stat) → depth_of_block (block_of ss) ≡ suc (depths_of_stats ss)
block_depths ss = omega (arith, block_deep ss, stats_depths ss)

-- the depth of one statement alone
one : (x : Stat) → depths_of_stats (x ∷ []) ≡ depth_of_stat x
one x = omega arith

mutual
  pub expr_depth : (e : Exp) → depth_of_expr (expr_of e) ≡ height e
  expr_depth (atom a p) = atom_deep p a
  expr_depth (function p b) = omega (arith, function_deep p (function_of p [] b), body_depth_law p [] b)
  expr_depth (variable n p) = name_deep p n
  expr_depth (group p e q) = omega (arith, paren_deep p (expr_of e), expr_depth e)
  expr_depth (field e p n q) = omega (arith, index_deep p (expr_of e) (text_node n q), text_deep q n, expr_depth e, height_pos e)
  expr_depth (item e p x q) = omega (arith, index_deep p (expr_of e) (expr_of x), expr_depth e, expr_depth x)
  expr_depth (call e a) = omega (arith, call_deep (args_place a) (expr_of e) (args_of a), expr_depth e, args_depth_law a)
  expr_depth (method e p n q a) = omega (arith, method_deep (args_place a) (expr_of e) n (args_of a), expr_depth e, args_depth_law a)
  expr_depth (table p fs q) = omega (arith, table_deep p (fields_of fs), fields_depth_law fs)
  expr_depth (unary op p e) = omega (arith, unary_deep p op (expr_of e), expr_depth e)
  expr_depth (binary op p x y) = omega (arith, op_deep p op (expr_of x) (expr_of y), expr_depth x, expr_depth y)

  args_depth_law : (a : Args) → depths (args_of a) ≡ args_height a
  args_depth_law (listed p es q) = exps_depth_law es
  args_depth_law (braced p fs q) = omega (arith, table_deep p (fields_of fs), fields_depth_law fs)
  args_depth_law (quoted t p) = omega (arith, text_deep p t)

  exps_depth_law : (es : Exps) → depths (exps_of es) ≡ exps_height es
  exps_depth_law none = refl
  exps_depth_law (some e es) = omega (arith, expr_depth e, tail_depth_law es)

  tail_depth_law : (es : Tail) → depths (tail_of es) ≡ tail_height es
  tail_depth_law end_tail = refl
  tail_depth_law (more p e es) = omega (arith, expr_depth e, tail_depth_law es)

  fields_depth_law : (fs : Fields) → field_depths (fields_of fs) ≡ fields_height fs
  fields_depth_law no_fields = refl
  fields_depth_law (last_field x) = omega (arith, field_depth_law x)
  fields_depth_law (more_fields x y p fs) = omega (arith, field_depth_law x, fields_depth_law fs)

  field_depth_law : (x : written_field) → depth_of_field (field_of x) ≡ field_height x
  field_depth_law (single e) = single_deep (expr_of e) ∙ expr_depth e
  field_depth_law (titled n p q e) = named_deep n (expr_of e) ∙ expr_depth e
  field_depth_law (keyed p x q r e) = omega (arith, keyed_deep (expr_of x) (expr_of e), expr_depth x, expr_depth e)

  body_depth_law : (at : Place) (first : List (Bytes × Place)) (b : written_body) → depth_of_body (function_of at first b) ≡ body_height b
  body_depth_law at first (body p ps q ss r) = omega (arith, body_deep (first ++ params_of ps) (params_dots ps) (stats_of ss) at.line, stats_depths (stats_of ss), stats_depth_law ss)

  pub stats_depth_law : (ss : Stats) → depths_of_stats (stats_of ss) ≡ stats_height ss
  stats_depth_law empty = refl
  stats_depth_law (stat x ss) = omega (arith, appended (stat_of x) (stats_of ss), stat_depth_law x, stats_depth_law ss)
  stats_depth_law (answer p es m) = omega (arith, return_deep (exps_of es), exps_depth_law es)

  stat_depth_law : (x : written_stat) → depths_of_stats (stat_of x) ≡ stat_height x
  stat_depth_law (skip p) = refl
  stat_depth_law (assign t ts p e es) = omega (arith, assign_deep (expr_of t ∷ tail_of ts) (expr_of e ∷ tail_of es), expr_depth t, tail_depth_law ts, expr_depth e, tail_depth_law es)
  stat_depth_law (run e) = omega (arith, run_deep (expr_of e), expr_depth e)
  stat_depth_law (leave p) = omega (arith, break_deep p)
  stat_depth_law (jump p n q) = omega (arith, goto_deep n q)
  stat_depth_law (label p n q r) = omega (arith, label_deep n q)
  stat_depth_law (nest p ss q) = omega (arith, do_deep (block_of (stats_of ss)), block_depths (stats_of ss), stats_depth_law ss)
  stat_depth_law (loop p e q ss r) = omega (arith, while_deep (expr_of e) (block_of (stats_of ss)), block_depths (stats_of ss), expr_depth e, stats_depth_law ss)
  stat_depth_law (repeat p ss q e) = omega (arith, repeat_deep (block_of (stats_of ss)) (expr_of e), block_depths (stats_of ss), expr_depth e, stats_depth_law ss)
  stat_depth_law (branch p e q ss arms) =
      omega (arith, if_deep (branch_of (expr_of e) (stats_of ss) ∷ arms_of arms) (else_of arms), branch_deep (expr_of e) (stats_of ss), stats_depths (stats_of ss), expr_depth e, stats_depth_law ss, arms_depth_law arms)
  stat_depth_law (count p n q r from x to by y ss z) =
      omega (arith, count_deep n q (expr_of from) (expr_of to) (step_of by) (block_of (stats_of ss)), block_depths (stats_of ss), expr_depth from, expr_depth to, step_depth_law by, stats_depth_law ss)
  stat_depth_law (each p n q ns r e es x ss y) =
      omega (arith, each_deep ((n, q) ∷ names_of ns) (expr_of e ∷ tail_of es) (block_of (stats_of ss)), block_depths (stats_of ss), expr_depth e, tail_depth_law es, stats_depth_law ss)
  stat_depth_law (define p e c b) =
      omega (arith, assign_deep (target_of (expr_of e) c ∷ []) (node (k.Function (function_of p (self_of c) b)) p ∷ []), target_deep (expr_of e) c (height e) (expr_depth e) (height_pos e), function_deep p (function_of p (self_of c) b), body_depth_law p (self_of c) b)
  stat_depth_law (define_local p q n r b) = omega (arith, local_function_deep n r (function_of q [] b), body_depth_law q [] b)
  stat_depth_law (declare p n q a ds vs) = omega (arith, local_deep ((n, is_const a, q) ∷ declared_of ds) (values_of vs), values_depth_law vs)

  arms_depth_law : (x : Arms) → max (branch_depths (arms_of x)) (or_block (else_of x)) ≡ arms_height x
  arms_depth_law (over p) = refl
  arms_depth_law (otherwise p ss q) = omega (arith, block_depths (stats_of ss), stats_depth_law ss)
  arms_depth_law (further p e q ss arms) = omega (arith, branch_deep (expr_of e) (stats_of ss), stats_depths (stats_of ss), expr_depth e, stats_depth_law ss, arms_depth_law arms)

  step_depth_law : (x : Step) → or_expr (step_of x) ≡ step_height x
  step_depth_law no_step = refl
  step_depth_law (step p e) = expr_depth e

  values_depth_law : (x : Values) → depths (values_of x) ≡ values_height x
  values_depth_law no_values = refl
  values_depth_law (values p e es) = omega (arith, expr_depth e, tail_depth_law es)

pub tree_depth : (w : Stats) → depth_of (tree_of w) ≡ stats_height w + 1
tree_depth w = omega (arith, stats_depth_law w)
