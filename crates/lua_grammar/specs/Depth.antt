-- How deep a tree is nested. That of an expression is one more than that of its parts, a function's
-- part being its block, and that of a block one more than the greatest in its statements.
use Rattle.std.specs.Prelude.{ℕ, suc, max, List, [], ◌∷◌, Option, Some, None}
use Rattle.lua_tree.specs.declared.expr.Expr.{Expr, fold-Expr}
use Rattle.lua_tree.specs.declared.expr.ExprKind.TheOpen.{ExprKind-F, Field-F, Stat-F, Expr-F, Pair-F, Block-F, Body-F, Branch-F}
use Rattle.lua_tree.specs.declared.stat.Stat.{Stat, fold-Stat}
use Rattle.lua_tree.specs.declared.stat.Tree.{Tree}

-- the greatest of these, or 0
abbrev pub greatest : List ℕ → ℕ
greatest [] = 0
greatest (n ∷ ns) = max n (greatest ns)

abbrev pub or_nothing : Option ℕ → ℕ
or_nothing None = 0
or_nothing (Some n) = n

-- One layer of a tree, with the depth of each part in its place.
abbrev pub kind_depth : ExprKind-F ℕ ℕ ℕ ℕ ℕ ℕ ℕ ℕ → ℕ
kind_depth (ExprKind-F.Index two) = suc two
kind_depth (ExprKind-F.«ExprKind::Call» e es) = suc (max e (greatest es))
kind_depth (ExprKind-F.Method e n es) = suc (max e (greatest es))
kind_depth (ExprKind-F.Function b) = suc b
kind_depth (ExprKind-F.Binary op two) = suc two
kind_depth (ExprKind-F.Unary op e) = suc e
kind_depth (ExprKind-F.And two) = suc two
kind_depth (ExprKind-F.Or two) = suc two
kind_depth (ExprKind-F.Paren e) = suc e
kind_depth (ExprKind-F.Table fs) = suc (greatest fs)
kind_depth _ = 1

abbrev pub field_depth : Field-F ℕ ℕ ℕ ℕ ℕ ℕ ℕ ℕ → ℕ
field_depth (Field-F.Item e) = e
field_depth (Field-F.Named n e) = e
field_depth (Field-F.Keyed x e) = max x e

abbrev pub stat_depth : Stat-F ℕ ℕ ℕ ℕ ℕ ℕ ℕ ℕ → ℕ
stat_depth (Stat-F.Local ns es) = greatest es
stat_depth (Stat-F.Assign ts es) = max (greatest ts) (greatest es)
stat_depth (Stat-F.«Stat::Call» e) = e
stat_depth (Stat-F.Do b) = b
stat_depth (Stat-F.While e b) = max e b
stat_depth (Stat-F.Repeat b e) = max b e
stat_depth (Stat-F.If bs b) = max (greatest bs) (or_nothing b)
stat_depth (Stat-F.ForNum n p from to by b) = max (max from to) (max (or_nothing by) b)
stat_depth (Stat-F.ForIn ns es b) = max (greatest es) b
stat_depth (Stat-F.LocalFunction n p b) = b
stat_depth (Stat-F.Return es) = greatest es
stat_depth (Stat-F.Break p) = 0
stat_depth (Stat-F.Goto n p) = 0
stat_depth (Stat-F.Label n p) = 0

abbrev pub expr_depth : Expr-F ℕ ℕ ℕ ℕ ℕ ℕ ℕ ℕ → ℕ
expr_depth e = e.what

abbrev pub pair_depth : Pair-F ℕ ℕ ℕ ℕ ℕ ℕ ℕ ℕ → ℕ
pair_depth two = max two.left two.right

abbrev pub block_depth : Block-F ℕ ℕ ℕ ℕ ℕ ℕ ℕ ℕ → ℕ
block_depth b = suc (greatest b.stats)

abbrev pub body_depth : Body-F ℕ ℕ ℕ ℕ ℕ ℕ ℕ ℕ → ℕ
body_depth b = b.block

abbrev pub branch_depth : Branch-F ℕ ℕ ℕ ℕ ℕ ℕ ℕ ℕ → ℕ
branch_depth b = max b.condition b.block

-- of an expression
abbrev pub depth_of_expr : Expr → ℕ
depth_of_expr =
    fold-Expr ℕ ℕ ℕ ℕ ℕ ℕ ℕ ℕ kind_depth field_depth stat_depth expr_depth pair_depth block_depth
    body_depth branch_depth

-- the greatest depth of the expressions, blocks and function bodies in a statement
abbrev pub depth_of_stat : Stat → ℕ
depth_of_stat =
    fold-Stat ℕ ℕ ℕ ℕ ℕ ℕ ℕ ℕ kind_depth field_depth stat_depth expr_depth pair_depth block_depth
    body_depth branch_depth

abbrev pub depths_of_stats : List Stat → ℕ
depths_of_stats [] = 0
depths_of_stats (x ∷ xs) = max (depth_of_stat x) (depths_of_stats xs)

-- of a script: that of its main block
abbrev pub depth_of : Tree → ℕ
depth_of tree = suc (depths_of_stats tree.block.stats)
