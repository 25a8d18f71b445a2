-- What is found in a tree, by cases of its parts in the order of their text.
use Rattle.std.specs.Prelude.{ℕ, Bool, true, false, List, [], ◌∷◌, map, Option, Some, None}
use Rattle.lua_tokens.specs.declared.place.Place.{Place}
use Rattle.lua_tree.specs.declared.expr.Expr.{Expr, fold-Expr}
use Rattle.lua_tree.specs.declared.expr.Pair.{Pair, fold-Pair}
use Rattle.lua_tree.specs.declared.expr.Field.{Field, fold-Field}
use Rattle.lua_tree.specs.declared.expr.ExprKind.TheOpen.{ExprKind-F, Field-F, Stat-F, Expr-F, Pair-F, Block-F, Body-F, Branch-F}
use Rattle.lua_tree.specs.declared.stat.Stat.{Stat, fold-Stat}
use Rattle.lua_tree.specs.declared.stat.Body.{Body, fold-Body}
use Rattle.lua_tree.specs.declared.stat.Block.{Block, fold-Block}
use Rattle.lua_tree.specs.declared.stat.Branch.{Branch, fold-Branch}
use Rattle.lua_tree.specs.declared.stat.Tree.{Tree}
use Rattle.lua_scope.specs.declared.survey.Survey.{Survey}
use Rattle.lua_scope.specs.Labels.{Outlined, outline}
use Rattle.lua_scope.specs.Survey.{Step, mentioned, declared, passed_label, opened, begun, in_loop, ended, outer, entered, exited, start}

-- ---- one part after another

abbrev pub nothing : Step
nothing s = s

abbrev pub then : Step → Step → Step
then f g s = g (f s)

abbrev pub each : List Step → Step
each [] s = s
each (f ∷ fs) s = each fs (f s)

abbrev pub perhaps : Option Step → Step
perhaps None s = s
perhaps (Some f) s = f s

-- ---- declared names

abbrev pub Bytes : Type 0
Bytes = List ℕ

abbrev pub all_declared : List (Bytes × Place) → Step
all_declared [] s = s
all_declared (n ∷ ns) s = all_declared ns (declared n.0 false s)

abbrev pub locals_declared : List (Bytes × Bool × Place) → Step
locals_declared [] s = s
locals_declared (n ∷ ns) s = locals_declared ns (declared n.0 n.1 s)

-- ---- blocks: what is declared in them is visible to their end

abbrev pub nested : Step → Step
nested f s = ended (begun s) (f s)

abbrev pub nested_if : Option (Bool → Step) → Step
nested_if None s = s
nested_if (Some f) s = nested (f false) s

abbrev pub looped : Step → Step
looped f s = ended (begun s) (f (in_loop s))

-- the statements of a block, and whether it is the body of a `repeat`
abbrev pub statements : List (Outlined Step) → Bool → Step
statements ss is_repeat s =
    each (map (λ x. x.what) ss) (opened is_repeat (map (λ x. x.outline) ss) s)

-- ---- one layer of a tree

abbrev pub body_step : Body-F Step Step (Outlined Step) Step Step (Bool → Step) Step Step → Step
body_step b s = exited (outer s) (b.block false (all_declared b.params (entered b.vararg s)))

abbrev pub kind_step : ExprKind-F Step Step (Outlined Step) Step Step (Bool → Step) Step Step → Step
kind_step (ExprKind-F.Name n p) = mentioned n
kind_step (ExprKind-F.Index two) = two
kind_step (ExprKind-F.«ExprKind::Call» e es) = then e (each es)
kind_step (ExprKind-F.Method e n es) = then e (each es)
kind_step (ExprKind-F.Function b) = b
kind_step (ExprKind-F.Binary op two) = two
kind_step (ExprKind-F.Unary op e) = e
kind_step (ExprKind-F.And two) = two
kind_step (ExprKind-F.Or two) = two
kind_step (ExprKind-F.Paren e) = e
kind_step (ExprKind-F.Table fs) = each fs
kind_step _ = nothing

abbrev pub field_step : Field-F Step Step (Outlined Step) Step Step (Bool → Step) Step Step → Step
field_step (Field-F.Item e) = e
field_step (Field-F.Named n e) = e
field_step (Field-F.Keyed x e) = then x e

abbrev pub one_step : Stat-F Step Step (Outlined Step) Step Step (Bool → Step) Step Step → Step
one_step (Stat-F.Local ns es) = then (each es) (locals_declared ns)
one_step (Stat-F.Assign ts es) = then (each ts) (each es)
one_step (Stat-F.«Stat::Call» e) = e
one_step (Stat-F.Do b) = nested (b false)
one_step (Stat-F.While e b) = then e (looped (b false))
one_step (Stat-F.Repeat b e) = looped (then (b true) e)
one_step (Stat-F.If bs b) = then (each bs) (nested_if b)
one_step (Stat-F.ForNum n p from to by b) =
    then from (then to (then (perhaps by) (looped (then (declared n false) (b false)))))
one_step (Stat-F.ForIn ns es b) = then (each es) (looped (then (all_declared ns) (b false)))
one_step (Stat-F.LocalFunction n p b) = then (declared n false) b
one_step (Stat-F.Return es) = each es
one_step (Stat-F.Break p) = nothing
one_step (Stat-F.Goto n p) = nothing
one_step (Stat-F.Label n p) = passed_label n

abbrev pub stat_step :
    Stat-F Step Step (Outlined Step) Step Step (Bool → Step) Step Step
    → Outlined Step
stat_step s = record { outline = outline s; what = one_step s }

abbrev pub expr_step : Expr-F Step Step (Outlined Step) Step Step (Bool → Step) Step Step → Step
expr_step e = e.what

abbrev pub pair_step : Pair-F Step Step (Outlined Step) Step Step (Bool → Step) Step Step → Step
pair_step two = then two.left two.right

abbrev pub block_step :
    Block-F Step Step (Outlined Step) Step Step (Bool → Step) Step Step
    → Bool → Step
block_step b = statements b.stats

abbrev pub branch_step : Branch-F Step Step (Outlined Step) Step Step (Bool → Step) Step Step → Step
branch_step b = then b.condition (nested (b.block false))

-- ---- whole parts

abbrev pub in_expr : Expr → Step
in_expr =
    fold-Expr Step Step (Outlined Step) Step Step (Bool → Step) Step Step
    kind_step field_step stat_step expr_step pair_step block_step body_step branch_step

abbrev pub in_pair : Pair → Step
in_pair =
    fold-Pair Step Step (Outlined Step) Step Step (Bool → Step) Step Step
    kind_step field_step stat_step expr_step pair_step block_step body_step branch_step

abbrev pub in_field : Field → Step
in_field =
    fold-Field Step Step (Outlined Step) Step Step (Bool → Step) Step Step
    kind_step field_step stat_step expr_step pair_step block_step body_step branch_step

abbrev pub in_stat : Stat → Outlined Step
in_stat =
    fold-Stat Step Step (Outlined Step) Step Step (Bool → Step) Step Step
    kind_step field_step stat_step expr_step pair_step block_step body_step branch_step

abbrev pub in_block : Block → Bool → Step
in_block =
    fold-Block Step Step (Outlined Step) Step Step (Bool → Step) Step Step
    kind_step field_step stat_step expr_step pair_step block_step body_step branch_step

abbrev pub in_body : Body → Step
in_body =
    fold-Body Step Step (Outlined Step) Step Step (Bool → Step) Step Step
    kind_step field_step stat_step expr_step pair_step block_step body_step branch_step

abbrev pub in_branch : Branch → Step
in_branch =
    fold-Branch Step Step (Outlined Step) Step Step (Bool → Step) Step Step
    kind_step field_step stat_step expr_step pair_step block_step body_step branch_step

-- in a script
abbrev pub in_tree : Tree → Survey
in_tree tree = in_block tree.block false start
