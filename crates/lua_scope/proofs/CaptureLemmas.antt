-- What the names of a script refer to, its captures and its cells are those that visibility gives: by induction over its tree.
use Rattle.std.proofs.Common.{◌≡◌, ◌∙◌, ap, subst, Bool, true, false, List, [], ◌∷◌, ◌++◌, map, Option, Some, None}
use Rattle.std.proofs.lemmas.List.{append-nil}
use Rattle.lua_tokens.specs.declared.place.Place.{Place}
use Rattle.lua_tree.specs.declared.expr.Expr.{Expr, roll-Expr}
use Rattle.lua_tree.specs.declared.expr.Pair.{Pair, roll-Pair}
use Rattle.lua_tree.specs.declared.expr.Field.{Field, roll-Field}
use Rattle.lua_tree.specs.declared.expr.ExprKind.{ExprKind, roll-ExprKind, fold-ExprKind}
use Rattle.lua_tree.specs.declared.expr.ExprKind.TheOpen.{ExprKind-F, Field-F, Stat-F, Expr-F, Pair-F, Block-F, Body-F, Branch-F}
use Rattle.lua_tree.specs.declared.expr.ExprKind.TheFolds.{fold-roll-ExprKind, fold-roll-Field, fold-roll-Stat, fold-roll-Expr, fold-roll-Pair, fold-roll-Block, fold-roll-Body, fold-roll-Branch, map-ExprKind, map-Field, map-Stat, map-Expr, map-Pair, map-Block, map-Body, map-Branch, ind-Block}
use Rattle.lua_tree.specs.declared.stat.Stat.{Stat, roll-Stat}
use Rattle.lua_tree.specs.declared.stat.Body.{Body, roll-Body}
use Rattle.lua_tree.specs.declared.stat.Block.{Block, roll-Block}
use Rattle.lua_tree.specs.declared.stat.Branch.{Branch, roll-Branch}
use Rattle.lua_tree.specs.declared.stat.Tree.{Tree}
use Rattle.lua_scope.specs.declared.binding.Bindings.{Bindings}
use Rattle.lua_scope.specs.declared.survey.Survey.{Survey}
use Rattle.lua_scope.specs.Labels.{Outlined}
use Rattle.lua_scope.specs.Survey.{Step, declared, start}
use Rattle.lua_scope.specs.Walk as walk
use Rattle.lua_scope.specs.Walk.{all_declared, locals_declared, nested, looped, kind_step, field_step, stat_step, expr_step, pair_step, block_step, body_step, branch_step, in_expr, in_pair, in_field, in_stat, in_block, in_body, in_branch, in_tree}
use Rattle.lua_scope.specs.Binding as binding
use Rattle.lua_scope.specs.Binding.{Bytes, Uses, nothing, both, each, perhaps, Part, stats, under, declaring, variables, locals, kind_uses, field_uses, stat_binds, expr_uses, pair_uses, block_binds, body_uses, branch_uses, of_kind, of_expr, of_pair, of_field, of_stat, of_block, of_body, of_branch, captures_of, names_of, cells_of, bindings_of}
use Rattle.lua_scope.proofs.Layers.{KindLayer, FieldLayer, StatLayer, ExprLayer, PairLayer, BlockLayer, BodyLayer, BranchLayer}
use Rattle.lua_scope.proofs.AddsLemmas.{Such}
use Rattle.std.specs.Option.{option_map}
use Rattle.lua_scope.proofs.CellLemmas.{cells_found}
use Rattle.lua_scope.proofs.StepLemmas.{names, Grows, grows_none, after_both, Finds, Binds, finds_from, binds_from, nothing_found, label_found, opened_found, finds_under, binds_under, both_found, each_found, name_found, one_declared, variables_declared, named_declared, nested_found, looped_found, body_found, repeat_found, loop_found}

abbrev in_kind : ExprKind → Step
in_kind = fold-ExprKind Step Step (Outlined Step) Step Step (Bool → Step) Step Step kind_step field_step stat_step expr_step pair_step block_step body_step branch_step

abbrev KindFinds : ExprKind → Type 0
KindFinds k = Finds (of_kind k) (in_kind k)

abbrev FieldFinds : Field → Type 0
FieldFinds f = Finds (of_field f) (in_field f)

abbrev StatFinds : Stat → Type 0
StatFinds s = Binds (of_stat s) (in_stat s).what

abbrev ExprFinds : Expr → Type 0
ExprFinds e = Finds (of_expr e) (in_expr e)

abbrev PairFinds : Pair → Type 0
PairFinds p = Finds (of_pair p) (in_pair p)

abbrev BlockFinds : Block → Type 0
BlockFinds b = (r : Bool) → Binds (of_block b) (in_block b r)

abbrev BodyFinds : Body → Type 0
BodyFinds b = Finds (of_body b) (in_body b)

abbrev BranchFinds : Branch → Type 0
BranchFinds b = Finds (of_branch b) (in_branch b)

-- ---- what a layer finds, by the layers of its parts

abbrev kind_binding : KindLayer → Uses
kind_binding z = kind_uses (map-ExprKind ExprKind Field Stat Expr Pair Block Body Branch Uses Uses Part Uses Uses Part Uses Uses of_kind of_field of_stat of_expr of_pair of_block of_body of_branch z)

abbrev kind_walk : KindLayer → Step
kind_walk z = kind_step (map-ExprKind ExprKind Field Stat Expr Pair Block Body Branch Step Step (Outlined Step) Step Step (Bool → Step) Step Step in_kind in_field in_stat in_expr in_pair in_block in_body in_branch z)

kind_from : (z : KindLayer) → Finds (kind_binding z) (kind_walk z) → Finds (of_kind (roll-ExprKind z)) (in_kind (roll-ExprKind z))
kind_from z h = finds_from (of_kind (roll-ExprKind z)) (kind_binding z) (in_kind (roll-ExprKind z)) (kind_walk z) (fold-roll-ExprKind Uses Uses Part Uses Uses Part Uses Uses kind_uses field_uses stat_binds expr_uses pair_uses block_binds body_uses branch_uses z) (fold-roll-ExprKind Step Step (Outlined Step) Step Step (Bool → Step) Step Step kind_step field_step stat_step expr_step pair_step block_step body_step branch_step z) h

abbrev field_binding : FieldLayer → Uses
field_binding z = field_uses (map-Field ExprKind Field Stat Expr Pair Block Body Branch Uses Uses Part Uses Uses Part Uses Uses of_kind of_field of_stat of_expr of_pair of_block of_body of_branch z)

abbrev field_walk : FieldLayer → Step
field_walk z = field_step (map-Field ExprKind Field Stat Expr Pair Block Body Branch Step Step (Outlined Step) Step Step (Bool → Step) Step Step in_kind in_field in_stat in_expr in_pair in_block in_body in_branch z)

field_from : (z : FieldLayer) → Finds (field_binding z) (field_walk z) → Finds (of_field (roll-Field z)) (in_field (roll-Field z))
field_from z h = finds_from (of_field (roll-Field z)) (field_binding z) (in_field (roll-Field z)) (field_walk z) (fold-roll-Field Uses Uses Part Uses Uses Part Uses Uses kind_uses field_uses stat_binds expr_uses pair_uses block_binds body_uses branch_uses z) (fold-roll-Field Step Step (Outlined Step) Step Step (Bool → Step) Step Step kind_step field_step stat_step expr_step pair_step block_step body_step branch_step z) h

abbrev stat_binding : StatLayer → Part
stat_binding z = stat_binds (map-Stat ExprKind Field Stat Expr Pair Block Body Branch Uses Uses Part Uses Uses Part Uses Uses of_kind of_field of_stat of_expr of_pair of_block of_body of_branch z)

abbrev stat_walk : StatLayer → Outlined Step
stat_walk z = stat_step (map-Stat ExprKind Field Stat Expr Pair Block Body Branch Step Step (Outlined Step) Step Step (Bool → Step) Step Step in_kind in_field in_stat in_expr in_pair in_block in_body in_branch z)

stat_from : (z : StatLayer) → Binds (stat_binding z) (stat_walk z).what → Binds (of_stat (roll-Stat z)) (in_stat (roll-Stat z)).what
stat_from z h = binds_from (of_stat (roll-Stat z)) (stat_binding z) (in_stat (roll-Stat z)).what (stat_walk z).what (fold-roll-Stat Uses Uses Part Uses Uses Part Uses Uses kind_uses field_uses stat_binds expr_uses pair_uses block_binds body_uses branch_uses z) (ap (λ x. x.what) (fold-roll-Stat Step Step (Outlined Step) Step Step (Bool → Step) Step Step kind_step field_step stat_step expr_step pair_step block_step body_step branch_step z)) h

abbrev expr_binding : ExprLayer → Uses
expr_binding z = expr_uses (map-Expr ExprKind Field Stat Expr Pair Block Body Branch Uses Uses Part Uses Uses Part Uses Uses of_kind of_field of_stat of_expr of_pair of_block of_body of_branch z)

abbrev pair_binding : PairLayer → Uses
pair_binding z = pair_uses (map-Pair ExprKind Field Stat Expr Pair Block Body Branch Uses Uses Part Uses Uses Part Uses Uses of_kind of_field of_stat of_expr of_pair of_block of_body of_branch z)

abbrev expr_walk : ExprLayer → Step
expr_walk z = expr_step (map-Expr ExprKind Field Stat Expr Pair Block Body Branch Step Step (Outlined Step) Step Step (Bool → Step) Step Step in_kind in_field in_stat in_expr in_pair in_block in_body in_branch z)

abbrev pair_walk : PairLayer → Step
pair_walk z = pair_step (map-Pair ExprKind Field Stat Expr Pair Block Body Branch Step Step (Outlined Step) Step Step (Bool → Step) Step Step in_kind in_field in_stat in_expr in_pair in_block in_body in_branch z)

expr_from : (z : ExprLayer) → Finds (expr_binding z) (expr_walk z) → Finds (of_expr (roll-Expr z)) (in_expr (roll-Expr z))
expr_from z h = finds_from (of_expr (roll-Expr z)) (expr_binding z) (in_expr (roll-Expr z)) (expr_walk z) (fold-roll-Expr Uses Uses Part Uses Uses Part Uses Uses kind_uses field_uses stat_binds expr_uses pair_uses block_binds body_uses branch_uses z) (fold-roll-Expr Step Step (Outlined Step) Step Step (Bool → Step) Step Step kind_step field_step stat_step expr_step pair_step block_step body_step branch_step z) h

pair_from : (z : PairLayer) → Finds (pair_binding z) (pair_walk z) → Finds (of_pair (roll-Pair z)) (in_pair (roll-Pair z))
pair_from z h = finds_from (of_pair (roll-Pair z)) (pair_binding z) (in_pair (roll-Pair z)) (pair_walk z) (fold-roll-Pair Uses Uses Part Uses Uses Part Uses Uses kind_uses field_uses stat_binds expr_uses pair_uses block_binds body_uses branch_uses z) (fold-roll-Pair Step Step (Outlined Step) Step Step (Bool → Step) Step Step kind_step field_step stat_step expr_step pair_step block_step body_step branch_step z) h

abbrev block_binding : BlockLayer → Part
block_binding z = block_binds (map-Block ExprKind Field Stat Expr Pair Block Body Branch Uses Uses Part Uses Uses Part Uses Uses of_kind of_field of_stat of_expr of_pair of_block of_body of_branch z)

abbrev block_walk : BlockLayer → Bool → Step
block_walk z = block_step (map-Block ExprKind Field Stat Expr Pair Block Body Branch Step Step (Outlined Step) Step Step (Bool → Step) Step Step in_kind in_field in_stat in_expr in_pair in_block in_body in_branch z)

block_from : (r : Bool) (z : BlockLayer) → Binds (block_binding z) (block_walk z r) → Binds (of_block (roll-Block z)) (in_block (roll-Block z) r)
block_from r z h = binds_from (of_block (roll-Block z)) (block_binding z) (in_block (roll-Block z) r) (block_walk z r) (fold-roll-Block Uses Uses Part Uses Uses Part Uses Uses kind_uses field_uses stat_binds expr_uses pair_uses block_binds body_uses branch_uses z) (ap (λ f. f r) (fold-roll-Block Step Step (Outlined Step) Step Step (Bool → Step) Step Step kind_step field_step stat_step expr_step pair_step block_step body_step branch_step z)) h

abbrev body_binding : BodyLayer → Uses
body_binding z = body_uses (map-Body ExprKind Field Stat Expr Pair Block Body Branch Uses Uses Part Uses Uses Part Uses Uses of_kind of_field of_stat of_expr of_pair of_block of_body of_branch z)

abbrev body_walk : BodyLayer → Step
body_walk z = body_step (map-Body ExprKind Field Stat Expr Pair Block Body Branch Step Step (Outlined Step) Step Step (Bool → Step) Step Step in_kind in_field in_stat in_expr in_pair in_block in_body in_branch z)

body_from : (z : BodyLayer) → Finds (body_binding z) (body_walk z) → Finds (of_body (roll-Body z)) (in_body (roll-Body z))
body_from z h = finds_from (of_body (roll-Body z)) (body_binding z) (in_body (roll-Body z)) (body_walk z) (fold-roll-Body Uses Uses Part Uses Uses Part Uses Uses kind_uses field_uses stat_binds expr_uses pair_uses block_binds body_uses branch_uses z) (fold-roll-Body Step Step (Outlined Step) Step Step (Bool → Step) Step Step kind_step field_step stat_step expr_step pair_step block_step body_step branch_step z) h

abbrev branch_binding : BranchLayer → Uses
branch_binding z = branch_uses (map-Branch ExprKind Field Stat Expr Pair Block Body Branch Uses Uses Part Uses Uses Part Uses Uses of_kind of_field of_stat of_expr of_pair of_block of_body of_branch z)

abbrev branch_walk : BranchLayer → Step
branch_walk z = branch_step (map-Branch ExprKind Field Stat Expr Pair Block Body Branch Step Step (Outlined Step) Step Step (Bool → Step) Step Step in_kind in_field in_stat in_expr in_pair in_block in_body in_branch z)

branch_from : (z : BranchLayer) → Finds (branch_binding z) (branch_walk z) → Finds (of_branch (roll-Branch z)) (in_branch (roll-Branch z))
branch_from z h = finds_from (of_branch (roll-Branch z)) (branch_binding z) (in_branch (roll-Branch z)) (branch_walk z) (fold-roll-Branch Uses Uses Part Uses Uses Part Uses Uses kind_uses field_uses stat_binds expr_uses pair_uses block_binds body_uses branch_uses z) (fold-roll-Branch Step Step (Outlined Step) Step Step (Bool → Step) Step Step kind_step field_step stat_step expr_step pair_step block_step body_step branch_step z) h

-- ---- the parts of a layer, with what is known of them

abbrev KindKnown : Type 0
KindKnown = ExprKind-F (Such ExprKind KindFinds) (Such Field FieldFinds) (Such Stat StatFinds) (Such Expr ExprFinds) (Such Pair PairFinds) (Such Block BlockFinds) (Such Body BodyFinds) (Such Branch BranchFinds)

abbrev kind_parts : KindKnown → KindLayer
kind_parts y = map-ExprKind (Such ExprKind KindFinds) (Such Field FieldFinds) (Such Stat StatFinds) (Such Expr ExprFinds) (Such Pair PairFinds) (Such Block BlockFinds) (Such Body BodyFinds) (Such Branch BranchFinds) ExprKind Field Stat Expr Pair Block Body Branch (λ e. e.0) (λ e. e.0) (λ e. e.0) (λ e. e.0) (λ e. e.0) (λ e. e.0) (λ e. e.0) (λ e. e.0) y

abbrev FieldKnown : Type 0
FieldKnown = Field-F (Such ExprKind KindFinds) (Such Field FieldFinds) (Such Stat StatFinds) (Such Expr ExprFinds) (Such Pair PairFinds) (Such Block BlockFinds) (Such Body BodyFinds) (Such Branch BranchFinds)

abbrev field_parts : FieldKnown → FieldLayer
field_parts y = map-Field (Such ExprKind KindFinds) (Such Field FieldFinds) (Such Stat StatFinds) (Such Expr ExprFinds) (Such Pair PairFinds) (Such Block BlockFinds) (Such Body BodyFinds) (Such Branch BranchFinds) ExprKind Field Stat Expr Pair Block Body Branch (λ e. e.0) (λ e. e.0) (λ e. e.0) (λ e. e.0) (λ e. e.0) (λ e. e.0) (λ e. e.0) (λ e. e.0) y

abbrev StatKnown : Type 0
StatKnown = Stat-F (Such ExprKind KindFinds) (Such Field FieldFinds) (Such Stat StatFinds) (Such Expr ExprFinds) (Such Pair PairFinds) (Such Block BlockFinds) (Such Body BodyFinds) (Such Branch BranchFinds)

abbrev stat_parts : StatKnown → StatLayer
stat_parts y = map-Stat (Such ExprKind KindFinds) (Such Field FieldFinds) (Such Stat StatFinds) (Such Expr ExprFinds) (Such Pair PairFinds) (Such Block BlockFinds) (Such Body BodyFinds) (Such Branch BranchFinds) ExprKind Field Stat Expr Pair Block Body Branch (λ e. e.0) (λ e. e.0) (λ e. e.0) (λ e. e.0) (λ e. e.0) (λ e. e.0) (λ e. e.0) (λ e. e.0) y

abbrev ExprKnown : Type 0
ExprKnown = Expr-F (Such ExprKind KindFinds) (Such Field FieldFinds) (Such Stat StatFinds) (Such Expr ExprFinds) (Such Pair PairFinds) (Such Block BlockFinds) (Such Body BodyFinds) (Such Branch BranchFinds)

abbrev PairKnown : Type 0
PairKnown = Pair-F (Such ExprKind KindFinds) (Such Field FieldFinds) (Such Stat StatFinds) (Such Expr ExprFinds) (Such Pair PairFinds) (Such Block BlockFinds) (Such Body BodyFinds) (Such Branch BranchFinds)

abbrev expr_parts : ExprKnown → ExprLayer
expr_parts y = map-Expr (Such ExprKind KindFinds) (Such Field FieldFinds) (Such Stat StatFinds) (Such Expr ExprFinds) (Such Pair PairFinds) (Such Block BlockFinds) (Such Body BodyFinds) (Such Branch BranchFinds) ExprKind Field Stat Expr Pair Block Body Branch (λ e. e.0) (λ e. e.0) (λ e. e.0) (λ e. e.0) (λ e. e.0) (λ e. e.0) (λ e. e.0) (λ e. e.0) y

abbrev pair_parts : PairKnown → PairLayer
pair_parts y = map-Pair (Such ExprKind KindFinds) (Such Field FieldFinds) (Such Stat StatFinds) (Such Expr ExprFinds) (Such Pair PairFinds) (Such Block BlockFinds) (Such Body BodyFinds) (Such Branch BranchFinds) ExprKind Field Stat Expr Pair Block Body Branch (λ e. e.0) (λ e. e.0) (λ e. e.0) (λ e. e.0) (λ e. e.0) (λ e. e.0) (λ e. e.0) (λ e. e.0) y

abbrev BlockKnown : Type 0
BlockKnown = Block-F (Such ExprKind KindFinds) (Such Field FieldFinds) (Such Stat StatFinds) (Such Expr ExprFinds) (Such Pair PairFinds) (Such Block BlockFinds) (Such Body BodyFinds) (Such Branch BranchFinds)

abbrev block_parts : BlockKnown → BlockLayer
block_parts y = map-Block (Such ExprKind KindFinds) (Such Field FieldFinds) (Such Stat StatFinds) (Such Expr ExprFinds) (Such Pair PairFinds) (Such Block BlockFinds) (Such Body BodyFinds) (Such Branch BranchFinds) ExprKind Field Stat Expr Pair Block Body Branch (λ e. e.0) (λ e. e.0) (λ e. e.0) (λ e. e.0) (λ e. e.0) (λ e. e.0) (λ e. e.0) (λ e. e.0) y

abbrev BodyKnown : Type 0
BodyKnown = Body-F (Such ExprKind KindFinds) (Such Field FieldFinds) (Such Stat StatFinds) (Such Expr ExprFinds) (Such Pair PairFinds) (Such Block BlockFinds) (Such Body BodyFinds) (Such Branch BranchFinds)

abbrev body_parts : BodyKnown → BodyLayer
body_parts y = map-Body (Such ExprKind KindFinds) (Such Field FieldFinds) (Such Stat StatFinds) (Such Expr ExprFinds) (Such Pair PairFinds) (Such Block BlockFinds) (Such Body BodyFinds) (Such Branch BranchFinds) ExprKind Field Stat Expr Pair Block Body Branch (λ e. e.0) (λ e. e.0) (λ e. e.0) (λ e. e.0) (λ e. e.0) (λ e. e.0) (λ e. e.0) (λ e. e.0) y

abbrev BranchKnown : Type 0
BranchKnown = Branch-F (Such ExprKind KindFinds) (Such Field FieldFinds) (Such Stat StatFinds) (Such Expr ExprFinds) (Such Pair PairFinds) (Such Block BlockFinds) (Such Body BodyFinds) (Such Branch BranchFinds)

abbrev branch_parts : BranchKnown → BranchLayer
branch_parts y = map-Branch (Such ExprKind KindFinds) (Such Field FieldFinds) (Such Stat StatFinds) (Such Expr ExprFinds) (Such Pair PairFinds) (Such Block BlockFinds) (Such Body BodyFinds) (Such Branch BranchFinds) ExprKind Field Stat Expr Pair Block Body Branch (λ e. e.0) (λ e. e.0) (λ e. e.0) (λ e. e.0) (λ e. e.0) (λ e. e.0) (λ e. e.0) (λ e. e.0) y

-- ---- each layer

two_found : (a b : Such Expr ExprFinds) → Finds (both (of_expr a.0) (of_expr b.0)) (walk.then (in_expr a.0) (in_expr b.0))
two_found a b = both_found (of_expr a.0) (of_expr b.0) (in_expr a.0) (in_expr b.0) a.1 b.1

exprs_found : (es : List (Such Expr ExprFinds)) → Finds (each (map of_expr (map (λ p. p.0) es))) (walk.each (map in_expr (map (λ p. p.0) es)))
exprs_found es = each_found of_expr in_expr es

call_found : (a : Such Expr ExprFinds) (es : List (Such Expr ExprFinds))
    → Finds (both (of_expr a.0) (each (map of_expr (map (λ p. p.0) es)))) (walk.then (in_expr a.0) (walk.each (map in_expr (map (λ p. p.0) es))))
call_found a es =
    both_found (of_expr a.0) (each (map of_expr (map (λ p. p.0) es))) (in_expr a.0) (walk.each (map in_expr (map (λ p. p.0) es))) a.1 (exprs_found es)

kind_case : (y : KindKnown) → KindFinds (roll-ExprKind (kind_parts y))
kind_case (ExprKind-F.Nil) = kind_from ExprKind-F.Nil nothing_found
kind_case (ExprKind-F.True) = kind_from ExprKind-F.True nothing_found
kind_case (ExprKind-F.False) = kind_from ExprKind-F.False nothing_found
kind_case (ExprKind-F.Int n) = kind_from (ExprKind-F.Int n) nothing_found
kind_case (ExprKind-F.Text x) = kind_from (ExprKind-F.Text x) nothing_found
kind_case (ExprKind-F.Dots p) = kind_from (ExprKind-F.Dots p) nothing_found
kind_case (ExprKind-F.Name n p) = kind_from (ExprKind-F.Name n p) (name_found n)
kind_case (ExprKind-F.Index two) = kind_from (ExprKind-F.Index two.0) two.1
kind_case (ExprKind-F.«ExprKind::Call» e es) = kind_from (ExprKind-F.«ExprKind::Call» e.0 (map (λ p. p.0) es)) (call_found e es)
kind_case (ExprKind-F.Method e n es) = kind_from (ExprKind-F.Method e.0 n (map (λ p. p.0) es)) (call_found e es)
kind_case (ExprKind-F.Function f) = kind_from (ExprKind-F.Function f.0) f.1
kind_case (ExprKind-F.Binary op two) = kind_from (ExprKind-F.Binary op two.0) two.1
kind_case (ExprKind-F.Unary op e) = kind_from (ExprKind-F.Unary op e.0) e.1
kind_case (ExprKind-F.And two) = kind_from (ExprKind-F.And two.0) two.1
kind_case (ExprKind-F.Or two) = kind_from (ExprKind-F.Or two.0) two.1
kind_case (ExprKind-F.Paren e) = kind_from (ExprKind-F.Paren e.0) e.1
kind_case (ExprKind-F.Table fs) = kind_from (ExprKind-F.Table (map (λ p. p.0) fs)) (each_found of_field in_field fs)

field_case : (y : FieldKnown) → FieldFinds (roll-Field (field_parts y))
field_case (Field-F.Item e) = field_from (Field-F.Item e.0) e.1
field_case (Field-F.Named n e) = field_from (Field-F.Named n e.0) e.1
field_case (Field-F.Keyed k e) = field_from (Field-F.Keyed k.0 e.0) (two_found k e)

expr_case : (y : ExprKnown) → ExprFinds (roll-Expr (expr_parts y))
expr_case y = expr_from (expr_parts y) y.what.1

pair_case : (y : PairKnown) → PairFinds (roll-Pair (pair_parts y))
pair_case y = pair_from (pair_parts y) (two_found y.left y.right)

abbrev stats_of : List (Such Stat StatFinds) → List Stat
stats_of ss = map (λ p. p.0) ss

stats_bind : (ss : List (Such Stat StatFinds)) → Binds (stats (map of_stat (stats_of ss))) (walk.each (map (λ x. x.what) (map in_stat (stats_of ss))))
stats_bind [] s = grows_none s
stats_bind (x ∷ ss) s =
    let p = stats (map of_stat (stats_of ss)) in
    let g : Step = walk.each (map (λ x. x.what) (map in_stat (stats_of ss))) in
    after_both s ((of_stat x.0).uses (names s)) (p.uses (names s ++ (of_stat x.0).locals)) (of_stat x.0).locals p.locals ((in_stat x.0).what s) g (x.1 s)
    (λ t e. binds_under (of_stat x.0).locals p s t g e (stats_bind ss))

block_case : (y : BlockKnown) → BlockFinds (roll-Block (block_parts y))
block_case y r = block_from r (block_parts y)
    (opened_found r (map (λ x. x.outline) (map in_stat (stats_of y.stats))) (stats (map of_stat (stats_of y.stats))) (walk.each (map (λ x. x.what) (map in_stat (stats_of y.stats)))) (stats_bind y.stats))

body_case : (y : BodyKnown) → BodyFinds (roll-Body (body_parts y))
body_case y = body_from (body_parts y) (body_found y.params y.vararg (of_block y.block.0) (in_block y.block.0 false) (y.block.1 false))

guarded_found : (e : Such Expr ExprFinds) (p : Uses) (f : Step) → Finds p f → Finds (both (of_expr e.0) p) (walk.then (in_expr e.0) f)
guarded_found e p f h = both_found (of_expr e.0) p (in_expr e.0) f e.1 h

closed_found : (b : Such Block BlockFinds) → Finds (binding.closed (of_block b.0).uses) (nested (in_block b.0 false))
closed_found b = nested_found (of_block b.0) (in_block b.0 false) (b.1 false)

branch_case : (y : BranchKnown) → BranchFinds (roll-Branch (branch_parts y))
branch_case y = branch_from (branch_parts y) (guarded_found y.condition (binding.closed (of_block y.block.0).uses) (nested (in_block y.block.0 false)) (closed_found y.block))

-- ---- statements

local_found : (ns : List (Bytes × Bool × Place)) (p : Uses) (f : Step) → Finds p f → Binds (record { uses = both p (binding.declared (locals ns)); locals = locals ns }) (walk.then f (locals_declared ns))
local_found ns p f h s =
    after_both s (p (names s)) (binding.declared (locals ns) (names s)) [] (locals ns) (f s) (locals_declared ns) (h s)
    (λ t e. subst (λ visible. Grows t (binding.declared (locals ns) visible) (locals ns) (locals_declared ns t)) (e ∙ append-nil (names s)) (named_declared ns t))

local_function_found : (n : Bytes) (u : Uses) (f : Step) → Finds u f → Binds (record { uses = declaring (n ∷ []) u; locals = n ∷ [] }) (walk.then (declared n false) f)
local_function_found n u f h s =
    after_both s (binding.declared (n ∷ []) (names s)) (under (n ∷ []) u (names s)) (n ∷ []) [] (declared n false s) f (one_declared n false s) (λ t e. finds_under (n ∷ []) u s t f e h)

abbrev counted_uses : Bytes → Block → Uses
counted_uses n b = binding.closed (declaring (n ∷ []) (of_block b).uses)

abbrev counted_step : Bytes → Block → Step
counted_step n b = looped (walk.then (declared n false) (in_block b false))

counted_found : (n : Bytes) (b : Such Block BlockFinds) → Finds (counted_uses n b.0) (counted_step n b.0)
counted_found n b = loop_found (n ∷ []) (of_block b.0) (declared n false) (in_block b.0 false) (one_declared n false) (b.1 false)

stepped_found : (n : Bytes) (by : Option (Such Expr ExprFinds)) (b : Such Block BlockFinds)
    → Finds (both (perhaps (option_map of_expr (option_map (λ p. p.0) by))) (counted_uses n b.0)) (walk.then (walk.perhaps (option_map in_expr (option_map (λ p. p.0) by))) (counted_step n b.0))
stepped_found n None b = both_found nothing (counted_uses n b.0) walk.nothing (counted_step n b.0) nothing_found (counted_found n b)
stepped_found n (Some by) b = guarded_found by (counted_uses n b.0) (counted_step n b.0) (counted_found n b)

for_found : (from to : Such Expr ExprFinds) (u : Uses) (f : Step) → Finds u f
    → Finds (both (of_expr from.0) (both (of_expr to.0) u)) (walk.then (in_expr from.0) (walk.then (in_expr to.0) f))
for_found from to u f h = guarded_found from (both (of_expr to.0) u) (walk.then (in_expr to.0) f) (guarded_found to u f h)

for_in_found : (ns : List (Bytes × Place)) (p : Uses) (f : Step) (b : Such Block BlockFinds) → Finds p f
    → Finds (both p (binding.closed (declaring (variables ns) (of_block b.0).uses))) (walk.then f (looped (walk.then (all_declared ns) (in_block b.0 false))))
for_in_found ns p f b h =
    both_found p (binding.closed (declaring (variables ns) (of_block b.0).uses)) f (looped (walk.then (all_declared ns) (in_block b.0 false))) h
    (loop_found (variables ns) (of_block b.0) (all_declared ns) (in_block b.0 false) (variables_declared ns) (b.1 false))

stat_case : (y : StatKnown) → StatFinds (roll-Stat (stat_parts y))
stat_case (Stat-F.Local ns es) = stat_from (Stat-F.Local ns (map (λ p. p.0) es)) (local_found ns (each (map of_expr (map (λ p. p.0) es))) (walk.each (map in_expr (map (λ p. p.0) es))) (exprs_found es))
stat_case (Stat-F.Assign ts es) = stat_from (Stat-F.Assign (map (λ p. p.0) ts) (map (λ p. p.0) es)) (both_found (each (map of_expr (map (λ p. p.0) ts))) (each (map of_expr (map (λ p. p.0) es))) (walk.each (map in_expr (map (λ p. p.0) ts))) (walk.each (map in_expr (map (λ p. p.0) es))) (exprs_found ts) (exprs_found es))
stat_case (Stat-F.«Stat::Call» e) = stat_from (Stat-F.«Stat::Call» e.0) e.1
stat_case (Stat-F.Do b) = stat_from (Stat-F.Do b.0) (closed_found b)
stat_case (Stat-F.While e b) =
    stat_from (Stat-F.While e.0 b.0) (guarded_found e (binding.closed (of_block b.0).uses) (looped (in_block b.0 false)) (looped_found (of_block b.0) (in_block b.0 false) (b.1 false)))
stat_case (Stat-F.Repeat b e) = stat_from (Stat-F.Repeat b.0 e.0) (repeat_found (of_block b.0) (in_block b.0 true) (of_expr e.0) (in_expr e.0) (b.1 true) e.1)
stat_case (Stat-F.If bs None) =
    stat_from (Stat-F.If (map (λ p. p.0) bs) None) (both_found (each (map of_branch (map (λ p. p.0) bs))) nothing (walk.each (map in_branch (map (λ p. p.0) bs))) walk.nothing (each_found of_branch in_branch bs) nothing_found)
stat_case (Stat-F.If bs (Some b)) =
    stat_from (Stat-F.If (map (λ p. p.0) bs) (Some b.0)) (both_found (each (map of_branch (map (λ p. p.0) bs))) (binding.closed (of_block b.0).uses) (walk.each (map in_branch (map (λ p. p.0) bs))) (nested (in_block b.0 false)) (each_found of_branch in_branch bs) (closed_found b))
stat_case (Stat-F.ForNum n p from to None b) =
    let f : Step = walk.then walk.nothing (counted_step n b.0) in
    stat_from (Stat-F.ForNum n p from.0 to.0 None b.0) (for_found from to (both nothing (counted_uses n b.0)) f (stepped_found n None b))
stat_case (Stat-F.ForNum n p from to (Some by) b) =
    let f : Step = walk.then (in_expr by.0) (counted_step n b.0) in
    stat_from (Stat-F.ForNum n p from.0 to.0 (Some by.0) b.0) (for_found from to (both (of_expr by.0) (counted_uses n b.0)) f (stepped_found n (Some by) b))
stat_case (Stat-F.ForIn ns es b) = stat_from (Stat-F.ForIn ns (map (λ p. p.0) es) b.0) (for_in_found ns (each (map of_expr (map (λ p. p.0) es))) (walk.each (map in_expr (map (λ p. p.0) es))) b (exprs_found es))
stat_case (Stat-F.LocalFunction n p f) = stat_from (Stat-F.LocalFunction n p f.0) (local_function_found n (of_body f.0) (in_body f.0) f.1)
stat_case (Stat-F.Return es) = stat_from (Stat-F.Return (map (λ p. p.0) es)) (exprs_found es)
stat_case (Stat-F.Break p) = stat_from (Stat-F.Break p) nothing_found
stat_case (Stat-F.Goto n p) = stat_from (Stat-F.Goto n p) nothing_found
stat_case (Stat-F.Label n p) = stat_from (Stat-F.Label n p) (label_found n)

-- ---- whole trees

block_binds_found : (b : Block) → BlockFinds b
block_binds_found = ind-Block KindFinds FieldFinds StatFinds ExprFinds PairFinds BlockFinds BodyFinds BranchFinds
    (λ x y is. subst (λ z. KindFinds (roll-ExprKind z)) is (kind_case y))
    (λ x y is. subst (λ z. FieldFinds (roll-Field z)) is (field_case y))
    (λ x y is. subst (λ z. StatFinds (roll-Stat z)) is (stat_case y))
    (λ x y is. subst (λ z. ExprFinds (roll-Expr z)) is (expr_case y))
    (λ x y is. subst (λ z. PairFinds (roll-Pair z)) is (pair_case y))
    (λ x y is. subst (λ z. BlockFinds (roll-Block z)) is (block_case y))
    (λ x y is. subst (λ z. BodyFinds (roll-Body z)) is (body_case y))
    (λ x y is. subst (λ z. BranchFinds (roll-Branch z)) is (branch_case y))

-- ---- a script

-- what the walk has found of a script
pub bound : (tree : Tree) (found : Survey) → found ≡ in_tree tree →
    ◌≡◌ {A = Bindings} (record { names = found.names; captured = found.captured; bodies = found.bodies }) (bindings_of tree)
bound tree found e =
    let h = block_binds_found tree.block false start in
    let cells = cells_found (in_tree tree).locals (in_tree tree).captured ((of_block tree.block).uses []) h.5 in
    ap (λ (s : Survey). shown s) e ∙ together h.3 h.4 cells
  where
    shown : Survey → Bindings
    shown s = record { names = s.names; captured = s.captured; bodies = s.bodies }

    together : (in_tree tree).bodies ≡ captures_of tree → (in_tree tree).names ≡ names_of tree → (in_tree tree).captured ≡ cells_of tree → shown (in_tree tree) ≡ bindings_of tree
    together a b c = cc
