-- The outline of a statement, as each definition by cases keeps it.
use Rattle.std.proofs.Common.{◌≡◌, ◌∙◌, refl, ap, sym, Bool, List, [], ◌∷◌, map}
use Rattle.lua_tree.specs.declared.expr.ExprKind.{ExprKind, fold-ExprKind}
use Rattle.lua_tree.specs.declared.expr.Expr.{Expr}
use Rattle.lua_tree.specs.declared.expr.Field.{Field}
use Rattle.lua_tree.specs.declared.expr.Pair.{Pair}
use Rattle.lua_tree.specs.declared.expr.ExprKind.TheOpen.{Stat-F}
use Rattle.lua_tree.specs.declared.expr.ExprKind.TheFolds.{fold-roll-Stat, map-Stat}
use Rattle.lua_tree.specs.declared.stat.Stat.{Stat, out-Stat, roll-out-Stat}
use Rattle.lua_tree.specs.declared.stat.Block.{Block}
use Rattle.lua_tree.specs.declared.stat.Body.{Body}
use Rattle.lua_tree.specs.declared.stat.Branch.{Branch}
use Rattle.lua_scope.specs.Labels.{Outlined, outline, outline_of}
use Rattle.lua_scope.specs.Survey.{Step}
use Rattle.lua_scope.specs.Walk as walk
use Rattle.lua_scope.specs.Walk.{in_expr, in_pair, in_field, in_stat, in_block, in_body, in_branch}
use Rattle.lua_scope.specs.Rules as rules
use Rattle.lua_scope.specs.Rules.{Faults, Part, expr_faults, pair_faults, field_faults, stat_part, block_part, body_faults, branch_faults}

-- what is said of its parts leaves it as it is
pub mapped : (K F S E P B Y R K2 F2 S2 E2 P2 B2 Y2 R2 : Type 0)
    (k : K → K2) (f : F → F2) (s : S → S2) (e : E → E2) (p : P → P2) (b : B → B2) (y : Y → Y2) (r : R → R2) (z : Stat-F K F S E P B Y R)
    → outline (map-Stat K F S E P B Y R K2 F2 S2 E2 P2 B2 Y2 R2 k f s e p b y r z) ≡ outline z
mapped K F S E P B Y R K2 F2 S2 E2 P2 B2 Y2 R2 k f s e p b y r (Stat-F.Local ns es) = refl
mapped K F S E P B Y R K2 F2 S2 E2 P2 B2 Y2 R2 k f s e p b y r (Stat-F.Assign ts es) = refl
mapped K F S E P B Y R K2 F2 S2 E2 P2 B2 Y2 R2 k f s e p b y r (Stat-F.«Stat::Call» a) = refl
mapped K F S E P B Y R K2 F2 S2 E2 P2 B2 Y2 R2 k f s e p b y r (Stat-F.Do a) = refl
mapped K F S E P B Y R K2 F2 S2 E2 P2 B2 Y2 R2 k f s e p b y r (Stat-F.While a c) = refl
mapped K F S E P B Y R K2 F2 S2 E2 P2 B2 Y2 R2 k f s e p b y r (Stat-F.Repeat a c) = refl
mapped K F S E P B Y R K2 F2 S2 E2 P2 B2 Y2 R2 k f s e p b y r (Stat-F.If a c) = refl
mapped K F S E P B Y R K2 F2 S2 E2 P2 B2 Y2 R2 k f s e p b y r (Stat-F.ForNum n at x to by c) = refl
mapped K F S E P B Y R K2 F2 S2 E2 P2 B2 Y2 R2 k f s e p b y r (Stat-F.ForIn ns es c) = refl
mapped K F S E P B Y R K2 F2 S2 E2 P2 B2 Y2 R2 k f s e p b y r (Stat-F.LocalFunction n at c) = refl
mapped K F S E P B Y R K2 F2 S2 E2 P2 B2 Y2 R2 k f s e p b y r (Stat-F.Return es) = refl
mapped K F S E P B Y R K2 F2 S2 E2 P2 B2 Y2 R2 k f s e p b y r (Stat-F.Break at) = refl
mapped K F S E P B Y R K2 F2 S2 E2 P2 B2 Y2 R2 k f s e p b y r (Stat-F.Goto n at) = refl
mapped K F S E P B Y R K2 F2 S2 E2 P2 B2 Y2 R2 k f s e p b y r (Stat-F.Label n at) = refl

found_one : (s : Stat) → (in_stat s).outline ≡ outline_of s
found_one s =
    ap (λ x. (in_stat x).outline) (sym (roll-out-Stat s))
    ∙ ap (λ x. x.outline) (fold-roll-Stat Step Step (Outlined Step) Step Step (Bool → Step) Step Step walk.kind_step walk.field_step walk.stat_step walk.expr_step walk.pair_step walk.block_step walk.body_step walk.branch_step (out-Stat s))
    ∙ mapped ExprKind Field Stat Expr Pair Block Body Branch Step Step (Outlined Step) Step Step (Bool → Step) Step Step
    (fold-ExprKind Step Step (Outlined Step) Step Step (Bool → Step) Step Step walk.kind_step walk.field_step walk.stat_step walk.expr_step walk.pair_step walk.block_step walk.body_step walk.branch_step)
    in_field in_stat in_expr in_pair in_block in_body in_branch (out-Stat s)

pub outlines_found : (ss : List Stat) → map (λ x. x.outline) (map in_stat ss) ≡ map outline_of ss
outlines_found [] = refl
outlines_found (s ∷ ss) = ap (λ o. o ∷ map (λ x. x.outline) (map in_stat ss)) (found_one s) ∙ ap (λ os. outline_of s ∷ os) (outlines_found ss)

ruled_one : (s : Stat) → (stat_part s).outline ≡ outline_of s
ruled_one s =
    ap (λ x. (stat_part x).outline) (sym (roll-out-Stat s))
    ∙ ap (λ x. x.outline) (fold-roll-Stat (Bool → Faults) Faults (Outlined Part) (Bool → Faults) Faults (Bool → Part) Faults Faults rules.kind_rules rules.field_rules rules.stat_rules rules.expr_rules rules.pair_rules rules.block_rules rules.body_rules rules.branch_rules (out-Stat s))
    ∙ mapped ExprKind Field Stat Expr Pair Block Body Branch (Bool → Faults) Faults (Outlined Part) (Bool → Faults) Faults (Bool → Part) Faults Faults
    (fold-ExprKind (Bool → Faults) Faults (Outlined Part) (Bool → Faults) Faults (Bool → Part) Faults Faults rules.kind_rules rules.field_rules rules.stat_rules rules.expr_rules rules.pair_rules rules.block_rules rules.body_rules rules.branch_rules)
    field_faults stat_part expr_faults pair_faults block_part body_faults branch_faults (out-Stat s)

pub outlines_ruled : (ss : List Stat) → map (λ x. x.outline) (map stat_part ss) ≡ map outline_of ss
outlines_ruled [] = refl
outlines_ruled (s ∷ ss) = ap (λ o. o ∷ map (λ x. x.outline) (map stat_part ss)) (ruled_one s) ∙ ap (λ os. outline_of s ∷ os) (outlines_ruled ss)
