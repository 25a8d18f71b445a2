-- Lists of parts that are built one after another, and blocks by their statements.
use Rattle.std.proofs.Common.{◌≡◌, ◌∙◌, refl, ap, sym, ℕ, Bool, List, [], ◌∷◌, ◌++◌, map}
use Rattle.std.proofs.lemmas.List.{append_assoc, append-nil}
use Rattle.lua_tree.specs.declared.expr.ExprKind.{ExprKind}
use Rattle.lua_tree.specs.declared.expr.Expr.{Expr}
use Rattle.lua_tree.specs.declared.expr.Field.{Field}
use Rattle.lua_tree.specs.declared.expr.Pair.{Pair}
use Rattle.lua_tree.specs.declared.expr.ExprKind.TheFolds.{fold-roll-Stat, fold-roll-Block}
use Rattle.lua_tree.specs.declared.stat.Stat.{Stat, out-Stat, roll-out-Stat}
use Rattle.lua_tree.specs.declared.stat.Block.{Block, out-Block, roll-out-Block}
use Rattle.lua_tree.specs.declared.stat.Body.{Body}
use Rattle.lua_tree.specs.declared.stat.Branch.{Branch}
use Rattle.lua_program.specs.declared.expr.RExpr.{RExpr}
use Rattle.lua_program.specs.declared.expr.RExprKind.{RExprKind}
use Rattle.lua_program.specs.declared.expr.RPair.{RPair}
use Rattle.lua_program.specs.declared.expr.RField.{RField}
use Rattle.lua_program.specs.declared.stat.RStat.{RStat}
use Rattle.lua_program.specs.declared.stat.RBranch.{RBranch}
use Rattle.lua_scope.specs.declared.binding.Bindings.{Bindings}
use Rattle.lua_scope.specs.declared.build.Builder.{Builder}
use Rattle.lua_scope.specs.Build.{Make, with_labels}
use Rattle.lua_scope.specs.Labels.{Outlined, outline_of}
use Rattle.lua_scope.specs.Resolved.{all, statements, kind_made, field_made, stat_made, expr_made, pair_made, block_made, body_made, branch_made, kind_of, field_of, stat_of, expr_of, pair_of, block_of, body_of, branch_of}
use Rattle.lua_scope.proofs.OutlineLemmas.{mapped}

-- one more was made
pub one_more : {X : Type 0} (made rest : List X) (x : X) → (made ++ x ∷ []) ++ rest ≡ made ++ (x ∷ rest)
one_more made rest x = append_assoc made (x ∷ []) rest

pub no_more : {X : Type 0} (made : List X) → made ++ [] ≡ made
no_more made = append-nil made

pub ruleset list_rules = (one_more, no_more)

-- ---- a block

one_built : (found : Bindings) (s : Stat) → (stat_of found s).outline ≡ outline_of s
one_built found s =
    ap (λ x. (stat_of found x).outline) (sym (roll-out-Stat s))
    ∙ ap (λ x. x.outline) (fold-roll-Stat (Make RExprKind) (Make RField) (Outlined (Make RStat)) (Make RExpr) (Make RPair) (Bool → Make (List RStat)) (Make ℕ) (Make RBranch) (kind_made found) (field_made found) (stat_made found) (expr_made found) (pair_made found) (block_made found) (body_made found) (branch_made found) (out-Stat s))
    ∙ mapped ExprKind Field Stat Expr Pair Block Body Branch (Make RExprKind) (Make RField) (Outlined (Make RStat)) (Make RExpr) (Make RPair) (Bool → Make (List RStat)) (Make ℕ) (Make RBranch)
    (kind_of found) (field_of found) (stat_of found) (expr_of found) (pair_of found) (block_of found) (body_of found) (branch_of found) (out-Stat s)

outlines_built : (found : Bindings) (ss : List Stat) → map (λ x. x.outline) (map (stat_of found) ss) ≡ map outline_of ss
outlines_built found [] = refl
outlines_built found (s ∷ ss) = ap (λ o. o ∷ map (λ x. x.outline) (map (stat_of found) ss)) (one_built found s) ∙ ap (λ os. outline_of s ∷ os) (outlines_built found ss)

-- a block is what its statements are, once its labels are known
pub block_built : (found : Bindings) (b : Block) (r : Bool) (ss : List Stat) (s t : Builder) → ss ≡ (out-Block b).stats → t ≡ with_labels r (map outline_of ss) s
    → all (map (λ x. x.what) (map (stat_of found) ss)) t ≡ block_of found b r s
block_built found b r ss s t is begins =
    ap (all (map (λ x. x.what) (map (stat_of found) ss))) (begins ∙ ap (λ os. with_labels r os s) (sym (outlines_built found ss)))
    ∙ ap (λ l. statements (map (stat_of found) l) r s) is
    ∙ sym (ap (λ f. f r s) (ap (block_of found) (sym (roll-out-Block b)) ∙ fold-roll-Block (Make RExprKind) (Make RField) (Outlined (Make RStat)) (Make RExpr) (Make RPair) (Bool → Make (List RStat)) (Make ℕ) (Make RBranch) (kind_made found) (field_made found) (stat_made found) (expr_made found) (pair_made found) (block_made found) (body_made found) (branch_made found) (out-Block b)))
