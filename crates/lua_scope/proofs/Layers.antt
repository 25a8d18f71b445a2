-- One layer of a tree, of each kind.
use Rattle.lua_tree.specs.declared.expr.Expr.{Expr}
use Rattle.lua_tree.specs.declared.expr.Pair.{Pair}
use Rattle.lua_tree.specs.declared.expr.Field.{Field}
use Rattle.lua_tree.specs.declared.expr.ExprKind.{ExprKind}
use Rattle.lua_tree.specs.declared.expr.ExprKind.TheOpen.{ExprKind-F, Field-F, Stat-F, Expr-F, Pair-F, Block-F, Body-F, Branch-F}
use Rattle.lua_tree.specs.declared.stat.Stat.{Stat}
use Rattle.lua_tree.specs.declared.stat.Body.{Body}
use Rattle.lua_tree.specs.declared.stat.Block.{Block}
use Rattle.lua_tree.specs.declared.stat.Branch.{Branch}

abbrev pub KindLayer : Type 0
KindLayer = ExprKind-F ExprKind Field Stat Expr Pair Block Body Branch

abbrev pub FieldLayer : Type 0
FieldLayer = Field-F ExprKind Field Stat Expr Pair Block Body Branch

abbrev pub StatLayer : Type 0
StatLayer = Stat-F ExprKind Field Stat Expr Pair Block Body Branch

abbrev pub ExprLayer : Type 0
ExprLayer = Expr-F ExprKind Field Stat Expr Pair Block Body Branch

abbrev pub PairLayer : Type 0
PairLayer = Pair-F ExprKind Field Stat Expr Pair Block Body Branch

abbrev pub BlockLayer : Type 0
BlockLayer = Block-F ExprKind Field Stat Expr Pair Block Body Branch

abbrev pub BodyLayer : Type 0
BodyLayer = Body-F ExprKind Field Stat Expr Pair Block Body Branch

abbrev pub BranchLayer : Type 0
BranchLayer = Branch-F ExprKind Field Stat Expr Pair Block Body Branch
