-- Which local each name of a script refers to, by visibility (manual, section 3.5). A local is
-- visible after its statement to the end of its block; a parameter or a variable of a `for` in the
-- body of its function or loop; a `local function` in its own body too, and a local of a `repeat`
-- in its condition. A name refers to the innermost visible local of that name, which is the last
-- that was declared. A local is a cell where a function body in its scope names it, or a body
-- inside that one.
use Rattle.std.specs.Prelude.{◌≡◌, ℕ, suc, ◌<◌, Bool, List, [], ◌∷◌, ◌++◌, length, map, nat_eq, nat_lt, slice_get, IsSomeAnd, if◌then◌else◌, Option, Some, None}
use Rattle.std.specs.List.{list_any}
use Rattle.std.specs.Str.{bytes_eq}
use Rattle.lua_tokens.specs.declared.place.Place.{Place}
use Rattle.lua_tree.specs.declared.expr.ExprKind.TheOpen.{ExprKind-F, Field-F, Stat-F, Expr-F, Pair-F, Block-F, Body-F, Branch-F}
use Rattle.lua_tree.specs.declared.expr.ExprKind.{ExprKind, fold-ExprKind}
use Rattle.lua_tree.specs.declared.expr.Expr.{Expr, fold-Expr}
use Rattle.lua_tree.specs.declared.expr.Pair.{Pair, fold-Pair}
use Rattle.lua_tree.specs.declared.expr.Field.{Field, fold-Field}
use Rattle.lua_tree.specs.declared.stat.Stat.{Stat, fold-Stat}
use Rattle.lua_tree.specs.declared.stat.Block.{Block, fold-Block}
use Rattle.lua_tree.specs.declared.stat.Body.{Body, fold-Body}
use Rattle.lua_tree.specs.declared.stat.Branch.{Branch, fold-Branch}
use Rattle.lua_tree.specs.declared.stat.Tree.{Tree}
use Rattle.lua_scope.specs.declared.binding.Bindings.{Bindings}
use Rattle.lua_scope.specs.Visible.{or_else}
use Rattle.lua_scope.specs.Survey.{added}

abbrev pub Bytes : Type 0
Bytes = List ℕ

-- the names of the locals that are visible at a place, in the order of their declarations
abbrev pub Names : Type 0
Names = List Bytes

-- ---- a name

-- the visible local at a place has a name
abbrev pub Has : Names → ℕ → Bytes → Type 0
Has visible at name = IsSomeAnd (slice_get visible at) (λ n. n ≡ name)

-- a name refers to the visible local at a place: it has the name, and none that was declared later
-- has
abbrev pub RefersTo : Bytes → Names → ℕ → Type 0
RefersTo name visible at =
    Has visible at name × ((later : ℕ) → at < later → ¬ Has visible later name)

-- a name is a global: no visible local has it
abbrev pub IsGlobal : Bytes → Names → Type 0
IsGlobal name visible = (at : ℕ) → ¬ Has visible at name

-- the place of the local to which a name refers, the place of the first being this
abbrev pub innermost_from : ℕ → Bytes → Names → Option ℕ
innermost_from at name [] = None
innermost_from at name (n ∷ ns) =
    or_else (innermost_from (suc at) name ns) (if bytes_eq n name then Some at else None)

abbrev pub innermost : Bytes → Names → Option ℕ
innermost name visible = innermost_from 0 name visible

-- ---- what the names of a part refer to

-- What each name of a part refers to, those in function bodies too, in the order of the text: the
-- place of a local among those that are visible there, or none for a global. The places of these
-- locals, but for the own ones of function bodies in the part. The captures of each function body
-- in it, in the order of their first tokens. And of each local that it declares, in the order in
-- which they become visible, whether it is a cell, given the captures of the bodies after the
-- part, up to the end of its block.
pub record Named : Type 0 where
  pub names : List (Option ℕ)
  pub places : List ℕ
  pub captures : List (List ℕ)
  pub cells : List (List ℕ) → List Bool

abbrev pub none : Named
none = record { names = []; places = []; captures = []; cells = λ later. [] }

-- one part after the other: those locals of the first whose block has not ended are visible in the
-- second
abbrev pub joined : Named → Named → Named
joined u v = record {
  names = u.names ++ v.names;
  places = u.places ++ v.places;
  captures = u.captures ++ v.captures;
  cells = λ later. u.cells (v.captures ++ later) ++ v.cells later;
}

-- a block, after which its locals aren't visible
abbrev pub ended : Named → Named
ended u = record {
  names = u.names;
  places = u.places;
  captures = u.captures;
  cells = λ later. u.cells [];
}

abbrev pub Uses : Type 0
Uses = Names → Named

abbrev pub nothing : Uses
nothing visible = none

abbrev pub both : Uses → Uses → Uses
both f g visible = joined (f visible) (g visible)

abbrev pub each : List Uses → Uses
each [] visible = none
each (f ∷ fs) visible = joined (f visible) (each fs visible)

abbrev pub perhaps : Option Uses → Uses
perhaps None visible = none
perhaps (Some f) visible = f visible

abbrev pub referred : Option ℕ → Named
referred None = record { names = None ∷ []; places = []; captures = []; cells = λ later. [] }
referred (Some at) =
    record { names = Some at ∷ []; places = at ∷ []; captures = []; cells = λ later. [] }

abbrev pub name : Bytes → Uses
name n visible = referred (innermost n visible)

-- ---- captures

-- those of the first so many locals, which are those of outer functions
abbrev pub of_outer : ℕ → List ℕ → List ℕ
of_outer count [] = []
of_outer count (at ∷ more) =
    if nat_lt at count then at ∷ of_outer count more else of_outer count more

abbrev pub all_added : List ℕ → List ℕ → List ℕ
all_added [] ns = ns
all_added (n ∷ more) ns = all_added more (added n ns)

-- each once, in the order in which they first stand
abbrev pub once : List ℕ → List ℕ
once ns = all_added ns []

-- A function body after so many visible locals: its captures are those of them that it or its
-- inner bodies name, in the order in which they are first named.
abbrev pub captured : ℕ → Named → Named
captured count u =
    let outer = of_outer count u.places in
    record (ended u) { places = outer; captures = once outer ∷ u.captures }

-- ---- declarations

-- the local at this place is among the captures of one of these bodies
abbrev pub is_in : ℕ → List (List ℕ) → Bool
is_in at captures = list_any (list_any (nat_eq at)) captures

-- A local is a cell where a body in its scope captures it. The place of the first is this.
abbrev pub cells_from : ℕ → Names → List (List ℕ) → List Bool
cells_from at [] later = []
cells_from at (n ∷ ns) later = is_in at later ∷ cells_from (suc at) ns later

-- locals of these names are declared after those that are visible
abbrev pub declared : Names → Uses
declared ns visible =
    record { names = []; places = []; captures = []; cells = cells_from (length visible) ns }

-- where these locals are visible too
abbrev pub under : Names → Uses → Uses
under ns u visible = u (visible ++ ns)

-- they are declared there
abbrev pub declaring : Names → Uses → Uses
declaring ns u = both (declared ns) (under ns u)

abbrev pub closed : Uses → Uses
closed u visible = ended (u visible)

abbrev pub function : Names → Uses → Uses
function params block visible = captured (length visible) (declaring params block visible)

-- ---- statements

-- what the names of a statement or a block refer to, and the locals that are visible after it
pub record Part : Type 0 where
  pub uses : Uses
  pub locals : Names

abbrev pub plain : Uses → Part
plain u = record { uses = u; locals = [] }

-- a local is visible in the statements after its own
abbrev pub stats : List Part → Part
stats [] = plain nothing
stats (p ∷ ps) = record {
  uses = λ visible. joined (p.uses visible) ((stats ps).uses (visible ++ p.locals));
  locals = p.locals ++ (stats ps).locals;
}

abbrev pub variables : List (Bytes × Place) → Names
variables ns = map (λ n. n.0) ns

abbrev pub locals : List (Bytes × Bool × Place) → Names
locals ns = map (λ n. n.0) ns

abbrev pub or_nothing : Option Part → Uses
or_nothing None visible = none
or_nothing (Some p) visible = ended (p.uses visible)

-- ---- one layer of a tree

abbrev pub kind_uses : ExprKind-F Uses Uses Part Uses Uses Part Uses Uses → Uses
kind_uses (ExprKind-F.Name n p) = name n
kind_uses (ExprKind-F.Index two) = two
kind_uses (ExprKind-F.«ExprKind::Call» e es) = both e (each es)
kind_uses (ExprKind-F.Method e n es) = both e (each es)
kind_uses (ExprKind-F.Function b) = b
kind_uses (ExprKind-F.Binary op two) = two
kind_uses (ExprKind-F.Unary op e) = e
kind_uses (ExprKind-F.And two) = two
kind_uses (ExprKind-F.Or two) = two
kind_uses (ExprKind-F.Paren e) = e
kind_uses (ExprKind-F.Table fs) = each fs
kind_uses _ = nothing

abbrev pub field_uses : Field-F Uses Uses Part Uses Uses Part Uses Uses → Uses
field_uses (Field-F.Item e) = e
field_uses (Field-F.Named n e) = e
field_uses (Field-F.Keyed x e) = both x e

abbrev pub stat_binds : Stat-F Uses Uses Part Uses Uses Part Uses Uses → Part
stat_binds (Stat-F.Local ns es) =
    record { uses = both (each es) (declared (locals ns)); locals = locals ns }
stat_binds (Stat-F.Assign ts es) = plain (both (each ts) (each es))
stat_binds (Stat-F.«Stat::Call» e) = plain e
stat_binds (Stat-F.Do b) = plain (closed b.uses)
stat_binds (Stat-F.While e b) = plain (both e (closed b.uses))
stat_binds (Stat-F.Repeat b e) = plain (closed (both b.uses (under b.locals e)))
stat_binds (Stat-F.If bs b) = plain (both (each bs) (or_nothing b))
stat_binds (Stat-F.ForNum n p from to by b) =
    plain (both from (both to (both (perhaps by) (closed (declaring (n ∷ []) b.uses)))))
stat_binds (Stat-F.ForIn ns es b) =
    plain (both (each es) (closed (declaring (variables ns) b.uses)))
stat_binds (Stat-F.LocalFunction n p b) = record { uses = declaring (n ∷ []) b; locals = n ∷ [] }
stat_binds (Stat-F.Return es) = plain (each es)
stat_binds (Stat-F.Break p) = plain nothing
stat_binds (Stat-F.Goto n p) = plain nothing
stat_binds (Stat-F.Label n p) = plain nothing

abbrev pub expr_uses : Expr-F Uses Uses Part Uses Uses Part Uses Uses → Uses
expr_uses e = e.what

abbrev pub pair_uses : Pair-F Uses Uses Part Uses Uses Part Uses Uses → Uses
pair_uses two = both two.left two.right

abbrev pub block_binds : Block-F Uses Uses Part Uses Uses Part Uses Uses → Part
block_binds b = stats b.stats

abbrev pub body_uses : Body-F Uses Uses Part Uses Uses Part Uses Uses → Uses
body_uses b = function (variables b.params) b.block.uses

abbrev pub branch_uses : Branch-F Uses Uses Part Uses Uses Part Uses Uses → Uses
branch_uses b = both b.condition (closed b.block.uses)

-- ---- whole parts

abbrev pub of_kind : ExprKind → Uses
of_kind =
    fold-ExprKind Uses Uses Part Uses Uses Part Uses Uses
    kind_uses field_uses stat_binds expr_uses pair_uses block_binds body_uses branch_uses

abbrev pub of_expr : Expr → Uses
of_expr =
    fold-Expr Uses Uses Part Uses Uses Part Uses Uses
    kind_uses field_uses stat_binds expr_uses pair_uses block_binds body_uses branch_uses

abbrev pub of_pair : Pair → Uses
of_pair =
    fold-Pair Uses Uses Part Uses Uses Part Uses Uses
    kind_uses field_uses stat_binds expr_uses pair_uses block_binds body_uses branch_uses

abbrev pub of_field : Field → Uses
of_field =
    fold-Field Uses Uses Part Uses Uses Part Uses Uses
    kind_uses field_uses stat_binds expr_uses pair_uses block_binds body_uses branch_uses

abbrev pub of_stat : Stat → Part
of_stat =
    fold-Stat Uses Uses Part Uses Uses Part Uses Uses
    kind_uses field_uses stat_binds expr_uses pair_uses block_binds body_uses branch_uses

abbrev pub of_block : Block → Part
of_block =
    fold-Block Uses Uses Part Uses Uses Part Uses Uses
    kind_uses field_uses stat_binds expr_uses pair_uses block_binds body_uses branch_uses

abbrev pub of_body : Body → Uses
of_body =
    fold-Body Uses Uses Part Uses Uses Part Uses Uses
    kind_uses field_uses stat_binds expr_uses pair_uses block_binds body_uses branch_uses

abbrev pub of_branch : Branch → Uses
of_branch =
    fold-Branch Uses Uses Part Uses Uses Part Uses Uses
    kind_uses field_uses stat_binds expr_uses pair_uses block_binds body_uses branch_uses

-- the captures of each body of a script, the main body first, which has none
abbrev pub captures_of : Tree → List (List ℕ)
captures_of tree = [] ∷ ((of_block tree.block).uses []).captures

-- what each name of a script refers to
abbrev pub names_of : Tree → List (Option ℕ)
names_of tree = ((of_block tree.block).uses []).names

-- which locals of a script are cells, in the order in which they become visible
abbrev pub cells_of : Tree → List Bool
cells_of tree = ((of_block tree.block).uses []).cells []

-- all this of a script
abbrev pub bindings_of : Tree → Bindings
bindings_of tree =
    record { names = names_of tree; captured = cells_of tree; bodies = captures_of tree }
