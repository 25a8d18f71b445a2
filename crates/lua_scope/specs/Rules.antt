-- The first place in the text that breaks a rule of scope (manual, sections 3.3.4, 3.3.7, 3.4.11
-- and 3.5). A local is visible after its statement to the end of its block; a parameter or the
-- variable of a `for` in the body of its function or loop; a `local function` in its own body too,
-- and a local of a `repeat` in its condition.
use Rattle.std.specs.Prelude.{◌≡◌, ◌≢◌, ℕ, suc, ◌+◌, ◌-◌, Bool, true, false, ◌&&◌, List, [], ◌∷◌, ◌++◌, length, map, drop, nat_le, if◌then◌else◌, Option, Some, None, Result, Ok, Err, slice_get}
use Rattle.std.specs.List.{list_any}
use Rattle.std.specs.Str.{bytes_eq}
use Rattle.lua_tokens.specs.declared.place.Place.{Place}
use Rattle.lua_tree.specs.declared.expr.ExprKind.TheOpen.{ExprKind-F, Field-F, Stat-F, Expr-F, Pair-F, Block-F, Body-F, Branch-F}
use Rattle.lua_tree.specs.declared.stat.Stat.{Stat, fold-Stat}
use Rattle.lua_tree.specs.declared.stat.Body.{Body, fold-Body}
use Rattle.lua_tree.specs.declared.stat.Block.{Block, fold-Block}
use Rattle.lua_tree.specs.declared.stat.Branch.{Branch, fold-Branch}
use Rattle.lua_tree.specs.declared.expr.Expr.{Expr, fold-Expr}
use Rattle.lua_tree.specs.declared.expr.Pair.{Pair, fold-Pair}
use Rattle.lua_tree.specs.declared.expr.Field.{Field, fold-Field}
use Rattle.lua_tree.specs.declared.stat.Tree.{Tree}
use Rattle.lua_scope.specs.declared.fault.ScopeFault.{ScopeFault}
use Rattle.lua_scope.specs.declared.fault.ScopeFault.TheVariants as fault
use Rattle.lua_scope.specs.declared.labels.OpenBlock.{OpenBlock}
use Rattle.lua_scope.specs.declared.labels.Target.{Target}
use Rattle.lua_scope.specs.declared.scopes.FunctionScope.{FunctionScope}
use Rattle.lua_scope.specs.declared.scopes.Local.{Local}
use Rattle.lua_scope.specs.declared.scopes.TheConstants.{MOST_LOCALS}
use Rattle.lua_scope.specs.declared.survey.Survey.{Survey}
use Rattle.lua_scope.specs.Labels.{Outline, Outlined, outline, opened, target_of}
use Rattle.lua_scope.specs.Survey.{is_refused}

abbrev pub Bytes : Type 0
Bytes = List ℕ

-- What holds at a place: the visible locals, the one that was declared last at the end, each with
-- whether it is `<const>`; the labels passed in the open blocks; the open blocks, from the
-- outermost inwards, each with all its labels; how many of these are of outer functions; whether
-- the function around takes `...`; whether the place stands in a loop of it.
pub record Scope : Type 0 where
  pub names : List (Bytes × Bool)
  pub labels : List Bytes
  pub blocks : List OpenBlock
  pub outer_names : ℕ
  pub outer_labels : ℕ
  pub outer_blocks : ℕ
  pub vararg : Bool
  pub in_loop : Bool

abbrev pub Faults : Type 0
Faults = Scope → Option ScopeFault

-- the first of two faults that is there, the second standing further on in the text
abbrev pub or_next : Option ScopeFault → Option ScopeFault → Option ScopeFault
or_next None next = next
or_next (Some f) next = Some f

-- ---- names

abbrev pub or_first : Option Bool → Option Bool → Option Bool
or_first None first = first
or_first (Some b) first = Some b

-- whether the last local of a name is `<const>`, where there is one
abbrev pub last_const : Bytes → List (Bytes × Bool) → Option Bool
last_const name [] = None
last_const name (n ∷ ns) =
    or_first (last_const name ns) (if bytes_eq n.0 name then Some n.1 else None)

abbrev pub or_false : Option Bool → Bool
or_false None = false
or_false (Some b) = b

abbrev pub named : Bytes → Place → Bool → Faults
named n p is_target scope =
    if is_refused n then Some (fault.EnvName p)
    else if is_target && or_false (last_const n scope.names) then Some (fault.ConstAssigned p)
    else None

-- a name that is declared after so many others of its statement
abbrev pub declared : Bytes → Place → ℕ → Faults
declared n p before scope =
    if is_refused n then Some (fault.EnvName p)
    else if nat_le MOST_LOCALS ((length scope.names - scope.outer_names) + before)
    then Some (fault.TooManyLocals p)
    else None

abbrev pub dots : Place → Faults
dots p scope = if scope.vararg then None else Some (fault.VarargOutside p)

abbrev pub broken_off : Place → Faults
broken_off p scope = if scope.in_loop then None else Some (fault.BreakOutside p)

abbrev pub all_declared : ℕ → List (Bytes × Place) → Faults
all_declared before [] scope = None
all_declared before (n ∷ ns) scope =
    or_next (declared n.0 n.1 before scope) (all_declared (suc before) ns scope)

abbrev pub locals_declared : ℕ → List (Bytes × Bool × Place) → Faults
locals_declared before [] scope = None
locals_declared before (n ∷ ns) scope =
    or_next (declared n.0 n.2 before scope) (locals_declared (suc before) ns scope)

-- ---- gotos and labels

-- what is wrong with a goto to this target
abbrev pub jumped : Bytes → Place → Option Target → Option ScopeFault
jumped n p None = Some (fault.NoLabel n p)
jumped n p (Some target) = if target.into_local then Some (fault.JumpIntoLocal p) else None

abbrev pub goto : Bytes → Place → Faults
goto n p scope =
    jumped n p (target_of n (length scope.names) (drop scope.outer_blocks scope.blocks))

-- a label of the name was passed in this block or in one round it
abbrev pub label : Bytes → Place → Faults
label n p scope =
    if list_any (bytes_eq n) (drop scope.outer_labels scope.labels)
    then Some (fault.LabelTwice n p)
    else None

-- ---- scopes

abbrev pub variable : Bytes × Place → Bytes × Bool
variable n = (n.0, false)

abbrev pub local : Bytes × Bool × Place → Bytes × Bool
local n = (n.0, n.1)

abbrev pub with_name : Bytes × Bool → Scope → Scope
with_name n scope = record scope { names = scope.names ++ n ∷ [] }

abbrev pub with_names : List (Bytes × Bool) → Scope → Scope
with_names [] scope = scope
with_names (n ∷ ns) scope = with_names ns (with_name n scope)

abbrev pub with_label : Bytes → Scope → Scope
with_label n scope = record scope { labels = scope.labels ++ n ∷ [] }

-- where the statements of a block begin
abbrev pub with_block : Bool → List Outline → Scope → Scope
with_block is_repeat os scope =
    record scope { blocks = opened (length scope.names) is_repeat os scope.blocks }

abbrev pub looping : Scope → Scope
looping scope = record scope { in_loop = true }

-- where the body of a function begins
abbrev pub inside : Bool → Scope → Scope
inside vararg scope = record scope {
  outer_names = length scope.names;
  outer_labels = length scope.labels;
  outer_blocks = length scope.blocks;
  vararg = vararg;
  in_loop = false;
}

-- ---- one part after another

abbrev pub both : Faults → Faults → Faults
both f g scope = or_next (f scope) (g scope)

abbrev pub each : List Faults → Faults
each [] scope = None
each (f ∷ fs) scope = or_next (f scope) (each fs scope)

abbrev pub each_of : Bool → List (Bool → Faults) → Faults
each_of is_target [] scope = None
each_of is_target (f ∷ fs) scope = or_next (f is_target scope) (each_of is_target fs scope)

abbrev pub perhaps : Option (Bool → Faults) → Faults
perhaps None scope = None
perhaps (Some f) scope = f false scope

-- what a statement or a block breaks, and what holds after it
pub record Part : Type 0 where
  pub faults : Faults
  pub after : Scope → Scope

abbrev pub plain : Faults → Part
plain f = record { faults = f; after = λ scope. scope }

abbrev pub stats : List Part → Part
stats [] = plain (λ scope. None)
stats (p ∷ ps) = record {
  faults = λ scope. or_next (p.faults scope) ((stats ps).faults (p.after scope));
  after = λ scope. (stats ps).after (p.after scope);
}

-- the statements of a block, and whether it is the body of a `repeat`
abbrev pub statements : List (Outlined Part) → Bool → Part
statements ss is_repeat = record {
  faults = λ scope. (stats (map (λ x. x.what) ss)).faults
      (with_block is_repeat (map (λ x. x.outline) ss) scope);
  after = λ scope. (stats (map (λ x. x.what) ss)).after
      (with_block is_repeat (map (λ x. x.outline) ss) scope);
}

-- ---- one layer of a tree

abbrev pub kind_rules :
    ExprKind-F (Bool → Faults) Faults (Outlined Part) (Bool → Faults) Faults
    (Bool → Part) Faults Faults
    → Bool → Faults
kind_rules (ExprKind-F.Dots p) t = dots p
kind_rules (ExprKind-F.Name n p) t = named n p t
kind_rules (ExprKind-F.Index two) t = two
kind_rules (ExprKind-F.«ExprKind::Call» e es) t = both (e false) (each_of false es)
kind_rules (ExprKind-F.Method e n es) t = both (e false) (each_of false es)
kind_rules (ExprKind-F.Function b) t = b
kind_rules (ExprKind-F.Binary op two) t = two
kind_rules (ExprKind-F.Unary op e) t = e false
kind_rules (ExprKind-F.And two) t = two
kind_rules (ExprKind-F.Or two) t = two
kind_rules (ExprKind-F.Paren e) t = e false
kind_rules (ExprKind-F.Table fs) t = each fs
kind_rules _ t = λ scope. None

abbrev pub field_rules :
    Field-F (Bool → Faults) Faults (Outlined Part) (Bool → Faults) Faults
    (Bool → Part) Faults Faults
    → Faults
field_rules (Field-F.Item e) = e false
field_rules (Field-F.Named n e) = e false
field_rules (Field-F.Keyed x e) = both (x false) (e false)

abbrev pub or_none : Option (Bool → Part) → Faults
or_none None = λ scope. None
or_none (Some b) = (b false).faults

abbrev pub in_body_of_loop : (Bool → Part) → Faults
in_body_of_loop b scope = (b false).faults (looping scope)

abbrev pub repeated : (Bool → Part) → (Bool → Faults) → Faults
repeated b e scope =
    or_next ((b true).faults (looping scope)) (e false ((b true).after (looping scope)))

abbrev pub one_rules :
    Stat-F (Bool → Faults) Faults (Outlined Part) (Bool → Faults) Faults (Bool → Part) Faults Faults
    → Part
one_rules (Stat-F.Local ns es) = record {
  faults = both (locals_declared 0 ns) (each_of false es);
  after = with_names (map local ns);
}
one_rules (Stat-F.Assign ts es) = plain (both (each_of true ts) (each_of false es))
one_rules (Stat-F.«Stat::Call» e) = plain (e false)
one_rules (Stat-F.Do b) = plain (b false).faults
one_rules (Stat-F.While e b) = plain (both (e false) (in_body_of_loop b))
one_rules (Stat-F.Repeat b e) = plain (repeated b e)
one_rules (Stat-F.If bs b) = plain (both (each bs) (or_none b))
one_rules (Stat-F.ForNum n p from to by b) =
    plain (both (declared n p 0) (both (from false) (both (to false) (both (perhaps by)
    (λ scope. (b false).faults (with_name (variable (n, p)) (looping scope)))))))
one_rules (Stat-F.ForIn ns es b) =
    plain (both (all_declared 0 ns) (both (each_of false es)
    (λ scope. (b false).faults (with_names (map variable ns) (looping scope)))))
one_rules (Stat-F.LocalFunction n p b) = record {
  faults = both (declared n p 0) (λ scope. b (with_name (variable (n, p)) scope));
  after = with_name (variable (n, p));
}
one_rules (Stat-F.Return es) = plain (each_of false es)
one_rules (Stat-F.Break p) = plain (broken_off p)
one_rules (Stat-F.Goto n p) = plain (goto n p)
one_rules (Stat-F.Label n p) = record { faults = label n p; after = with_label n }

abbrev pub stat_rules :
    Stat-F (Bool → Faults) Faults (Outlined Part) (Bool → Faults) Faults (Bool → Part) Faults Faults
    → Outlined Part
stat_rules s = record { outline = outline s; what = one_rules s }

abbrev pub expr_rules :
    Expr-F (Bool → Faults) Faults (Outlined Part) (Bool → Faults) Faults (Bool → Part) Faults Faults
    → Bool → Faults
expr_rules e = e.what

abbrev pub pair_rules :
    Pair-F (Bool → Faults) Faults (Outlined Part) (Bool → Faults) Faults (Bool → Part) Faults Faults
    → Faults
pair_rules two = both (two.left false) (two.right false)

abbrev pub block_rules :
    Block-F (Bool → Faults) Faults (Outlined Part) (Bool → Faults) Faults
    (Bool → Part) Faults Faults
    → Bool → Part
block_rules b = statements b.stats

abbrev pub body_rules :
    Body-F (Bool → Faults) Faults (Outlined Part) (Bool → Faults) Faults (Bool → Part) Faults Faults
    → Faults
body_rules b scope =
    or_next (all_declared 0 b.params (inside b.vararg scope))
    ((b.block false).faults (with_names (map variable b.params) (inside b.vararg scope)))

abbrev pub branch_rules :
    Branch-F (Bool → Faults) Faults (Outlined Part) (Bool → Faults) Faults
    (Bool → Part) Faults Faults
    → Faults
branch_rules b = both (b.condition false) (b.block false).faults

-- ---- a script

abbrev pub expr_faults : Expr → Bool → Faults
expr_faults =
    fold-Expr (Bool → Faults) Faults (Outlined Part) (Bool → Faults) Faults
    (Bool → Part) Faults Faults
    kind_rules field_rules stat_rules expr_rules pair_rules block_rules body_rules branch_rules

abbrev pub pair_faults : Pair → Faults
pair_faults =
    fold-Pair (Bool → Faults) Faults (Outlined Part) (Bool → Faults) Faults
    (Bool → Part) Faults Faults
    kind_rules field_rules stat_rules expr_rules pair_rules block_rules body_rules branch_rules

abbrev pub field_faults : Field → Faults
field_faults =
    fold-Field (Bool → Faults) Faults (Outlined Part) (Bool → Faults) Faults
    (Bool → Part) Faults Faults
    kind_rules field_rules stat_rules expr_rules pair_rules block_rules body_rules branch_rules

abbrev pub stat_part : Stat → Outlined Part
stat_part =
    fold-Stat (Bool → Faults) Faults (Outlined Part) (Bool → Faults) Faults
    (Bool → Part) Faults Faults
    kind_rules field_rules stat_rules expr_rules pair_rules block_rules body_rules branch_rules

abbrev pub block_part : Block → Bool → Part
block_part =
    fold-Block (Bool → Faults) Faults (Outlined Part) (Bool → Faults) Faults
    (Bool → Part) Faults Faults
    kind_rules field_rules stat_rules expr_rules pair_rules block_rules body_rules branch_rules

abbrev pub body_faults : Body → Faults
body_faults =
    fold-Body (Bool → Faults) Faults (Outlined Part) (Bool → Faults) Faults
    (Bool → Part) Faults Faults
    kind_rules field_rules stat_rules expr_rules pair_rules block_rules body_rules branch_rules

abbrev pub branch_faults : Branch → Faults
branch_faults =
    fold-Branch (Bool → Faults) Faults (Outlined Part) (Bool → Faults) Faults
    (Bool → Part) Faults Faults
    kind_rules field_rules stat_rules expr_rules pair_rules block_rules body_rules branch_rules

-- the main body takes `...` and stands in no loop
abbrev pub main_scope : Scope
main_scope = record {
  names = [];
  labels = [];
  blocks = [];
  outer_names = 0;
  outer_labels = 0;
  outer_blocks = 0;
  vararg = true;
  in_loop = false;
}

-- the first place of a script that breaks a rule
abbrev pub broken : Tree → Option ScopeFault
broken tree = (block_part tree.block false).faults main_scope

-- ---- what the walk ensures, unless memory runs out

abbrev pub named_local : Local → Bytes × Bool
named_local l = (l.name, l.constant)

abbrev pub scope_at : List (Bytes × Bool) → List Bytes → List OpenBlock → FunctionScope → Scope
scope_at names labels blocks function = record {
  names = names;
  labels = labels;
  blocks = blocks;
  outer_names = function.start;
  outer_labels = function.labels;
  outer_blocks = function.blocks;
  vararg = function.vararg;
  in_loop = function.in_loop;
}

abbrev pub scope_of : Survey → Scope
scope_of s = scope_at (map named_local s.locals) s.labels s.blocks s.function

-- a result succeeds only where no rule is broken, and else tells the first one, unless memory ran
-- out
abbrev pub Tells : {X : Type 0} → Option ScopeFault → Result X ScopeFault → Type 0
Tells first (Ok x) = first ≡ None
Tells first (Err f) = f ≢ fault.Memory → first ≡ Some f

-- the local at a place is `<const>`
abbrev pub const_of : Option Local → Bool
const_of None = false
const_of (Some l) = l.constant

abbrev pub referred : ℕ → Place → Bool → Survey → Option ScopeFault
referred at p is_target s =
    if is_target && const_of (slice_get s.locals at) then Some (fault.ConstAssigned p) else None
