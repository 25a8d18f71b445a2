-- The program of a tree, by cases of its parts: each name, local, body and text is replaced as
-- `Build` says.
use Rattle.std.specs.Prelude.{ℕ, Bool, true, false, List, [], ◌∷◌, length, map, Option, Some, None}
use Rattle.lua_tokens.specs.declared.place.Place.{Place}
use Rattle.lua_tree.specs.declared.expr.Expr.{Expr, fold-Expr}
use Rattle.lua_tree.specs.declared.expr.Pair.{Pair, fold-Pair}
use Rattle.lua_tree.specs.declared.expr.Field.{Field, fold-Field}
use Rattle.lua_tree.specs.declared.expr.ExprKind.{ExprKind, fold-ExprKind}
use Rattle.lua_tree.specs.declared.expr.ExprKind.TheOpen.{ExprKind-F, Field-F, Stat-F, Expr-F, Pair-F, Block-F, Body-F, Branch-F}
use Rattle.lua_tree.specs.declared.stat.Stat.{Stat, fold-Stat}
use Rattle.lua_tree.specs.declared.stat.Body.{Body, fold-Body}
use Rattle.lua_tree.specs.declared.stat.Block.{Block, fold-Block}
use Rattle.lua_tree.specs.declared.stat.Branch.{Branch, fold-Branch}
use Rattle.lua_tree.specs.declared.stat.Tree.{Tree}
use Rattle.lua_scope.specs.declared.binding.Bindings.{Bindings}
use Rattle.lua_scope.specs.declared.build.BlockFrame.{BlockFrame}
use Rattle.lua_scope.specs.Labels.{Outlined, outline}
use Rattle.lua_program.specs.declared.program.Program.{Program}
use Rattle.lua_program.specs.declared.expr.Ref.{Ref}
use Rattle.lua_program.specs.Refs.{is_cell}
use Rattle.lua_program.specs.declared.expr.RExpr.{RExpr, roll-RExpr}
use Rattle.lua_program.specs.declared.expr.RExprKind.{RExprKind}
use Rattle.lua_program.specs.declared.expr.RExprKind.TheVariants as x
use Rattle.lua_program.specs.declared.expr.RPair.{RPair, roll-RPair}
use Rattle.lua_program.specs.declared.expr.RField.{RField}
use Rattle.lua_program.specs.declared.expr.RField.TheVariants as f
use Rattle.lua_program.specs.declared.stat.RStat.{RStat}
use Rattle.lua_program.specs.declared.stat.RStat.TheVariants as s
use Rattle.lua_program.specs.declared.stat.RBranch.{RBranch, roll-RBranch}
use Rattle.lua_scope.specs.Build.{Make, text, placed, name, declare, opened, ended, with_labels, target, jump, entered, exited, ups_of, start}

abbrev pub Bytes : Type 0
Bytes = List ℕ

-- ---- one part after another

abbrev pub give : {X : Type 0} → X → Make X
give x b = (x, b)

abbrev pub bind : {X Y : Type 0} → Make X → (X → Make Y) → Make Y
bind m k b = k (m b).0 (m b).1

abbrev pub all : {X : Type 0} → List (Make X) → Make (List X)
all [] b = ([], b)
all (m ∷ ms) b = ((m b).0 ∷ (all ms (m b).1).0, (all ms (m b).1).1)

abbrev pub perhaps : {X : Type 0} → Option (Make X) → Make (Option X)
perhaps None b = (None, b)
perhaps (Some m) b = (Some (m b).0, (m b).1)

-- what is declared in a block is visible to its end
abbrev pub nested : {X : Type 0} → Make X → Make X
nested m b = ((m b).0, ended (opened b) (m b).1)

abbrev pub perhaps_nested : {X : Type 0} → Option (Bool → Make X) → Make (Option X)
perhaps_nested None b = (None, b)
perhaps_nested (Some m) b = (Some (nested (m false) b).0, (nested (m false) b).1)

-- the statements of a block, and whether it is the body of a `repeat`
abbrev pub statements : {X : Type 0} → List (Outlined (Make X)) → Bool → Make (List X)
statements ss is_repeat b =
    all (map (λ x. x.what) ss) (with_labels is_repeat (map (λ x. x.outline) ss) b)

-- a goto, with its target
abbrev pub jump_made : Bytes → Place → Make RStat
jump_made n p b = (s.Goto (jump n p (target n b)), b)

-- ---- declared names

abbrev pub text_made : Bytes → Make RExprKind
text_made t = bind (text t) (λ at. give (x.Text t at))

module _ (found : Bindings) where
  abbrev pub variables : List (Bytes × Place) → Make (List Ref)
  variables [] b = ([], b)
  variables (n ∷ ns) b =
      let one = declare found b in
      let more = variables ns one.1 in
      (one.0 ∷ more.0, more.1)

  abbrev pub cells : List (Bytes × Place) → Make (List Bool)
  cells [] b = ([], b)
  cells (n ∷ ns) b =
      let one = declare found b in
      let more = cells ns one.1 in
      (is_cell one.0 ∷ more.0, more.1)

  abbrev pub locals : List (Bytes × Bool × Place) → Make (List (Ref × Bool))
  locals [] b = ([], b)
  locals (n ∷ ns) b =
      let one = declare found b in
      let more = locals ns one.1 in
      ((one.0, n.1) ∷ more.0, more.1)

  -- a body, with its number
  abbrev pub finished : BlockFrame → List Bool → Bool → List RStat → ℕ → Make ℕ
  finished o cs vararg ss line b = exited o (record {
    params = length cs;
    cells = cs;
    vararg = vararg;
    slots = b.frame.slots;
    ups = ups_of found o.function b.frame.body;
    body = ss;
    line = line;
  }) b

  -- the body of a loop over numbers, with its variable
  abbrev pub counted : Make (List RStat) → Make (Ref × List RStat)
  counted m = nested (bind (declare found) (λ r. bind m (λ ss. give (r, ss))))

  abbrev pub name_made : Bytes → Place → Make RExprKind
  name_made n p = bind (name found n) (λ r. give (x.Name r p))

  -- ---- calls and statements of several parts

  abbrev pub called : RExpr → List (Make RExpr) → Make RExprKind
  called e es = bind (all es) (λ es. give (x.Call e es))

  abbrev pub method : RExpr → Bytes → List (Make RExpr) → Make RExprKind
  method e n es = bind (placed n) (λ t. bind (all es) (λ es. give (x.Method e t es)))

  abbrev pub local_made : List (Bytes × Bool × Place) → List (Make RExpr) → Make RStat
  local_made ns es = bind (all es) (λ es. bind (locals ns) (λ ls. give (s.Local ls es)))

  abbrev pub local_function : Make ℕ → Make RStat
  local_function b = bind (declare found) (λ r. bind b (λ at. give (s.LocalFunction r at)))

  abbrev pub while_body : RExpr → (Bool → Make (List RStat)) → Make RStat
  while_body e b = bind (nested (b false)) (λ ss. give (s.While e ss))

  -- the locals of the body are visible in the condition
  abbrev pub until : BlockFrame → List RStat → Make RExpr → Make RStat
  until begun ss e b = (s.Repeat ss (e b).0, ended begun (e b).1)

  abbrev pub repeat_made : (Bool → Make (List RStat)) → Make RExpr → Make RStat
  repeat_made body e b = until (opened b) (body true b).0 e (body true b).1

  abbrev pub last_branch : List RBranch → Option (Bool → Make (List RStat)) → Make RStat
  last_branch bs b = bind (perhaps_nested b) (λ ss. give (s.If bs ss))

  abbrev pub number_body :
      RExpr → RExpr → Option RExpr → (Bool → Make (List RStat)) → Make RStat
  number_body from to by b =
      bind (counted (b false)) (λ made. give (s.ForNum made.0 from to by made.1))

  abbrev pub iterator_body :
      List (Bytes × Place) → List RExpr → (Bool → Make (List RStat)) → Make RStat
  iterator_body ns es b =
      nested (bind (variables ns) (λ rs. bind (b false) (λ ss. give (s.ForIn rs es ss))))

  -- ---- one layer of a tree

  abbrev pub kind_made :
      ExprKind-F (Make RExprKind) (Make RField) (Outlined (Make RStat)) (Make RExpr) (Make RPair)
      (Bool → Make (List RStat)) (Make ℕ) (Make RBranch)
      → Make RExprKind
  kind_made ExprKind-F.Nil = give x.Nil
  kind_made ExprKind-F.True = give x.True
  kind_made ExprKind-F.False = give x.False
  kind_made (ExprKind-F.Int n) = give (x.Int n)
  kind_made (ExprKind-F.Text t) = text_made t
  kind_made (ExprKind-F.Dots p) = give (x.Dots p)
  kind_made (ExprKind-F.Name n p) = name_made n p
  kind_made (ExprKind-F.Index two) = bind two (λ both. give (x.Index both))
  kind_made (ExprKind-F.«ExprKind::Call» e es) = bind e (λ e. called e es)
  kind_made (ExprKind-F.Method e n es) = bind e (λ e. method e n es)
  kind_made (ExprKind-F.Function b) = bind b (λ n. give (x.Function n))
  kind_made (ExprKind-F.Binary op two) = bind two (λ both. give (x.Binary op both))
  kind_made (ExprKind-F.Unary op e) = bind e (λ e. give (x.Unary op e))
  kind_made (ExprKind-F.And two) = bind two (λ both. give (x.And both))
  kind_made (ExprKind-F.Or two) = bind two (λ both. give (x.Or both))
  kind_made (ExprKind-F.Paren e) = bind e (λ e. give (x.Paren e))
  kind_made (ExprKind-F.Table fs) = bind (all fs) (λ fs. give (x.Table fs))

  abbrev pub field_made :
      Field-F (Make RExprKind) (Make RField) (Outlined (Make RStat)) (Make RExpr) (Make RPair)
      (Bool → Make (List RStat)) (Make ℕ) (Make RBranch)
      → Make RField
  field_made (Field-F.Item e) = bind e (λ e. give (f.Item e))
  field_made (Field-F.Named n e) = bind (text n) (λ at. bind e (λ e. give (f.Named n at e)))
  field_made (Field-F.Keyed k e) = bind k (λ k. bind e (λ e. give (f.Keyed k e)))

  abbrev pub one_made :
      Stat-F (Make RExprKind) (Make RField) (Outlined (Make RStat)) (Make RExpr) (Make RPair)
      (Bool → Make (List RStat)) (Make ℕ) (Make RBranch)
      → Make RStat
  one_made (Stat-F.Local ns es) = local_made ns es
  one_made (Stat-F.Assign ts es) = bind (all ts) (λ ts. bind (all es) (λ es. give (s.Assign ts es)))
  one_made (Stat-F.«Stat::Call» e) = bind e (λ e. give (s.Call e))
  one_made (Stat-F.Do b) = bind (nested (b false)) (λ ss. give (s.Do ss))
  one_made (Stat-F.While e b) = bind e (λ e. while_body e b)
  one_made (Stat-F.Repeat b e) = repeat_made b e
  one_made (Stat-F.If bs b) = bind (all bs) (λ bs. last_branch bs b)
  one_made (Stat-F.ForNum n p from to by b) =
      bind from (λ from. bind to (λ to. bind (perhaps by) (λ by. number_body from to by b)))
  one_made (Stat-F.ForIn ns es b) = bind (all es) (λ es. iterator_body ns es b)
  one_made (Stat-F.LocalFunction n p b) = local_function b
  one_made (Stat-F.Return es) = bind (all es) (λ es. give (s.Return es))
  one_made (Stat-F.Break p) = give (s.Break p)
  one_made (Stat-F.Goto n p) = jump_made n p
  one_made (Stat-F.Label n p) = give (s.Label (record { name = n; place = p }))

  abbrev pub stat_made :
      Stat-F (Make RExprKind) (Make RField) (Outlined (Make RStat)) (Make RExpr) (Make RPair)
      (Bool → Make (List RStat)) (Make ℕ) (Make RBranch)
      → Outlined (Make RStat)
  stat_made s = record { outline = outline s; what = one_made s }

  abbrev pub expr_made :
      Expr-F (Make RExprKind) (Make RField) (Outlined (Make RStat)) (Make RExpr) (Make RPair)
      (Bool → Make (List RStat)) (Make ℕ) (Make RBranch)
      → Make RExpr
  expr_made e = bind e.what (λ k. give (roll-RExpr (record { what = k; line = e.line })))

  abbrev pub pair_made :
      Pair-F (Make RExprKind) (Make RField) (Outlined (Make RStat)) (Make RExpr) (Make RPair)
      (Bool → Make (List RStat)) (Make ℕ) (Make RBranch)
      → Make RPair
  pair_made two =
      bind two.left (λ left. bind two.right (λ right. give
      (roll-RPair (record { left = left; right = right }))))

  abbrev pub block_made :
      Block-F (Make RExprKind) (Make RField) (Outlined (Make RStat)) (Make RExpr) (Make RPair)
      (Bool → Make (List RStat)) (Make ℕ) (Make RBranch)
      → Bool → Make (List RStat)
  block_made b = statements b.stats

  abbrev pub body_made :
      Body-F (Make RExprKind) (Make RField) (Outlined (Make RStat)) (Make RExpr) (Make RPair)
      (Bool → Make (List RStat)) (Make ℕ) (Make RBranch)
      → Make ℕ
  body_made b =
      bind entered (λ o. bind (cells b.params)
      (λ cs. bind (b.block false) (λ ss. finished o cs b.vararg ss b.line)))

  abbrev pub branch_made :
      Branch-F (Make RExprKind) (Make RField) (Outlined (Make RStat)) (Make RExpr) (Make RPair)
      (Bool → Make (List RStat)) (Make ℕ) (Make RBranch)
      → Make RBranch
  branch_made b =
      bind b.condition (λ e. bind (nested (b.block false))
      (λ ss. give (roll-RBranch (record { condition = e; block = ss }))))

  -- ---- whole parts

  abbrev pub kind_of : ExprKind → Make RExprKind
  kind_of =
      fold-ExprKind (Make RExprKind) (Make RField) (Outlined (Make RStat)) (Make RExpr) (Make RPair)
      (Bool → Make (List RStat)) (Make ℕ) (Make RBranch)
      kind_made field_made stat_made expr_made pair_made block_made body_made branch_made

  abbrev pub expr_of : Expr → Make RExpr
  expr_of =
      fold-Expr (Make RExprKind) (Make RField) (Outlined (Make RStat)) (Make RExpr) (Make RPair)
      (Bool → Make (List RStat)) (Make ℕ) (Make RBranch)
      kind_made field_made stat_made expr_made pair_made block_made body_made branch_made

  abbrev pub pair_of : Pair → Make RPair
  pair_of =
      fold-Pair (Make RExprKind) (Make RField) (Outlined (Make RStat)) (Make RExpr) (Make RPair)
      (Bool → Make (List RStat)) (Make ℕ) (Make RBranch)
      kind_made field_made stat_made expr_made pair_made block_made body_made branch_made

  abbrev pub field_of : Field → Make RField
  field_of =
      fold-Field (Make RExprKind) (Make RField) (Outlined (Make RStat)) (Make RExpr) (Make RPair)
      (Bool → Make (List RStat)) (Make ℕ) (Make RBranch)
      kind_made field_made stat_made expr_made pair_made block_made body_made branch_made

  abbrev pub stat_of : Stat → Outlined (Make RStat)
  stat_of =
      fold-Stat (Make RExprKind) (Make RField) (Outlined (Make RStat)) (Make RExpr) (Make RPair)
      (Bool → Make (List RStat)) (Make ℕ) (Make RBranch)
      kind_made field_made stat_made expr_made pair_made block_made body_made branch_made

  abbrev pub block_of : Block → Bool → Make (List RStat)
  block_of =
      fold-Block (Make RExprKind) (Make RField) (Outlined (Make RStat)) (Make RExpr) (Make RPair)
      (Bool → Make (List RStat)) (Make ℕ) (Make RBranch)
      kind_made field_made stat_made expr_made pair_made block_made body_made branch_made

  abbrev pub body_of : Body → Make ℕ
  body_of =
      fold-Body (Make RExprKind) (Make RField) (Outlined (Make RStat)) (Make RExpr) (Make RPair)
      (Bool → Make (List RStat)) (Make ℕ) (Make RBranch)
      kind_made field_made stat_made expr_made pair_made block_made body_made branch_made

  abbrev pub branch_of : Branch → Make RBranch
  branch_of =
      fold-Branch (Make RExprKind) (Make RField) (Outlined (Make RStat)) (Make RExpr) (Make RPair)
      (Bool → Make (List RStat)) (Make ℕ) (Make RBranch)
      kind_made field_made stat_made expr_made pair_made block_made body_made branch_made

  -- the main body, which takes `...` and whose line is 1
  abbrev pub main_of : Tree → Make ℕ
  main_of tree =
      bind entered (λ o. bind (block_of tree.block false) (λ ss. finished o [] true ss 1))

  abbrev pub program_of : Bytes → Tree → Program
  program_of title tree =
      record {
        name = title;
        protos = (main_of tree start).1.protos;
        texts =
            (main_of tree start).1.texts;
      }
