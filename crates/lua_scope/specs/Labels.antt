-- Labels and the targets of gotos (manual, sections 3.3.4 and 3.5). A label is visible in its whole
-- block, in the blocks inside it too, but not in inner functions. A goto goes to the first label of
-- its name in the innermost block round it that has one.
use Rattle.std.specs.Prelude.{ℕ, zero, suc, ◌+◌, Bool, true, false, List, [], ◌∷◌, ◌++◌, length, nat_lt, if◌then◌else◌, Option, Some, None}
use Rattle.std.specs.Str.{bytes_eq}
use Rattle.lua_tree.specs.declared.expr.ExprKind.TheOpen.{Stat-F}
use Rattle.lua_tree.specs.declared.stat.Stat.{Stat, out-Stat}
use Rattle.lua_scope.specs.declared.labels.Label.{Label}
use Rattle.lua_scope.specs.declared.labels.OpenBlock.{OpenBlock}
use Rattle.lua_scope.specs.declared.labels.Target.{Target}

abbrev pub Bytes : Type 0
Bytes = List ℕ

-- ---- the statements of a block

-- what a statement is to the labels of its block: the label's name, where it is a label, and how
-- many locals it declares in the block
pub record Outline : Type 0 where
  pub label : Option Bytes
  pub declares : ℕ

abbrev pub outline : {K F S E P B Y R : Type 0} → Stat-F K F S E P B Y R → Outline
outline (Stat-F.Local names values) = record { label = None; declares = length names }
outline (Stat-F.LocalFunction name place body) = record { label = None; declares = 1 }
outline (Stat-F.Label name place) = record { label = Some name; declares = 0 }
outline s = record { label = None; declares = 0 }

abbrev pub outline_of : Stat → Outline
outline_of s = outline (out-Stat s)

-- what a definition by cases says of a statement, beside the statement's outline
pub record Outlined (X : Type 0) : Type 0 where
  pub outline : Outline
  pub what : X

abbrev pub has_label : Option Bytes → Bool
has_label None = false
has_label (Some name) = true

abbrev pub is_label : Outline → Bool
is_label o = has_label o.label

-- how many statements come before the labels with which a block ends
abbrev pub one_before : Bool → ℕ → ℕ
one_before true zero = 0
one_before is_label count = suc count

abbrev pub before_last_labels : List Outline → ℕ
before_last_labels [] = 0
before_last_labels (o ∷ os) = one_before (is_label o) (before_last_labels os)

-- ---- the labels of a block

abbrev pub noted : Option Bytes → ℕ → ℕ → List Label
noted None statement visible = []
noted (Some name) statement visible =
    record { name = name; statement = statement; visible = visible } ∷ []

-- Those from the statement of this number on, where so many locals are visible. At a label with
-- which the block ends only those are visible that were visible at the block's begin.
abbrev pub labels_from : ℕ → ℕ → ℕ → ℕ → List Outline → List Label
labels_from plain start statement visible [] = []
labels_from plain start statement visible (o ∷ os) =
    noted o.label statement (if nat_lt statement plain then visible else start)
    ++ labels_from plain start (suc statement) (visible + o.declares) os

-- In the body of a `repeat` its condition comes after the labels at the end, so that the locals are
-- visible there too.
abbrev pub labels_in : ℕ → Bool → List Outline → List Label
labels_in start is_repeat os =
    labels_from (if is_repeat then length os else before_last_labels os) start 0 start os

-- one more block is open, at whose begin so many locals are visible
abbrev pub opened : ℕ → Bool → List Outline → List OpenBlock → List OpenBlock
opened start is_repeat os blocks =
    blocks ++ record { start = start; labels = labels_in start is_repeat os } ∷ []

-- ---- the target of a goto

abbrev pub label_named : Bytes → List Label → Option Label
label_named name [] = None
label_named name (l ∷ ls) = if bytes_eq l.name name then Some l else label_named name ls

-- How many of a block's locals are visible at a place in it: of the blocks inside it the place
-- stands in these, and so many locals are visible there in all.
abbrev pub visible_in_block : ℕ → List OpenBlock → ℕ
visible_in_block visible [] = visible
visible_in_block visible (inner ∷ further) = inner.start

abbrev pub at_label : Option Label → ℕ → ℕ → Option Target
at_label None here leaves = None
at_label (Some l) here leaves =
    Some (record { leaves = leaves; statement = l.statement; into_local = nat_lt here l.visible })

abbrev pub or_outer : Option Target → Option Target → Option Target
or_outer None outer = outer
or_outer (Some inner) outer = Some inner

-- The target of a goto to this name, in these blocks of its function, from the outermost inwards:
-- that in an inner block where there is one, else the first label of the name in this block.
abbrev pub target_of : Bytes → ℕ → List OpenBlock → Option Target
target_of name visible [] = None
target_of name visible (block ∷ inner) =
    or_outer (target_of name visible inner)
    (at_label (label_named name block.labels) (visible_in_block visible inner) (length inner))
