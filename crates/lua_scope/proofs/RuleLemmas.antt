-- The last local of a name, among the names that are visible, and what holds after each part of a tree.
use Rattle.std.proofs.Common.{◌≡◌, ◌∙◌, refl, ap, sym, subst, ℕ, zero, suc, ◌+◌, ◌<◌, get_or, drop, add-one, Bool, true, false, List, [], ◌∷◌, ◌++◌, length, map, take, Option, Some, None, slice_get, if◌then◌else◌, arith}
use Rattle.std.proofs.lemmas.List.{append_assoc, append-nil}
use Rattle.std.proofs.Math.Seq.{take-append_seam, drop-cons}
use Rattle.std.proofs.Math.ListN.{length-map}
use Rattle.std.specs.Option.{option_map}
use Rattle.std.specs.Str.{bytes_eq}
use Rattle.lua_tree.specs.declared.expr.ExprKind.TheOpen.{Stat-F}
use Rattle.lua_tree.specs.declared.expr.ExprKind.TheFolds.{fold-roll-Stat, fold-roll-Block, map-Stat}
use Rattle.lua_tree.specs.declared.expr.ExprKind.{ExprKind, fold-ExprKind}
use Rattle.lua_tree.specs.declared.expr.Expr.{Expr, the_lemmas}
use Rattle.lua_tree.specs.declared.stat.Stat.TheVariants as st
use Rattle.lua_tree.specs.declared.expr.Field.{Field}
use Rattle.lua_tree.specs.declared.expr.Pair.{Pair}
use Rattle.lua_tree.specs.declared.stat.Body.{Body}
use Rattle.lua_tree.specs.declared.stat.Branch.{Branch}
use Rattle.lua_tree.specs.declared.stat.Stat.{Stat, out-Stat, roll-out-Stat}
use Rattle.lua_tree.specs.declared.stat.Block.{Block, out-Block, roll-out-Block}
use Rattle.lua_scope.specs.declared.labels.OpenBlock.{OpenBlock}
use Rattle.lua_scope.specs.declared.scopes.BlockScope.{BlockScope}
use Rattle.lua_scope.specs.declared.scopes.Local.{Local}
use Rattle.lua_scope.specs.declared.survey.Survey.{Survey}
use Rattle.lua_scope.specs.Labels.{Outline, Outlined, outline_of}
use Rattle.lua_scope.specs.Survey.{Step, opened, begun, ended}
use Rattle.lua_scope.specs.Visible.{or_else, last_named_from, last_named}
use Rattle.lua_scope.specs.Walk as walk
use Rattle.lua_scope.specs.Walk.{each, in_stat, in_block}
use Rattle.lua_scope.specs.Rules.{Bytes, Scope, Faults, Part, stats, statements, stat_part, block_part, expr_faults, pair_faults, field_faults, body_faults, branch_faults, one_rules, kind_rules, field_rules, stat_rules, expr_rules, pair_rules, block_rules, body_rules, branch_rules, or_next, with_name, with_names, with_label, with_block, variable, local, scope_at, scope_of, or_first, last_const, or_false, named_local, const_of}
use Rattle.lua_scope.proofs.OutlineLemmas.{outlines_found, outlines_ruled}

-- the same place, counted from the head
place_of : Bytes → List Local → Option ℕ
place_of name [] = None
place_of name (l ∷ ls) = or_else (option_map suc (place_of name ls)) (if bytes_eq l.name name then Some 0 else None)

shifted : (at : ℕ) (o : Option ℕ) (b : Bool)
    → or_else (option_map (λ i. suc at + i) o) (if b then Some at else None) ≡ option_map (λ i. at + i) (or_else (option_map suc o) (if b then Some 0 else None))
shifted at None true = ap Some (omega arith)
shifted at None false = refl
shifted at (Some i) b = ap Some (omega arith)

place_from : (at : ℕ) (name : Bytes) (ls : List Local) → last_named_from at name ls ≡ option_map (λ i. at + i) (place_of name ls)
unfolding place_of
place_from at name [] = refl
place_from at name (l ∷ ls) =
    ap (λ o. or_else o (if bytes_eq l.name name then Some at else None)) (place_from (suc at) name ls)
    ∙ shifted at (place_of name ls) (bytes_eq l.name name)

const_at : Option ℕ → List Local → Option Bool
const_at None ls = None
const_at (Some i) ls = option_map (λ l. l.constant) (slice_get ls i)

-- a place that is found is in the list
within : (ls : List Local) → Option ℕ → Type 0
within ls None = Unit {0}
within ls (Some i) = (l : Local) × (slice_get ls i ≡ Some l)

place_is : (name : Bytes) (ls : List Local) → (last_const name (map named_local ls) ≡ const_at (place_of name ls) ls) × within ls (place_of name ls)
unfolding place_of const_at within
place_is name [] = (refl, tt)
place_is name (l ∷ ls) = by (last_const name (map named_local ls)) (place_of name ls) (bytes_eq l.name name) (place_is name ls)
  where
    by : (c : Option Bool) (o : Option ℕ) (b : Bool) → (c ≡ const_at o ls) × within ls o
        → (or_first c (if b then Some l.constant else None) ≡ const_at (or_else (option_map suc o) (if b then Some 0 else None)) (l ∷ ls))
        × within (l ∷ ls) (or_else (option_map suc o) (if b then Some 0 else None))
    by c None true h = (ap (λ x. or_first x (Some l.constant)) h.0, (l, refl))
    by c None false h = (ap (λ x. or_first x None) h.0, tt)
    by c (Some i) b h =
        let there : c ≡ Some (h.1).0.constant = h.0 ∙ ap (option_map (λ l. l.constant)) (h.1).1 in
        (ap (λ x. or_first x (if b then Some l.constant else None)) there ∙ sym (ap (option_map (λ l. l.constant)) (h.1).1), h.1)

zero_plus : (o : Option ℕ) → option_map (λ i. 0 + i) o ≡ o
zero_plus None = refl
zero_plus (Some i) = ap Some (omega arith)

last_is : (name : Bytes) (ls : List Local) → last_named name ls ≡ place_of name ls
last_is name ls = place_from 0 name ls ∙ zero_plus (place_of name ls)

const_of_place : (name : Bytes) (ls : List Local) (o : Option ℕ) → o ≡ last_named name ls → last_const name (map named_local ls) ≡ const_at o ls
const_of_place name ls o at = (place_is name ls).0 ∙ ap (λ p. const_at p ls) (sym (at ∙ last_is name ls))

pub const_none : (name : Bytes) (ls : List Local) → None ≡ last_named name ls → or_false (last_const name (map named_local ls)) ≡ false
unfolding const_at
const_none name ls at = ap or_false (const_of_place name ls None at)

const_there : (o : Option Local) → or_false (option_map (λ l. l.constant) o) ≡ const_of o
const_there None = refl
const_there (Some l) = refl

pub const_some : (name : Bytes) (ls : List Local) (at : ℕ) → Some at ≡ last_named name ls → or_false (last_const name (map named_local ls)) ≡ const_of (slice_get ls at)
unfolding const_at
const_some name ls at is = ap or_false (const_of_place name ls (Some at) is) ∙ const_there (slice_get ls at)

pub ruleset name_rules = (const_none, const_some)

-- ---- scopes

-- more is visible, passed and open at a place than at another
pub record Extends (a b : Scope) : Type 0 where
  pub names : List (Bytes × Bool)
  pub labels : List Bytes
  pub blocks : List OpenBlock
  pub more_names : b.names ≡ a.names ++ names
  pub more_labels : b.labels ≡ a.labels ++ labels
  pub more_blocks : b.blocks ≡ a.blocks ++ blocks

pub extends_both : (a b c : Scope) → Extends a b → Extends b c → Extends a c
extends_both a b c p q = record {
  names = p.names ++ q.names;
  labels = p.labels ++ q.labels;
  blocks = p.blocks ++ q.blocks;
  more_names = q.more_names ∙ ap (λ l. l ++ q.names) p.more_names ∙ append_assoc a.names p.names q.names;
  more_labels = q.more_labels ∙ ap (λ l. l ++ q.labels) p.more_labels ∙ append_assoc a.labels p.labels q.labels;
  more_blocks = q.more_blocks ∙ ap (λ l. l ++ q.blocks) p.more_blocks ∙ append_assoc a.blocks p.blocks q.blocks;
}

pub extends_same : (a b : Scope) → b.names ≡ a.names → b.labels ≡ a.labels → b.blocks ≡ a.blocks → Extends a b
extends_same a b n l k = record {
  names = [];
  labels = [];
  blocks = [];
  more_names = n ∙ sym (append-nil a.names);
  more_labels = l ∙ sym (append-nil a.labels);
  more_blocks = k ∙ sym (append-nil a.blocks);
}

pub extends_is : (a b : Scope) → b ≡ a → Extends a b
extends_is a b e = extends_same a b (ap (λ x. x.names) e) (ap (λ x. x.labels) e) (ap (λ x. x.blocks) e)

pub extends_name : (n : Bytes × Bool) (a : Scope) → Extends a (with_name n a)
extends_name n a = record { names = n ∷ []; labels = []; blocks = []; more_names = refl; more_labels = sym (append-nil a.labels); more_blocks = sym (append-nil a.blocks) }

pub extends_names : (ns : List (Bytes × Bool)) (a : Scope) → Extends a (with_names ns a)
extends_names [] a = extends_same a a refl refl refl
extends_names (n ∷ ns) a = extends_both a (with_name n a) (with_names ns (with_name n a)) (extends_name n a) (extends_names ns (with_name n a))

pub extends_label : (n : Bytes) (a : Scope) → Extends a (with_label n a)
extends_label n a = record { names = []; labels = n ∷ []; blocks = []; more_names = sym (append-nil a.names); more_labels = refl; more_blocks = sym (append-nil a.blocks) }

pub extends_block : (r : Bool) (os : List Outline) (a : Scope) → Extends a (with_block r os a)
extends_block r os a = record { names = []; labels = []; blocks = _ ∷ []; more_names = sym (append-nil a.names); more_labels = sym (append-nil a.labels); more_blocks = refl }

-- after a statement
stat_case : (z : Stat-F (Bool → Faults) Faults (Outlined Part) (Bool → Faults) Faults (Bool → Part) Faults Faults) (a : Scope) → Extends a ((one_rules z).after a)
stat_case (Stat-F.Local ns es) a = extends_names (map local ns) a
stat_case (Stat-F.Assign ts es) a = extends_same a a refl refl refl
stat_case (Stat-F.«Stat::Call» e) a = extends_same a a refl refl refl
stat_case (Stat-F.Do b) a = extends_same a a refl refl refl
stat_case (Stat-F.While e b) a = extends_same a a refl refl refl
stat_case (Stat-F.Repeat b e) a = extends_same a a refl refl refl
stat_case (Stat-F.If bs b) a = extends_same a a refl refl refl
stat_case (Stat-F.ForNum n p from to by b) a = extends_same a a refl refl refl
stat_case (Stat-F.ForIn ns es b) a = extends_same a a refl refl refl
stat_case (Stat-F.LocalFunction n p b) a = extends_name (variable (n, p)) a
stat_case (Stat-F.Return es) a = extends_same a a refl refl refl
stat_case (Stat-F.Break p) a = extends_same a a refl refl refl
stat_case (Stat-F.Goto n p) a = extends_same a a refl refl refl
stat_case (Stat-F.Label n p) a = extends_label n a

abbrev layer_of : Stat → Stat-F (Bool → Faults) Faults (Outlined Part) (Bool → Faults) Faults (Bool → Part) Faults Faults
layer_of s = map-Stat ExprKind Field Stat Expr Pair Block Body Branch (Bool → Faults) Faults (Outlined Part) (Bool → Faults) Faults (Bool → Part) Faults Faults
    (fold-ExprKind (Bool → Faults) Faults (Outlined Part) (Bool → Faults) Faults (Bool → Part) Faults Faults kind_rules field_rules stat_rules expr_rules pair_rules block_rules body_rules branch_rules)
    field_faults stat_part expr_faults pair_faults block_part body_faults branch_faults (out-Stat s)

stat_is : (s : Stat) → stat_part s ≡ stat_rules (layer_of s)
stat_is s = ap stat_part (sym (roll-out-Stat s)) ∙ fold-roll-Stat (Bool → Faults) Faults (Outlined Part) (Bool → Faults) Faults (Bool → Part) Faults Faults kind_rules field_rules stat_rules expr_rules pair_rules block_rules body_rules branch_rules (out-Stat s)

stat_extends : (s : Stat) (a : Scope) → Extends a ((stat_part s).what.after a)
stat_extends s a = subst (λ (x : Outlined Part). Extends a (x.what.after a)) (sym (stat_is s)) (stat_case (layer_of s) a)

abbrev parts_of : List Stat → List Part
parts_of all = map (λ x. x.what) (map stat_part all)

pub stats_extend : (all : List Stat) (a : Scope) → Extends a ((stats (parts_of all)).after a)
stats_extend [] a = extends_same a a refl refl refl
stats_extend (s ∷ all) a = extends_both a ((stat_part s).what.after a) _ (stat_extends s a) (stats_extend all ((stat_part s).what.after a))

-- after the statements of a block
abbrev statements_of : Block → Bool → Part
statements_of b = statements (map stat_part (out-Block b).stats)

block_is : (b : Block) → block_part b ≡ statements_of b
block_is b = ap block_part (sym (roll-out-Block b)) ∙ fold-roll-Block (Bool → Faults) Faults (Outlined Part) (Bool → Faults) Faults (Bool → Part) Faults Faults kind_rules field_rules stat_rules expr_rules pair_rules block_rules body_rules branch_rules (out-Block b)

abbrev opened_scope : Block → Bool → Scope → Scope
opened_scope b r a = with_block r (map (λ x. x.outline) (map stat_part (out-Block b).stats)) a

statements_extend : (b : Block) (r : Bool) (a : Scope) → Extends a ((statements_of b r).after a)
statements_extend b r a =
    extends_both a (opened_scope b r a) ((statements_of b r).after a)
    (extends_block r (map (λ x. x.outline) (map stat_part (out-Block b).stats)) a)
    (stats_extend (out-Block b).stats (opened_scope b r a))

pub block_extends : (b : Block) (r : Bool) (a : Scope) → Extends a ((block_part b r).after a)
block_extends b r a = subst (λ (x : Bool → Part). Extends a ((x r).after a)) (sym (block_is b)) (statements_extend b r a)

map-take : (n : ℕ) (ls : List Local) → map named_local (take n ls) ≡ take n (map named_local ls)
map-take zero [] = refl
map-take (suc n) [] = refl
map-take zero (l ∷ ls) = refl
map-take (suc n) (l ∷ ls) = ap (λ r. named_local l ∷ r) (map-take n ls)

-- what a block adds is gone after its end
pub closed_scope : (s t : Survey) → Extends (scope_of s) (scope_of t) → scope_of (ended (begun s) t) ≡ scope_of s
closed_scope s t e =
    ap (λ ns. scope_at ns (take (length s.labels) t.labels) (take (length s.blocks) t.blocks) s.function)
    (map-take (length s.locals) t.locals
    ∙ ap (take (length s.locals)) e.more_names
    ∙ ap (λ n. take n (map named_local s.locals ++ e.names)) (sym (length-map s.locals named_local))
    ∙ take-append_seam (map named_local s.locals) e.names)
    ∙ ap (λ ls. scope_at (map named_local s.locals) ls (take (length s.blocks) t.blocks) s.function)
    (ap (take (length s.labels)) e.more_labels ∙ take-append_seam s.labels e.labels)
    ∙ ap (λ bs. scope_at (map named_local s.locals) s.labels bs s.function)
    (ap (take (length s.blocks)) e.more_blocks ∙ take-append_seam s.blocks e.blocks)

-- ---- one more statement of a block

one_dropped : {X : Type 0} (all : List X) (i : ℕ) (x : X) → i < length all → x ≡ get_or all i x → drop i all ≡ x ∷ drop (i + 1) all
one_dropped all i x lt is = rw add-one (drop-cons all i x lt ∙ ap (λ y. y ∷ drop (suc i) all) (sym is))

abbrev steps_of : List Stat → List Step
steps_of all = map (λ x. x.what) (map in_stat all)

pub found_step : (all : List Stat) (i : ℕ) (x : Stat) (s t : Survey) → i < length all → x ≡ get_or all i x → t ≡ (in_stat x).what s
    → each (steps_of (drop i all)) s ≡ each (steps_of (drop (i + 1) all)) t
found_step all i x s t lt is one =
    ap (λ l. each (steps_of l) s) (one_dropped all i x lt is) ∙ ap (each (steps_of (drop (i + 1) all))) (sym one)

pub fault_step : (all : List Stat) (i : ℕ) (x : Stat) (s t : Scope) → i < length all → x ≡ get_or all i x → (stat_part x).what.faults s ≡ None → t ≡ (stat_part x).what.after s
    → (stats (parts_of (drop i all))).faults s ≡ (stats (parts_of (drop (i + 1) all))).faults t
fault_step all i x s t lt is none scope =
    ap (λ l. (stats (parts_of l)).faults s) (one_dropped all i x lt is)
    ∙ ap (λ o. or_next o ((stats (parts_of (drop (i + 1) all))).faults ((stat_part x).what.after s))) none
    ∙ ap ((stats (parts_of (drop (i + 1) all))).faults) (sym scope)

pub scope_step : (all : List Stat) (i : ℕ) (x : Stat) (s t : Scope) → i < length all → x ≡ get_or all i x → t ≡ (stat_part x).what.after s
    → (stats (parts_of (drop i all))).after s ≡ (stats (parts_of (drop (i + 1) all))).after t
scope_step all i x s t lt is scope =
    ap (λ l. (stats (parts_of l)).after s) (one_dropped all i x lt is)
    ∙ ap ((stats (parts_of (drop (i + 1) all))).after) (sym scope)

-- ---- a block, by its statements

pub block_found : (b : Block) (r : Bool) (ss : List Stat) (s t : Survey) → ss ≡ (out-Block b).stats → t ≡ opened r (map outline_of ss) s
    → each (steps_of ss) t ≡ in_block b r s
block_found b r ss s t all begins =
    ap (each (steps_of ss)) (begins ∙ ap (λ os. opened r os s) (sym (outlines_found ss)))
    ∙ ap (λ l. walk.statements (map in_stat l) r s) all
    ∙ sym (ap (λ f. f r s) (ap in_block (sym (roll-out-Block b)) ∙ fold-roll-Block Step Step (Outlined Step) Step Step (Bool → Step) Step Step walk.kind_step walk.field_step walk.stat_step walk.expr_step walk.pair_step walk.block_step walk.body_step walk.branch_step (out-Block b)))

pub block_fault : (b : Block) (r : Bool) (ss : List Stat) (a c : Scope) → ss ≡ (out-Block b).stats → c ≡ with_block r (map outline_of ss) a
    → (stats (parts_of ss)).faults c ≡ (block_part b r).faults a
block_fault b r ss a c all begins =
    ap ((stats (parts_of ss)).faults) (begins ∙ ap (λ os. with_block r os a) (sym (outlines_ruled ss)))
    ∙ ap (λ l. (statements (map stat_part l) r).faults a) all
    ∙ sym (ap (λ (f : Bool → Part). (f r).faults a) (block_is b))

pub block_scope : (b : Block) (r : Bool) (ss : List Stat) (a c : Scope) → ss ≡ (out-Block b).stats → c ≡ with_block r (map outline_of ss) a
    → (stats (parts_of ss)).after c ≡ (block_part b r).after a
block_scope b r ss a c all begins =
    ap ((stats (parts_of ss)).after) (begins ∙ ap (λ os. with_block r os a) (sym (outlines_ruled ss)))
    ∙ ap (λ l. (statements (map stat_part l) r).after a) all
    ∙ sym (ap (λ (f : Bool → Part). (f r).after a) (block_is b))

pub repeat_after : (b : Block) (e : Expr) (a : Scope) → (stat_part (st.Repeat b e)).what.after a ≡ a
repeat_after b e a = search the_lemmas

-- what a block adds is gone after its end, whatever stands in its place
pub ended_scope : (b : BlockScope) (s t : Survey) → scope_of t ≡ scope_of s → scope_of (ended b t) ≡ scope_of (ended b s)
ended_scope b s t e =
    ap (λ ns. scope_at ns (take b.labels t.labels) (take b.blocks t.blocks) b.function) (map-take b.locals t.locals)
    ∙ ap (λ (x : Scope). scope_at (take b.locals x.names) (take b.labels x.labels) (take b.blocks x.blocks) b.function) e
    ∙ ap (λ ns. scope_at ns (take b.labels s.labels) (take b.blocks s.blocks) b.function) (sym (map-take b.locals s.locals))
