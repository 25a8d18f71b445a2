-- The labels of a block.
use Rattle.std.proofs.Common.{◌≡◌, ◌∙◌, refl, ap, sym, ℕ, suc, ◌+◌, ◌-◌, ◌<◌, ◌≤◌, Bool, true, false, List, [], ◌∷◌, ◌++◌, length, map, take, get_or, arith}
use Rattle.std.proofs.lemmas.List.{take_more, length-take}
use Rattle.lua_tree.specs.declared.stat.Stat.{Stat}
use Rattle.lua_scope.specs.Labels.{Outline, outline_of, is_label, one_before, before_last_labels}

-- a label at the end
plain_label : (os : List Outline) (o : Outline) → is_label o ≡ true → before_last_labels (os ++ o ∷ []) ≡ before_last_labels os
plain_label [] o is = ap (λ b. one_before b 0) is
plain_label (p ∷ os) o is = ap (one_before (is_label p)) (plain_label os o is)

-- another statement at the end
plain_other : (os : List Outline) (o : Outline) → is_label o ≡ false → before_last_labels (os ++ o ∷ []) ≡ suc (length os)
plain_other [] o is = ap (λ b. one_before b 0) is
plain_other (p ∷ os) o is = ap (one_before (is_label p)) (plain_other os o is) ∙ by (is_label p)
  where
    by : (b : Bool) → one_before b (suc (length os)) ≡ suc (suc (length os))
    by true = refl
    by false = refl

one_less : (at : ℕ) → 0 < at → at ≡ (at - 1) + 1
one_less at h = omega arith

last_of_first : (ss : List Stat) (at : ℕ) (s : Stat) → 0 < at → at ≤ length ss → s ≡ get_or ss (at - 1) s → take at ss ≡ take (at - 1) ss ++ s ∷ []
last_of_first ss at s some within is = ap (λ n. take n ss) (one_less at some) ∙ take_more ss (at - 1) s (omega arith) ∙ ap (λ x. take (at - 1) ss ++ x ∷ []) (sym is)

outlines_more : (ss : List Stat) (s : Stat) → map outline_of (ss ++ s ∷ []) ≡ map outline_of ss ++ outline_of s ∷ []
outlines_more [] s = refl
outlines_more (x ∷ ss) s = ap (λ os. outline_of x ∷ os) (outlines_more ss s)

length_outlines : (ss : List Stat) → length (map outline_of ss) ≡ length ss
length_outlines [] = refl
length_outlines (x ∷ ss) = ap suc (length_outlines ss)

pub plain_here : (ss : List Stat) (at : ℕ) (s : Stat) → 0 < at → at ≤ length ss → s ≡ get_or ss (at - 1) s → is_label (outline_of s) ≡ false
    → before_last_labels (map outline_of (take at ss)) ≡ at
plain_here ss at s some within is other =
    ap (λ xs. before_last_labels (map outline_of xs)) (last_of_first ss at s some within is)
    ∙ ap before_last_labels (outlines_more (take (at - 1) ss) s)
    ∙ plain_other (map outline_of (take (at - 1) ss)) (outline_of s) other
    ∙ ap suc (length_outlines (take (at - 1) ss))
    ∙ omega (arith, length-take (at - 1) ss)

pub plain_before : (ss : List Stat) (at : ℕ) (s : Stat) → 0 < at → at ≤ length ss → s ≡ get_or ss (at - 1) s → is_label (outline_of s) ≡ true
    → before_last_labels (map outline_of (take at ss)) ≡ before_last_labels (map outline_of (take (at - 1) ss))
plain_before ss at s some within is label =
    ap (λ xs. before_last_labels (map outline_of xs)) (last_of_first ss at s some within is)
    ∙ ap before_last_labels (outlines_more (take (at - 1) ss) s)
    ∙ plain_label (map outline_of (take (at - 1) ss)) (outline_of s) label

pub ruleset plain_rules = (plain_here, plain_before)
