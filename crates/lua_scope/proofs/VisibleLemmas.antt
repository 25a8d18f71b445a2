-- The last local of a name, in a list that ends in a local.
use Rattle.std.proofs.Common.{◌≡◌, ◌∙◌, refl, ap, sym, ℕ, suc, ◌+◌, ◌-◌, ◌<◌, ◌≤◌, true, false, List, [], ◌∷◌, ◌++◌, length, take, get_or, Option, Some, None, if◌then◌else◌, arith}
use Rattle.std.proofs.lemmas.List.{take_more, length-take}
use Rattle.std.specs.Str.{bytes_eq}
use Rattle.lua_scope.specs.declared.scopes.Local.{Local}
use Rattle.lua_scope.specs.Visible.{or_else, last_named_from, last_named}

or_else-assoc : (x y z : Option ℕ) → or_else (or_else x y) z ≡ or_else x (or_else y z)
or_else-assoc None y z = refl
or_else-assoc (Some n) y z = refl

or_else-none : (x : Option ℕ) → or_else x None ≡ x
or_else-none None = refl
or_else-none (Some n) = refl

plus-zero : (n : ℕ) → n ≡ n + 0
plus-zero n = omega arith

plus-suc : (n m : ℕ) → suc n + m ≡ n + suc m
plus-suc n m = omega arith

zero-plus : (n : ℕ) → 0 + n ≡ n
zero-plus n = omega arith

last_named_from-push : (at : ℕ) (name : List ℕ) (ls : List Local) (l : Local)
    → last_named_from at name (ls ++ l ∷ []) ≡ or_else (if bytes_eq l.name name then Some (at + length ls) else None) (last_named_from at name ls)
last_named_from-push at name [] l = ap (λ n. if bytes_eq l.name name then Some n else None) (plus-zero at) ∙ sym (or_else-none (if bytes_eq l.name name then Some (at + 0) else None))
last_named_from-push at name (k ∷ ls) l =
    ap (λ o. or_else o (if bytes_eq k.name name then Some at else None)) (last_named_from-push (suc at) name ls l)
    ∙ or_else-assoc (if bytes_eq l.name name then Some (suc at + length ls) else None) (last_named_from (suc at) name ls) (if bytes_eq k.name name then Some at else None)
    ∙ ap (λ n. or_else (if bytes_eq l.name name then Some n else None) (or_else (last_named_from (suc at) name ls) (if bytes_eq k.name name then Some at else None))) (plus-suc at (length ls))

-- the last local has the name
pub last_named-here : (name : List ℕ) (ls : List Local) (l : Local) → bytes_eq l.name name ≡ true → last_named name (ls ++ l ∷ []) ≡ Some (length ls)
last_named-here name ls l same = last_named_from-push 0 name ls l ∙ ap (λ b. or_else (if b then Some (0 + length ls) else None) (last_named_from 0 name ls)) same ∙ ap Some (zero-plus (length ls))

-- it has another
pub last_named-before : (name : List ℕ) (ls : List Local) (l : Local) → bytes_eq l.name name ≡ false → last_named name (ls ++ l ∷ []) ≡ last_named name ls
last_named-before name ls l other = last_named_from-push 0 name ls l ∙ ap (λ b. or_else (if b then Some (0 + length ls) else None) (last_named_from 0 name ls)) other

one_less : (at : ℕ) → 0 < at → at ≡ (at - 1) + 1
one_less at h = omega arith

-- the last of the first `at` locals
last_of_first : (ls : List Local) (at : ℕ) (l : Local) → 0 < at → at ≤ length ls → l ≡ get_or ls (at - 1) l → take at ls ≡ take (at - 1) ls ++ l ∷ []
last_of_first ls at l some within is = ap (λ n. take n ls) (one_less at some) ∙ take_more ls (at - 1) l (omega arith) ∙ ap (λ x. take (at - 1) ls ++ x ∷ []) (sym is)

pub found_here : (name : List ℕ) (ls : List Local) (at : ℕ) (l : Local) → 0 < at → at ≤ length ls → l ≡ get_or ls (at - 1) l → bytes_eq l.name name ≡ true → last_named name (take at ls) ≡ Some (at - 1)
found_here name ls at l some within is same =
    ap (last_named name) (last_of_first ls at l some within is) ∙ last_named-here name (take (at - 1) ls) l same
    ∙ ap Some (omega (arith, length-take (at - 1) ls))

pub found_before : (name : List ℕ) (ls : List Local) (at : ℕ) (l : Local) → 0 < at → at ≤ length ls → l ≡ get_or ls (at - 1) l → bytes_eq l.name name ≡ false → last_named name (take at ls) ≡ last_named name (take (at - 1) ls)
found_before name ls at l some within is other = ap (last_named name) (last_of_first ls at l some within is) ∙ last_named-before name (take (at - 1) ls) l other

pub ruleset find_rules = (found_here, found_before)
