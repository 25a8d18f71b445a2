-- Windows of a stack.
use Rattle.std.proofs.Common.{◌≡◌, ℕ, zero, suc, ◌+◌, ◌-◌, ◌<◌, ◌≤◌, List, [], ◌∷◌, ◌++◌, length, take, drop, refl, sym, ap, ◌∙◌, arith, replicate, get_or, add-zero, append_assoc, length-drop, min}
use Rattle.std.proofs.lemmas.Grind.{common_steps}
use Rattle.std.proofs.lemmas.List.{drop-take, length-take-le, length-append, get_or-drop, drop-set-lt, take_more, take_min}
use Rattle.std.proofs.Math.Seq.{take-add, drop-append_seam, take-append_seam, take-suc-set}
use Rattle.std.proofs.Math.ListN.{set, drop_of_length-le}
use Rattle.std.specs.Prelude.{slice_range}
use Rattle.object_store.specs.declared.value.Value.{Value}
use Rattle.object_store.specs.declared.value.Value.TheVariants as V
use Rattle.lua_meaning.specs.Names.{filled}

pub take_take : (n m : ℕ) (s : List Value) → n ≤ m → take n (take m s) ≡ take n s
take_take n m s h = grind (arith, common_steps)

-- what lies below the end of a stack, on a longer one
pub within : (n k : ℕ) (s s1 : List Value) → take (length s) s1 ≡ s → k + n ≤ length s → take n (drop k s1) ≡ take n (drop k s)
within n k s s1 e h =
    sym (drop-take k n s1) ∙ ap (drop k) (sym (take_take (k + n) (length s) s1 h) ∙ ap (take (k + n)) e) ∙ drop-take k n s

pub longer : (s s1 : List Value) (n : ℕ) → take n s1 ≡ s → n ≡ length s → length s ≤ length s1
longer s s1 n e h = grind (arith, common_steps)

-- ---- the window of a call

pub short : (n : ℕ) (s : List Value) → length s ≤ n → take n s ≡ s
short n s h = grind (arith, common_steps)

pub opened : (at params slots : ℕ) (s : List Value) → at ≤ length s → params ≤ slots → take (at + slots) (take (at + params) s) ++ replicate ((at + slots) - length (take (at + params) s)) V.Nil ≡ take at s ++ filled slots (take params (drop at s))
opened at params slots s h le =
    let y : List Value = take params (drop at s) in
    let ly : length (take params (drop at s)) ≤ params = grind (arith, common_steps) in
    let la : length (take at s) ≡ at = length-take-le at s h in
    let e : take (at + params) s ≡ take at s ++ take params (drop at s) = take-add at params s in
    let lx : length (take (at + params) s) ≡ at + length (take params (drop at s)) = ap length e ∙ length-append (take at s) (take params (drop at s)) ∙ ap (λ n. n + length (take params (drop at s))) la in
    let n : (at + slots) - length (take (at + params) s) ≡ slots - length (take params (drop at s)) = omega (arith, lx, ly) in
    rw (short (at + slots) (take (at + params) s) (omega (arith, lx, ly)), n, short slots (take params (drop at s)) (omega (arith, ly)), e) (append_assoc (take at s) (take params (drop at s)) (replicate (slots - length (take params (drop at s))) V.Nil))

-- ---- values moved down

pub lower_front : (old v : List Value) (to from i : ℕ) (x : Value) → to ≤ from → from + i < length old → length v ≡ length old → take (to + i) v ≡ take to old ++ take i (drop from old) → drop (from + i) v ≡ drop (from + i) old → x ≡ get_or v (from + i) x → take (to + (i + 1)) (set v (to + i) x) ≡ take to old ++ take (i + 1) (drop from old)
lower_front old v to from i x le lt len front back is =
    let lt' : to + i < length v = omega arith in
    let e : suc (to + i) ≡ to + (i + 1) = omega arith in
    let x0 : x ≡ get_or (drop (from + i) v) 0 x = is ∙ ap (λ n. get_or v n x) (sym (add-zero (from + i))) ∙ sym (get_or-drop (from + i) v 0 x) in
    let x1 : get_or (drop (from + i) old) 0 x ≡ get_or old (from + i) x = get_or-drop (from + i) old 0 x ∙ ap (λ n. get_or old n x) (add-zero (from + i)) in
    let x2 : x ≡ get_or (drop from old) i x = x0 ∙ ap (λ l. get_or l 0 x) back ∙ x1 ∙ sym (get_or-drop from old i x) in
    let lt2 : i < length (drop from old) = omega (arith, length-drop from old) in
    ap (λ n. take n (set v (to + i) x)) (sym e) ∙ take-suc-set v (to + i) x lt' ∙ ap (λ l. l ++ x ∷ []) front ∙ append_assoc (take to old) (take i (drop from old)) (x ∷ [])
    ∙ ap (λ l. take to old ++ l) (ap (λ y. take i (drop from old) ++ y ∷ []) x2 ∙ sym (take_more (drop from old) i x lt2))

pub lower_back : (old v : List Value) (to from i : ℕ) (x : Value) → to ≤ from → from + i < length old → length v ≡ length old → drop (from + i) v ≡ drop (from + i) old → drop (from + (i + 1)) (set v (to + i) x) ≡ drop (from + (i + 1)) old
lower_back old v to from i x le lt len back =
    drop-set-lt (from + (i + 1)) v (to + i) x (omega arith) ∙ more v ∙ ap (drop 1) back ∙ sym (more old)
  where
    tail : (k : ℕ) (l : List Value) → drop (suc k) l ≡ drop 1 (drop k l)
    tail zero [] = refl
    tail zero (y ∷ l) = refl
    tail (suc k) [] = refl
    tail (suc k) (y ∷ l) = tail k l

    more : (l : List Value) → drop (from + (i + 1)) l ≡ drop 1 (drop (from + i) l)
    more l = let e : from + (i + 1) ≡ suc (from + i) = omega arith in ap (λ n. drop n l) e ∙ tail (from + i) l

-- ---- the frame of a call

pub filled_length : (n : ℕ) (vs : List Value) → length (filled n vs) ≡ n
filled_length n vs = grind (arith, common_steps)

-- what stands from a place on, behind so many values
pub from_seam : {A : Type 0} (at : ℕ) (s vs : List A) → at ≤ length s → drop at (take at s ++ vs) ≡ vs
from_seam at s vs h =
    let e : length (take at s) ≡ at = length-take-le at s h in
    ap (λ n. drop n (take at s ++ vs)) (sym e) ∙ drop-append_seam (take at s) vs

pub to_seam : {A : Type 0} (at : ℕ) (s vs : List A) → at ≤ length s → take at (take at s ++ vs) ≡ take at s
to_seam at s vs h =
    let e : length (take at s) ≡ at = length-take-le at s h in
    ap (λ n. take n (take at s ++ vs)) (sym e) ∙ take-append_seam (take at s) vs

pub seam_length : {A : Type 0} (at : ℕ) (s vs : List A) → at ≤ length s → length (take at s ++ vs) ≡ at + length vs
seam_length at s vs h = length-append (take at s) vs ∙ ap (λ n. n + length vs) (length-take-le at s h)

pub nothing_left : (at : ℕ) (s : List Value) → at ≤ length s → drop at (take at s) ≡ []
nothing_left at s h = drop_of_length-le (take at s) (omega (arith, length-take-le at s h))

pub cut_length : (at : ℕ) (s : List Value) → at ≤ length s → length (take at s) ≡ at
cut_length at s h = length-take-le at s h

-- ---- the frame of a call with `...`

pub min_take : (n : ℕ) (xs : List Value) → take (min n (length xs)) xs ≡ take n xs
min_take n xs = take_min n xs

pub dots_from : (at params : ℕ) (s : List Value) → at ≤ length s → drop (at + min params (length s - at)) s ≡ drop params (drop at s)
dots_from at params s h = grind (arith, common_steps)

pub opened_above : (at params slots d : ℕ) (s : List Value) → at ≤ length s → d ≡ at + min params (length s - at) → take (length s) (s ++ slice_range s at d) ++ filled slots (take params (drop (length s) (s ++ slice_range s at d))) ≡ s ++ filled slots (take params (drop at s))
opened_above at params slots d s h e =
    let r : slice_range s at d ≡ take params (drop at s) =
    let e1 : d - at ≡ min params (length (drop at s)) = omega (arith, length-drop at s) in ap (λ n. take n (drop at s)) e1 ∙ min_take params (drop at s) in
    rw (take-append_seam s (slice_range s at d), drop-append_seam s (slice_range s at d)) (ap (λ x. s ++ filled slots x) (ap (take params) r ∙ take_take params params (drop at s) (omega arith)))

pub drop_past : (k : ℕ) (l : List Value) → drop (k + 1) l ≡ drop 1 (drop k l)
drop_past zero [] = refl
drop_past zero (y ∷ l) = refl
drop_past (suc k) [] = let e : suc k + 1 ≡ suc (k + 1) = omega arith in ap (λ n. drop n []) e
drop_past (suc k) (y ∷ l) = let e : suc k + 1 ≡ suc (k + 1) = omega arith in ap (λ n. drop n (y ∷ l)) e ∙ drop_past k l

-- ---- the cell of a slot

pub cell_put : {A : Type 0} (base i : ℕ) (c : A) (s : List A) → base ≤ length s → take (base + i) (take (base + i) s) ++ replicate ((base + i) - length (take (base + i) s)) c ≡ take base s ++ (take i (drop base s) ++ replicate (i - length (drop base s)) c)
cell_put {A} base i c s h =
    let e : take (base + i) (take (base + i) s) ≡ take (base + i) s = same (base + i) s in
    let n : (base + i) - length (take (base + i) s) ≡ i - length (drop base s) = grind (arith, common_steps) in
    rw (e, n, take-add base i s) (append_assoc (take base s) (take i (drop base s)) (replicate (i - length (drop base s)) c))
  where
    same : (k : ℕ) (l : List A) → take k (take k l) ≡ take k l
    same k l = grind (arith, common_steps)
