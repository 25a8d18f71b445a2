-- A part of a range is a range.
use Rattle.std.proofs.Common.{◌≡◌, ◌∙◌, refl, ap, sym, ℕ, zero, suc, ◌+◌, ◌-◌, min, ◌≤◌, List, [], ◌∷◌, length, take, drop, arith}
use Rattle.std.proofs.lemmas.List.{drop-take, length-take}
use Rattle.std.proofs.Math.Seq.{drop-nil}

take_less : (n m : ℕ) (xs : List ℕ) → n ≤ m → take n (take m xs) ≡ take n xs
take_less zero m xs h = refl
take_less (suc n) (suc m) [] h = refl
take_less (suc n) (suc m) (x ∷ xs) h = ap (λ ys. x ∷ ys) (take_less n m xs (omega arith))
take_less (suc n) zero xs h = (let e : ⊥ = omega arith in absurd e)

drop_more : (n m : ℕ) (xs : List ℕ) → drop n (drop m xs) ≡ drop (m + n) xs
drop_more n zero xs = (let e : n ≡ 0 + n = omega arith in ap (λ k. drop k xs) e)
drop_more n (suc m) [] = drop-nil n ∙ sym (drop-nil (suc m + n))
drop_more n (suc m) (x ∷ xs) = (let e : suc (m + n) ≡ suc m + n = omega arith in drop_more n m xs ∙ ap (λ k. drop k (x ∷ xs)) e)

pub within : (n : ℕ) (xs : List ℕ) → length (take n xs) ≤ n
within n xs = (let e : length (take n xs) ≡ min n (length xs) = length-take n xs in omega arith)

pub part_of : (xs : List ℕ) (start size from to : ℕ) → from ≤ to → to ≤ length (take size (drop start xs)) → take (to - from) (drop (start + from) xs) ≡ take (to - from) (drop from (take size (drop start xs)))
part_of xs start size from to h k =
    (let low : length (take size (drop start xs)) ≤ size = within size (drop start xs) in
    let cut : size ≡ from + (size - from) = omega arith in
    let shown : drop from (take size (drop start xs)) ≡ take (size - from) (drop from (drop start xs)) = ap (λ n. drop from (take n (drop start xs))) cut ∙ drop-take from (size - from) (drop start xs) in
    let fits : to - from ≤ size - from = omega arith in
    sym (ap (take (to - from)) (shown ∙ ap (take (size - from)) (drop_more from start xs)) ∙ take_less (to - from) (size - from) (drop (start + from) xs) fits))

pub ruleset part_rules = (within, part_of)
