-- Fields that are set one after another.
use Rattle.std.proofs.Common.{◌≡◌, ◌∙◌, ℕ, ◌+◌, ◌<◌, List, ◌∷◌, length, drop, get_or, map, add-one, ap, sym}
use Rattle.std.proofs.Math.Seq.{drop-cons}
use Rattle.object_store.specs.Heap.{Shown}
use Rattle.base_lib.specs.Open.{with_field, with_fields, function_field}

-- the functions from the i-th on are that one and then the others
pub functions-more : (table : ℕ) (s new : Shown) (numbers : List ℕ) (i : ℕ) → i < length numbers → (let field = function_field (get_or numbers i 0) in new ≡ with_field table s field.0 field.1) → with_fields table new (map function_field (drop (i + 1) numbers)) ≡ with_fields table s (map function_field (drop i numbers))
functions-more table s new numbers i within made =
    let rest : drop i numbers ≡ get_or numbers i 0 ∷ drop (i + 1) numbers = rw add-one (drop-cons numbers i 0 within) in
    ap (λ n. with_fields table n (map function_field (drop (i + 1) numbers))) made
    ∙ ap (λ l. with_fields table s (map function_field l)) (sym rest)
