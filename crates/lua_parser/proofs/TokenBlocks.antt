-- What a cursor sees of its blocks.
use Rattle.std.proofs.Common.{◌≡◌, sym, ◌∙◌, ap, Some, ℕ, ◌+◌, ◌<◌, ◌≤◌, List, [], ◌∷◌, ◌++◌, length, drop, slice_index_or, slice_set, arith}
use Rattle.std.proofs.lemmas.List.{drop_more, drop-set}
use Rattle.std.proofs.Math.ListN.{drop_of_length-le}
use Rattle.lua_tokens.specs.declared.token.Token.{Token}
use Rattle.lua_parser.specs.Looks.{rest, what_of, first_place}
use Rattle.lua_parser.proofs.Standing.{what_nil, what_next}

-- no token is left
pub none_left : (xs others : List Token) (i : ℕ) → length xs ≤ i → others ≡ [] → drop i xs ++ others ≡ []
none_left xs others i le e = ap (λ z. z ++ others) (drop_of_length-le xs le) ∙ e

pub rest_none : (xs others : List Token) (i : ℕ) → length xs ≤ i → others ≡ [] → rest (drop i xs ++ others) ≡ drop i xs ++ others
unfolding rest
rest_none xs others i le e = ap rest (none_left xs others i le e) ∙ sym (none_left xs others i le e)

-- the next token stands in the block
pub next_here : (xs others : List Token) (i : ℕ) (x : Token) → i < length xs → x ≡ slice_index_or xs i x → drop i xs ++ others ≡ x ∷ rest (drop i xs ++ others)
unfolding rest
next_here xs others i x lt e =
    let d : drop i xs ≡ x ∷ drop (i + 1) xs = drop_more xs i x lt ∙ ap (λ z. z ∷ drop (i + 1) xs) (sym e) in
    ap (λ z. z ++ others) d ∙ sym (ap (λ z. x ∷ rest (z ++ others)) d)

pub rest_here : (xs others : List Token) (i : ℕ) → i < length xs → rest (drop i xs ++ others) ≡ drop (i + 1) xs ++ others
unfolding rest
rest_here [] others i lt = absurd (omega (arith, lt))
rest_here (x ∷ xs) others i lt = ap (λ z. rest (z ++ others)) (drop_more (x ∷ xs) i x lt)

pub rest_last : (xs others : List Token) (i : ℕ) → i < length xs → length xs ≤ i + 1 → rest (drop i xs ++ others) ≡ others
rest_last xs others i lt le = rest_here xs others i lt ∙ ap (λ z. z ++ others) (drop_of_length-le xs le)

pub rest_set : (xs others : List Token) (i : ℕ) (y : Token) → i < length xs → rest (drop i (slice_set xs i y) ++ others) ≡ rest (drop i xs ++ others)
unfolding rest
rest_set xs others i y lt = ap (λ z. rest (z ++ others)) (drop-set xs i y lt) ∙ sym (rest_here xs others i lt)

pub what_here : (xs others : List Token) (i : ℕ) (x : Token) → i < length xs → x ≡ slice_index_or xs i x → what_of (drop i xs ++ others) ≡ x.what
what_here xs others i x lt e = ap what_of (next_here xs others i x lt e) ∙ what_next x (rest (drop i xs ++ others))

pub ruleset begin_rules = (none_left)

pub ruleset peek_rules = (none_left, next_here)

pub ruleset take_rules = (rest_none, rest_here, rest_last)

pub ruleset what_rules = (none_left, rest_none, rest_set, what_nil, what_here)

pub place_here : (ts us : List Token) (x : Token) → ts ≡ x ∷ us → first_place ts ≡ Some x.place
unfolding first_place
place_here ts us x e = ap first_place e

pub ruleset place_rules = (place_here)
