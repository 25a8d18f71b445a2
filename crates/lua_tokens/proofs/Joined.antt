-- The tokens of blocks.
use Rattle.std.proofs.Common.{◌≡◌, refl, sym, ◌∙◌, ap, List, [], ◌∷◌, ◌++◌, append_assoc, length, drop, arith}
use Rattle.std.proofs.lemmas.List.{append-nil}
use Rattle.std.specs.Prelude.{Vec}
use Rattle.std.specs.declared.alloc.Global.{Global}
use Rattle.lua_tokens.specs.declared.token.Token.{Token}
use Rattle.lua_tokens.specs.Blocks.{joined, AllFilled}

pub joined_nil : joined [] ≡ []
unfolding joined
joined_nil = refl

pub joined_first : (block : Vec Token Global) (blocks : List (Vec Token Global)) → joined (block ∷ blocks) ≡ block.items ++ joined blocks
unfolding joined
joined_first block blocks = refl

pub joined_last : (blocks : List (Vec Token Global)) (block : Vec Token Global) → joined (blocks ++ block ∷ []) ≡ joined blocks ++ block.items
unfolding joined
joined_last [] block = append-nil block.items
joined_last (b ∷ blocks) block = ap (λ z. b.items ++ z) (joined_last blocks block) ∙ sym (append_assoc b.items (joined blocks) block.items)

pub filled_last : (blocks : List (Vec Token Global)) (block : Vec Token Global) → AllFilled blocks → (block.items ≡ [] → ⊥) → AllFilled (blocks ++ block ∷ [])
filled_last [] block h n = (n, tt)
filled_last (b ∷ blocks) block h n = (h.0, filled_last blocks block h.1 n)

-- the first block, taken
pub taken_first : (all blocks : List (Vec Token Global)) (block : Vec Token Global) (last : List Token) → all ≡ block ∷ blocks → joined all ++ last ≡ block.items ++ (joined blocks ++ last)
taken_first all blocks block last e = ap (λ z. joined z ++ last) e ∙ ap (λ z. z ++ last) (joined_first block blocks) ∙ append_assoc block.items (joined blocks) last

shorter : (b : Vec Token Global) (blocks : List (Vec Token Global)) → b ∷ blocks ≡ blocks → ⊥
shorter b blocks e = let n : length (b ∷ blocks) ≡ length blocks = ap length e in absurd (omega (arith, n))

none_left : (all left : List (Vec Token Global)) → all ≡ left → left ≡ drop 1 all → all ≡ []
none_left [] left e f = refl
none_left (b ∷ all) left e f = absurd (shorter b all (e ∙ f))

-- the last block, taken
pub taken_last : (all left : List (Vec Token Global)) (last next : List Token) → all ≡ left → left ≡ drop 1 all → next ≡ [] → joined all ++ last ≡ last ++ (joined left ++ next)
taken_last all left last next e f g =
    let n = none_left all left e f in
    ap (λ z. joined z ++ last) n ∙ ap (λ z. z ++ last) joined_nil ∙ sym (ap (λ z. last ++ (joined left ++ z)) g ∙ ap (λ z. last ++ (joined z ++ [])) (sym e ∙ n) ∙ ap (λ z. last ++ (z ++ [])) joined_nil ∙ append-nil last)

-- the last block, begun anew
pub begun : (all old : List (Vec Token Global)) (full : Vec Token Global) (next : List Token) → all ≡ old ++ full ∷ [] → next ≡ [] → joined all ++ next ≡ joined old ++ full.items
begun all old full next e g = ap (λ z. joined z ++ next) e ∙ ap (λ z. joined (old ++ full ∷ []) ++ z) g ∙ append-nil (joined (old ++ full ∷ [])) ∙ joined_last old full

pub ruleset block_rules = (joined_nil, joined_first, joined_last, filled_last)
