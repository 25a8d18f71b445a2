-- The names of a local declaration.
use Rattle.std.proofs.Common.{◌≡◌, ℕ, zero, suc, List, [], ◌∷◌, length, get_or, refl, sym, ap, ◌∙◌, Bool}
use Rattle.lua_program.specs.declared.expr.Ref.{Ref}
use Rattle.lua_meaning.specs.Statements.{refs_of}

pub refs_length : (ls : List (Ref × Bool)) → length (refs_of ls) ≡ length ls
refs_length [] = refl
refs_length (x ∷ ls) = ap suc (refs_length ls)

refs_get : (ls : List (Ref × Bool)) (i : ℕ) (x : Ref × Bool) → get_or (refs_of ls) i (x.0) ≡ (get_or ls i x).0
refs_get [] i x = refl
refs_get (y ∷ ls) zero x = refl
refs_get (y ∷ ls) (suc i) x = refs_get ls i x

pub refs_at : (ls : List (Ref × Bool)) (i : ℕ) (x : Ref × Bool) → x ≡ get_or ls i x → x.0 ≡ get_or (refs_of ls) i (x.0)
refs_at ls i x e = ap (λ y. y.0) e ∙ sym (refs_get ls i x)
