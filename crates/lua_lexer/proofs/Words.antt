-- Texts that are equal.
use Rattle.std.proofs.Common.{◌≡◌, refl, eq-eqb, ℕ, Bool, true, false, nat_eq, ◌&&◌, List, [], ◌∷◌, arith}
use Rattle.std.proofs.lemmas.Bool.{eqb-true}
use Rattle.lua_lexer.specs.Spellings.{is_text}

same_by : (b c : ℕ) (bs cs : List ℕ) (v : Bool) → nat_eq b c ≡ v → (is_text bs cs ≡ true → bs ≡ cs) → (v && is_text bs cs) ≡ true → b ∷ bs ≡ c ∷ cs
same_by b c bs cs true n ih h = let x : b ≡ c = omega (arith, eqb-true b c n) in let y : bs ≡ cs = ih h in cc
same_by b c bs cs false n ih h = cc

is_same : (bs cs : List ℕ) → is_text bs cs ≡ true → bs ≡ cs
is_same [] [] e = refl
is_same [] (c ∷ cs) e = cc
is_same (b ∷ bs) [] e = cc
is_same (b ∷ bs) (c ∷ cs) e = same_by b c bs cs (nat_eq b c) refl (is_same bs cs) e

pub no_text : (bs cs : List ℕ) → (bs ≡ cs → ⊥) → is_text bs cs ≡ false
no_text bs cs n = by (is_text bs cs) refl
  where
    by : (v : Bool) → is_text bs cs ≡ v → v ≡ false
    by true e = absurd (n (is_same bs cs e))
    by false e = refl

pub text_self : (bs : List ℕ) → is_text bs bs ≡ true
text_self [] = refl
text_self (b ∷ bs) = rw (eq-eqb b b refl, text_self bs) refl

pub same_text : (bs cs : List ℕ) → bs ≡ cs → is_text bs cs ≡ true
same_text bs cs e = rw e (text_self cs)
