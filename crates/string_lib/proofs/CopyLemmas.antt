-- One copy more.
use Rattle.std.proofs.Common.{◌≡◌, refl, true, nat_eq, length, ap, sym, ◌∙◌, ℕ, zero, suc, ◌+◌, ◌<◌, List, [], ◌∷◌, ◌++◌, append_assoc, arith, add-one}
use Rattle.std.proofs.lemmas.Bool.{eqb-true}
use Rattle.string_lib.specs.Texts.{copies}

more : (text : List ℕ) (n : ℕ) (separator : List ℕ) → (copies text (suc n) separator ++ separator) ++ text ≡ copies text (suc (suc n)) separator
more text zero separator = refl
more text (suc n) separator =
    append_assoc (text ++ separator ++ copies text (suc n) separator) separator text
    ∙ (append_assoc (text ++ separator) (copies text (suc n) separator) (separator ++ text)
    ∙ ap (λ ys. (text ++ separator) ++ ys) (sym (append_assoc (copies text (suc n) separator) separator text) ∙ more text n separator))

pub copies_more : (text : List ℕ) (n : ℕ) (separator : List ℕ) → 0 < n → (copies text n separator ++ separator) ++ text ≡ copies text (n + 1) separator
copies_more text zero separator h = absurd (omega arith)
copies_more text (suc n) separator h = more text n separator ∙ rw (add-one (suc n)) refl

pub copies_one : (text separator : List ℕ) → copies text 1 separator ≡ text
copies_one text separator = refl

empty_more : (n : ℕ) → copies [] n [] ≡ []
empty_more zero = refl
empty_more (suc zero) = refl
empty_more (suc (suc n)) = empty_more (suc n)

none_left : (xs : List ℕ) → length xs ≡ 0 → xs ≡ []
none_left [] e = refl
none_left (x ∷ xs) e = absurd (omega arith)

pub copies_empty : (text : List ℕ) (n : ℕ) (separator : List ℕ) → nat_eq (length text) 0 ≡ true → nat_eq (length separator) 0 ≡ true → text ≡ copies text n separator
copies_empty text n separator t s =
    let no_text = none_left text (eqb-true (length text) 0 t) in
    let no_separator = none_left separator (eqb-true (length separator) 0 s) in
    rw (no_text, no_separator) (sym (empty_more n))

pub ruleset copy_rules = (copies_more, copies_one)
