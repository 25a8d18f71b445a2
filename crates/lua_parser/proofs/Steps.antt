-- Readers that go by the next token, as it stands at a cursor.
use Rattle.std.proofs.Common.{◌≡◌, refl, ◌∙◌, ap, Bool, true, false, if◌then◌else◌, List, [], ◌∷◌, Option, Some, None, Ok, Err}
use Rattle.lua_tokens.specs.declared.place.Place.{Place}
use Rattle.lua_tokens.specs.declared.token.Token.{Token}
use Rattle.lua_tokens.specs.declared.token.Lexeme.{Lexeme}
use Rattle.lua_grammar.specs.Written.{Bytes}
use Rattle.lua_grammar.specs.Next.{same, is, a_name, a_text}
use Rattle.lua_grammar.specs.Input.{Parser, pure, refuse, bad, deep, at, on, expect}
use Rattle.lua_parser.specs.Looks.{rest, place_of, beside, look_at, name_at, text_at}

module _ {A : Type 0} (y : Lexeme) (room : Bool) (p : Unit {0} → Place → Parser A) (q : Parser A) where
  pub is_hit : (ts : List Token) (pl : Place) → place_of y ts ≡ Some pl → room ≡ true → on (is y) room p q ts ≡ p tt pl (rest ts)
  unfolding on place_of rest
  is_hit [] pl e r = cc
  is_hit (x ∷ ts) pl e r = by_test (same y x.what) e ∙ refl
    where
      by_test : (c : Bool) → (if c then Some x.place else None) ≡ Some pl → at room p q (if c then Some tt else None) x ts ≡ p tt pl ts
      by_test true k = let h : x.place ≡ pl = cc in ap (λ c. if c then p tt x.place ts else Err (deep, x ∷ ts)) r ∙ ap (λ z. p tt z ts) h
      by_test false k = cc

  pub is_deep : (ts : List Token) → (place_of y ts ≡ None → ⊥) → room ≡ false → on (is y) room p q ts ≡ Err (deep, ts)
  unfolding on place_of
  is_deep [] n r = absurd (n refl)
  is_deep (x ∷ ts) n r = by_test (same y x.what) n
    where
      by_test : (c : Bool) → ((if c then Some x.place else None) ≡ None → ⊥) → at room p q (if c then Some tt else None) x ts ≡ Err (deep, x ∷ ts)
      by_test true k = ap (λ c. if c then p tt x.place ts else Err (deep, x ∷ ts)) r
      by_test false k = absurd (k refl)

  pub is_miss : (ts : List Token) → place_of y ts ≡ None → on (is y) room p q ts ≡ q ts
  unfolding on place_of
  is_miss [] e = refl
  is_miss (x ∷ ts) e = by_test (same y x.what) e
    where
      by_test : (c : Bool) → (if c then Some x.place else None) ≡ None → at room p q (if c then Some tt else None) x ts ≡ q (x ∷ ts)
      by_test true k = cc
      by_test false k = refl

module _ {A B : Type 0} (look : Lexeme → Option B) (room : Bool) (p : B → Place → Parser A) (q : Parser A) where
  pub look_hit : (ts : List Token) (b : B) (pl : Place) → look_at look ts ≡ Some (b, pl) → room ≡ true → on look room p q ts ≡ p b pl (rest ts)
  unfolding on look_at rest
  look_hit [] b pl e r = cc
  look_hit (x ∷ ts) b pl e r = by_look (look x.what) e
    where
      or : B × Place → Option (B × Place) → B × Place
      or z None = z
      or z (Some y) = y

      by_look : (o : Option B) → beside o x.place ≡ Some (b, pl) → at room p q o x ts ≡ p b pl ts
      by_look None k = cc
      by_look (Some c) k =
          let h : (c, x.place) ≡ (b, pl) = ap (or (b, pl)) k in
          ap (λ z. if z then p c x.place ts else Err (deep, x ∷ ts)) r ∙ ap (λ (z : B × Place). p z.0 z.1 ts) h

  pub look_deep : (ts : List Token) → (look_at look ts ≡ None → ⊥) → room ≡ false → on look room p q ts ≡ Err (deep, ts)
  unfolding on look_at
  look_deep [] n r = absurd (n refl)
  look_deep (x ∷ ts) n r = by_look (look x.what) n
    where
      by_look : (o : Option B) → (beside o x.place ≡ None → ⊥) → at room p q o x ts ≡ Err (deep, x ∷ ts)
      by_look None k = absurd (k refl)
      by_look (Some c) k = ap (λ z. if z then p c x.place ts else Err (deep, x ∷ ts)) r

  pub look_miss : (ts : List Token) → look_at look ts ≡ None → on look room p q ts ≡ q ts
  unfolding on look_at
  look_miss [] e = refl
  look_miss (x ∷ ts) e = by_look (look x.what) e
    where
      by_look : (o : Option B) → beside o x.place ≡ None → at room p q o x ts ≡ q (x ∷ ts)
      by_look None k = refl
      by_look (Some c) k = cc

-- ---- a name or a text

module _ {A : Type 0} (room : Bool) (p : Bytes → Place → Parser A) (q : Parser A) (ts : List Token) where
  pub name_hit : (n : Bytes) (pl : Place) → name_at ts ≡ Some (n, pl) → room ≡ true → on a_name room p q ts ≡ p n pl (rest ts)
  unfolding name_at
  name_hit n pl e r = look_hit a_name room p q ts n pl e r

  pub name_deep : (name_at ts ≡ None → ⊥) → room ≡ false → on a_name room p q ts ≡ Err (deep, ts)
  unfolding name_at
  name_deep e r = look_deep a_name room p q ts e r

  pub name_miss : name_at ts ≡ None → on a_name room p q ts ≡ q ts
  unfolding name_at
  name_miss e = look_miss a_name room p q ts e

  pub text_hit : (t : Bytes) (pl : Place) → text_at ts ≡ Some (t, pl) → room ≡ true → on a_text room p q ts ≡ p t pl (rest ts)
  unfolding text_at
  text_hit t pl e r = look_hit a_text room p q ts t pl e r

  pub text_deep : (text_at ts ≡ None → ⊥) → room ≡ false → on a_text room p q ts ≡ Err (deep, ts)
  unfolding text_at
  text_deep e r = look_deep a_text room p q ts e r

  pub text_miss : text_at ts ≡ None → on a_text room p q ts ≡ q ts
  unfolding text_at
  text_miss e = look_miss a_text room p q ts e

pub expect_hit : (y : Lexeme) (ts : List Token) (pl : Place) → place_of y ts ≡ Some pl → expect y ts ≡ Ok (pl, rest ts)
unfolding expect
expect_hit y ts pl e = is_hit y true (λ _ p. pure p) refuse ts pl e refl

pub expect_miss : (y : Lexeme) (ts : List Token) → place_of y ts ≡ None → expect y ts ≡ Err (bad, ts)
unfolding expect
expect_miss y ts e = is_miss y true (λ _ p. pure p) refuse ts e

pub ruleset expect_rules = (expect_hit, expect_miss)
