-- Steps of which readers of tokens are made. A reader answers a value and the tokens after it, or
-- why it refuses and the tokens from the refused one on.
use Rattle.std.specs.Prelude.{ℕ, zero, suc, nat_eq, if◌then◌else◌, Bool, true, List, [], ◌∷◌, length, Option, Some, None, Result, Ok, Err}
use Rattle.std.specs.Cmp.Lexicographic.{pointwise}
use Rattle.lua_tokens.specs.declared.place.Place.{Place}
use Rattle.lua_tokens.specs.declared.token.Token.{Token}
use Rattle.lua_tokens.specs.declared.token.Lexeme.{Lexeme}
use Rattle.lua_grammar.specs.Tokens.{const_name}
use Rattle.lua_grammar.specs.Written.{Bytes}
use Rattle.lua_grammar.specs.Next.{is, a_name}

-- Why a token is refused: no script goes on with it, or only scripts that are too deep do, or it is
-- a name where an attribute has to stand.
pub data Why : Type 0 where
  bad : Why
  deep : Why
  attribute : Why

abbrev pub Stop : Type 0
Stop = Why × List Token

abbrev pub Outcome : Type 0 → Type 0
Outcome A = Result (A × List Token) Stop

abbrev pub Parser : Type 0 → Type 0
Parser A = List Token → Outcome A

abbrev pub and_then : {A B : Type 0} → Outcome A → (A → Parser B) → Outcome B
and_then (Ok x) f = f x.0 x.1
and_then (Err stop) f = Err stop

infixl 10 ◌>>=◌
abbrev pub ◌>>=◌ : {A B : Type 0} → Parser A → (A → Parser B) → Parser B
p >>= f = λ ts. and_then (p ts) f

abbrev pub pure : {A : Type 0} → A → Parser A
pure a = λ ts. Ok (a, ts)

abbrev pub refuse : {A : Type 0} → Parser A
refuse = λ ts. Err (bad, ts)

-- what to do at a token where something was found, or nothing
abbrev pub at : {A B : Type 0} → Bool → (B → Place → Parser A) → Parser A → Option B → Token
    → Parser A
at room p q None x ts = q (x ∷ ts)
at room p q (Some b) x ts = if room then p b x.place ts else Err (deep, x ∷ ts)

-- Goes by the next token. What is looked for there is taken, unless there is no room for it; else
-- the second reader goes on.
unfoldable pub on : {A B : Type 0} → (Lexeme → Option B) → Bool → (B → Place → Parser A) → Parser A
    → Parser A
on look room p q [] = q []
on look room p q (x ∷ ts) = at room p q (look x.what) x ts

-- the next token is this one
unfoldable pub expect : Lexeme → Parser Place
expect x = on (is x) true (λ _ p. pure p) refuse

-- goes by the next token and leaves it there
unfoldable pub before : {A : Type 0} → (Lexeme → Bool) → Parser A → Parser A → Parser A
before test p q [] = q []
before test p q (x ∷ ts) = if test x.what then p (x ∷ ts) else q (x ∷ ts)

-- the name of an attribute, which is `const`
abbrev pub by_attribute : Option Bytes → Token → Parser Place
by_attribute None x ts = Err (bad, x ∷ ts)
by_attribute (Some n) x ts =
    if pointwise nat_eq n const_name then Ok (x.place, ts) else Err (attribute, x ∷ ts)

unfoldable pub attribute_name : Parser Place
attribute_name [] = Err (bad, [])
attribute_name (x ∷ ts) = by_attribute (a_name x.what) x ts

-- one turn of a loop
pub data Turn (S A : Type 0) : Type 0 where
  again : S → Turn S A
  done : A → Turn S A

abbrev pub turn : {S A : Type 0} → (S → Parser A) → Turn S A → Parser A
turn f (again s) = f s
turn f (done a) = pure a

unfoldable pub loop : {S A : Type 0} → (S → Parser (Turn S A)) → ℕ → S → Parser A
loop step zero s = refuse
loop step (suc n) s = step s >>= turn (loop step n)

-- Turns until one is the last. Each other turn takes a token, so there are enough.
unfoldable pub many : {S A : Type 0} → (S → Parser (Turn S A)) → S → Parser A
many step s = λ ts. loop step (suc (length ts)) s ts
