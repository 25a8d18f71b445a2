-- What is proved of the readers, property by property.
use Rattle.std.proofs.Common.{◌≡◌, ◌⊎◌, ℕ, ◌<◌, ◌≤◌, List, [], ◌∷◌, ◌++◌, length, Option, Some, None, Ok, Err}
use Rattle.lua_tokens.specs.declared.place.Place.{Place}
use Rattle.lua_tokens.specs.declared.token.Token.{Token}
use Rattle.lua_tokens.specs.declared.token.Lexeme.TheVariants as l
use Rattle.lua_grammar.specs.Tokens.{name, const_name}
use Rattle.lua_grammar.specs.Written.{Bytes}
use Rattle.lua_grammar.specs.Input.{Outcome, Parser, Why, bad, deep, attribute, Stop}

-- ---- local: an answer depends on the tokens that are taken and the next one alone, and no end of a script is taken

abbrev pub head : List Token → Option Token
head [] = None
head (x ∷ xs) = Some x

abbrev pub IsName : Option Token → Type 0
IsName None = ⊥
IsName (Some x) = (n : Bytes) × (x.what ≡ l.Name n)

-- tokens that a reader doesn't tell apart where it leaves them: the same, or two names
abbrev pub Alike : Option Token → Option Token → Type 0
Alike a b = (a ≡ b) ⊎ (IsName a × IsName b)

abbrev pub AlikeFor : Why → Option Token → Option Token → Type 0
AlikeFor attribute a b = a ≡ b
AlikeFor bad a b = Alike a b
AlikeFor deep a b = Alike a b

abbrev pub NoEnd : List Token → Type 0
NoEnd [] = Unit {0}
NoEnd (x ∷ xs) = (x.what ≡ l.End → ⊥) × NoEnd xs

pub record LocalOk {A : Type 0} (p : Parser A) (ts : List Token) (x : A × List Token) : Type 0 where
  pub pre : List Token
  pub read : ts ≡ pre ++ x.1
  pub inside : NoEnd pre
  pub again : (u : List Token) → Alike (head u) (head x.1) → p (pre ++ u) ≡ Ok (x.0, u)

abbrev pub Past : {A : Type 0} → Outcome A → List Token → Type 0
Past (Ok x) ts = length x.1 < length ts
Past (Err stop) ts = length stop.1 < length ts

-- A name is refused where an attribute has to stand: with the name `const` in its place it is taken.
pub record Marked {A : Type 0} (p : Parser A) (pre : List Token) (stop : Stop) : Type 0 where
  pub text : Bytes
  pub place : Place
  pub after : List Token
  pub is : stop.1 ≡ name text place ∷ after
  pub past : Past (p (pre ++ name const_name place ∷ after)) stop.1

pub record LocalErr {A : Type 0} (p : Parser A) (ts : List Token) (stop : Stop) : Type 0 where
  pub pre : List Token
  pub read : ts ≡ pre ++ stop.1
  pub inside : NoEnd pre
  pub again : (u : List Token) → AlikeFor stop.0 (head u) (head stop.1) → p (pre ++ u) ≡ Err (stop.0, u)
  pub marked : stop.0 ≡ attribute → Marked p pre stop

abbrev pub LocalAt : {A : Type 0} → Parser A → List Token → Outcome A → Type 0
LocalAt p ts (Ok x) = LocalOk p ts x
LocalAt p ts (Err stop) = LocalErr p ts stop

abbrev pub Local : {A : Type 0} → Parser A → Type 0
Local p = (ts : List Token) → LocalAt p ts (p ts)

-- ---- kept: more room changes no answer but a refusal for depth, and enough of it gets past that token

abbrev pub Kept : {A : Type 0} → (ℕ → Parser A) → ℕ → List Token → Outcome A → Type 0
Kept p d ts (Ok x) = (n : ℕ) → d ≤ n → p n ts ≡ Ok x
Kept p d ts (Err (deep, rest)) = (enough : ℕ) × ((n : ℕ) → enough ≤ n → Past (p n ts) rest)
Kept p d ts (Err (why, rest)) = (n : ℕ) → d ≤ n → p n ts ≡ Err (why, rest)

abbrev pub KeptAt : {A : Type 0} → (ℕ → Parser A) → ℕ → Type 0
KeptAt p d = (ts : List Token) → Kept p d ts (p d ts)
