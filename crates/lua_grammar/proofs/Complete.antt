-- What may follow an expression so that it is read whole, and levels of operators.
use Rattle.std.proofs.Common.{◌≡◌, refl, sym, ◌∙◌, ap, ℕ, max, ◌<◌, ◌≤◌, nat_le, Bool, true, false, if◌then◌else◌, List, [], ◌∷◌, ◌++◌, Option, Some, None, Ok, arith, append_assoc, append-nil}
use Rattle.std.proofs.lemmas.Bool.{eq-eqb, le-leb, leb-true, leb-false}
use Rattle.std.proofs.lemmas.Bool.Decides.{nat_tests}
use Rattle.lua_tokens.specs.declared.place.Place.{Place}
use Rattle.lua_tokens.specs.declared.token.Token.{Token}
use Rattle.lua_tokens.specs.declared.token.Lexeme.{Lexeme}
use Rattle.lua_tokens.specs.declared.token.Lexeme.TheVariants as l
use Rattle.lua_tokens.specs.declared.sign.Sign.TheVariants as s
use Rattle.lua_tokens.specs.declared.word.Word.TheVariants as w
use Rattle.lua_tree.specs.declared.operator.Binary.{Binary}
use Rattle.lua_tree.specs.declared.operator.Binary.TheVariants as b
use Rattle.lua_grammar.specs.declared.measured.Measured.{Measured}
use Rattle.lua_grammar.specs.Tokens.{token, Op, or, and, plain, binary_level, op_level, left_level, right_level, op_lexeme}
use Rattle.lua_grammar.specs.Written.{Exp, binary}
use Rattle.lua_grammar.specs.Spelling.{first}
use Rattle.lua_grammar.specs.Formed.{ends_in_prefix}
use Rattle.lua_grammar.specs.Next.{lexeme_number, is_sign, a_text, an_op, of_level, an_op_from}
use Rattle.lua_grammar.specs.Input.{Outcome, Parser, and_then, at, on, pure, refuse, expect}
use Rattle.lua_grammar.specs.Expressions.{measured}
use Rattle.lua_grammar.proofs.Found.{op_is}

-- ---- steps of readers

-- one reader after another
pub then_ok : {A B : Type 0} (o : Outcome A) (f : A → Parser B) (a : A) (ts : List Token) (r : Outcome B) → o ≡ Ok (a, ts) → f a ts ≡ r → and_then o f ≡ r
then_ok o f a ts r e h = ap (λ z. and_then z f) e ∙ h

pub in_room : {A : Type 0} (n m : ℕ) (x y r : A) → n ≤ m → x ≡ r → (if nat_le n m then x else y) ≡ r
in_room n m x y r h e = ap (λ c. if c then x else y) (le-leb n m h) ∙ e

pub if_so : {A : Type 0} (c : Bool) (x y r : A) → c ≡ true → x ≡ r → (if c then x else y) ≡ r
if_so c x y r h e = ap (λ c. if c then x else y) h ∙ e

pub expected : (x : Lexeme) (p : Place) (ts : List Token) → expect x (token x p ∷ ts) ≡ Ok (p, ts)
unfolding expect on
expected x p ts = ap (λ c. at true (λ _ p. pure p) refuse (if c then Some tt else None) (token x p) ts) (eq-eqb (lexeme_number x) (lexeme_number x) refl)

-- nothing is found there
abbrev pub Lacks : {B : Type 0} → (Lexeme → Option B) → Option Lexeme → Type 0
Lacks look None = Unit {0}
Lacks look (Some x) = look x ≡ None

pub on_lacks : {A B : Type 0} (look : Lexeme → Option B) (room : Bool) (p : B → Place → Parser A) (q : Parser A) (ts : List Token) → Lacks look (first ts) → on look room p q ts ≡ q ts
unfolding on
on_lacks look room p q [] h = refl
on_lacks look room p q (x ∷ ts) h = ap (λ o. at room p q o x ts) h

-- ---- lists, as they are read

pub same_measured : {A : Type 0} (x y : A) (m n : ℕ) → x ≡ y → m ≡ n → measured x m ≡ measured y n
same_measured x y m n e h = ap (λ z. measured z m) e ∙ ap (measured y) h

pub no_more : {A : Type 0} (found : Measured (List A)) → found ≡ measured (found.what ++ []) (max found.depth 0)
no_more found = same_measured found.what (found.what ++ []) found.depth (max found.depth 0) (sym (append-nil found.what)) (omega arith)

pub more_of : {A : Type 0} (found : Measured (List A)) (xs ys : List A) (m n : ℕ)
    → measured ((found.what ++ xs) ++ ys) (max (max found.depth m) n) ≡ measured (found.what ++ (xs ++ ys)) (max found.depth (max m n))
more_of found xs ys m n = same_measured _ _ _ _ (append_assoc found.what xs ys) (omega arith)

-- ---- what may follow

-- what doesn't go on with a prefix
pub record NoSuffix (o : Option Lexeme) : Type 0 where
  pub dot : Lacks (is_sign s.Dot) o
  pub bracket : Lacks (is_sign s.OpenBracket) o
  pub colon : Lacks (is_sign s.Colon) o
  pub paren : Lacks (is_sign s.OpenParen) o
  pub brace : Lacks (is_sign s.OpenBrace) o
  pub text : Lacks a_text o

-- what doesn't go on with an expression, of which is said whether it ends in a prefix
pub record Parted (prefix : Bool) (o : Option Lexeme) : Type 0 where
  pub no_suffix : prefix ≡ true → NoSuffix o
  pub no_op : Lacks an_op o

-- the operators from this level on would go on with the expression's last part
abbrev pub edge : Exp → ℕ
edge (binary op p x y) = right_level (op_level op)
edge _ = 12

-- what doesn't go on with the last part of an expression
pub record Apart (e : Exp) (o : Option Lexeme) : Type 0 where
  pub no_suffix : ends_in_prefix e ≡ true → NoSuffix o
  pub no_part : Lacks (an_op_from (edge e)) o

-- no operator of this level or above
abbrev pub Below : ℕ → Option Lexeme → Type 0
Below m o = Lacks (an_op_from m) o

-- signs and words that go on with no expression
pub data Closer : Type 0 where
  close_paren : Closer
  close_bracket : Closer
  close_brace : Closer
  comma : Closer
  semicolon : Closer
  equal : Closer
  then_word : Closer
  do_word : Closer

abbrev pub closer_lexeme : Closer → Lexeme
closer_lexeme close_paren = l.Sign s.CloseParen
closer_lexeme close_bracket = l.Sign s.CloseBracket
closer_lexeme close_brace = l.Sign s.CloseBrace
closer_lexeme comma = l.Sign s.Comma
closer_lexeme semicolon = l.Sign s.Semicolon
closer_lexeme equal = l.Sign s.Equal
closer_lexeme then_word = l.Word w.Then
closer_lexeme do_word = l.Word w.Do

pub closes : (c : Closer) → NoSuffix (Some (closer_lexeme c))
closes close_paren = record { dot = refl; bracket = refl; colon = refl; paren = refl; brace = refl; text = refl }
closes close_bracket = record { dot = refl; bracket = refl; colon = refl; paren = refl; brace = refl; text = refl }
closes close_brace = record { dot = refl; bracket = refl; colon = refl; paren = refl; brace = refl; text = refl }
closes comma = record { dot = refl; bracket = refl; colon = refl; paren = refl; brace = refl; text = refl }
closes semicolon = record { dot = refl; bracket = refl; colon = refl; paren = refl; brace = refl; text = refl }
closes equal = record { dot = refl; bracket = refl; colon = refl; paren = refl; brace = refl; text = refl }
closes then_word = record { dot = refl; bracket = refl; colon = refl; paren = refl; brace = refl; text = refl }
closes do_word = record { dot = refl; bracket = refl; colon = refl; paren = refl; brace = refl; text = refl }

closer_no_op : (c : Closer) → an_op (closer_lexeme c) ≡ None
closer_no_op close_paren = refl
closer_no_op close_bracket = refl
closer_no_op close_brace = refl
closer_no_op comma = refl
closer_no_op semicolon = refl
closer_no_op equal = refl
closer_no_op then_word = refl
closer_no_op do_word = refl

pub parted_by : (prefix : Bool) (c : Closer) → Parted prefix (Some (closer_lexeme c))
parted_by prefix c = record { no_suffix = λ _. closes c; no_op = closer_no_op c }

pub below_of : (m : ℕ) (o : Option Lexeme) → Lacks an_op o → Below m o
below_of m None h = tt
below_of m (Some x) h = ap (of_level m) h

pub apart_of : (e : Exp) (o : Option Lexeme) → Parted (ends_in_prefix e) o → Apart e o
apart_of e o h = record { no_suffix = h.no_suffix; no_part = below_of (edge e) o h.no_op }

-- ---- levels

not_from : (m : ℕ) (op : Op) → op_level op < m → of_level m (Some op) ≡ None
not_from m op h = by_test (nat_le m (op_level op)) refl
  where
    by_test : (c : Bool) → nat_le m (op_level op) ≡ c → (if c then Some op else None) ≡ None
    by_test false e = refl
    by_test true e = absurd (omega (arith, leb-true m (op_level op) e))

from_yes : (m : ℕ) (op : Op) → m ≤ op_level op → of_level m (Some op) ≡ Some op
from_yes m op h = ap (λ c. if c then Some op else None) (le-leb m (op_level op) h)

pub op_from_is : (m : ℕ) (op : Op) → m ≤ op_level op → an_op_from m (op_lexeme op) ≡ Some op
op_from_is m op h = ap (of_level m) (op_is op) ∙ from_yes m op h

pub op_from_not : (m : ℕ) (op : Op) → op_level op < m → an_op_from m (op_lexeme op) ≡ None
op_from_not m op h = ap (of_level m) (op_is op) ∙ not_from m op h

raise_level : (m n : ℕ) (o : Option Op) → m ≤ n → of_level m o ≡ None → of_level n o ≡ None
raise_level m n None h e = refl
raise_level m n (Some op) h e = by_test (nat_le m (op_level op)) refl e
  where
    by_test : (c : Bool) → nat_le m (op_level op) ≡ c → (if c then Some op else None) ≡ None → of_level n (Some op) ≡ None
    by_test true t k = cc
    by_test false t k = not_from n op (omega (arith, leb-false m (op_level op) t))

pub raise : (m n : ℕ) (o : Option Lexeme) → m ≤ n → Below m o → Below n o
raise m n None h e = tt
raise m n (Some x) h e = raise_level m n (an_op x) h e

binary_low : (op : Binary) → binary_level op ≤ 10
binary_low b.Lt = omega arith
binary_low b.Gt = omega arith
binary_low b.Le = omega arith
binary_low b.Ge = omega arith
binary_low b.Ne = omega arith
binary_low b.Eq = omega arith
binary_low b.BitOr = omega arith
binary_low b.BitXor = omega arith
binary_low b.BitAnd = omega arith
binary_low b.ShiftLeft = omega arith
binary_low b.ShiftRight = omega arith
binary_low b.Concat = omega arith
binary_low b.Add = omega arith
binary_low b.Sub = omega arith
binary_low b.Mul = omega arith
binary_low b.FloorDiv = omega arith
binary_low b.Mod = omega arith

pub op_low : (op : Op) → op_level op ≤ 10
op_low or = omega arith
op_low and = omega arith
op_low (plain op) = binary_low op

-- no operator binds as an operand does
none_above : (m : ℕ) (o : Option Op) → 11 ≤ m → of_level m o ≡ None
none_above m None h = refl
none_above m (Some op) h = not_from m op (omega (arith, op_low op))

pub none_from : (m : ℕ) (o : Option Lexeme) → 11 ≤ m → Below m o
none_from m None h = tt
none_from m (Some x) h = none_above m (an_op x) h

-- an operator's left part ends before it
pub left_ends : (m n : ℕ) → left_level m ≤ n → m < right_level n
left_ends m n h = grind (arith, nat_tests)

pub left_high : (m : ℕ) → m ≤ left_level m
left_high m = grind (arith, nat_tests)

pub right_high : (m : ℕ) → m ≤ right_level m
right_high m = grind (arith, nat_tests)
