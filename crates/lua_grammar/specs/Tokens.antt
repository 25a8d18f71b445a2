-- Tokens by what they are, and the operators with their precedence.
use Rattle.std.specs.Prelude.{ℕ, ℤ, ◌+◌, nat_eq, if◌then◌else◌, List, [], ◌∷◌}
use Rattle.lua_tokens.specs.declared.place.Place.{Place}
use Rattle.lua_tokens.specs.declared.token.Token.{Token}
use Rattle.lua_tokens.specs.declared.token.Lexeme.{Lexeme}
use Rattle.lua_tokens.specs.declared.token.Lexeme.TheVariants as l
use Rattle.lua_tokens.specs.declared.sign.Sign.{Sign}
use Rattle.lua_tokens.specs.declared.sign.Sign.TheVariants as s
use Rattle.lua_tokens.specs.declared.word.Word.{Word}
use Rattle.lua_tokens.specs.declared.word.Word.TheVariants as w
use Rattle.lua_tree.specs.declared.operator.Binary.{Binary}
use Rattle.lua_tree.specs.declared.operator.Binary.TheVariants as b
use Rattle.lua_tree.specs.declared.operator.Unary.{Unary}
use Rattle.lua_tree.specs.declared.operator.Unary.TheVariants as u

-- ---- tokens at a place

abbrev pub token : Lexeme → Place → Token
token x p = record { what = x; place = p }

abbrev pub sign : Sign → Place → Token
sign x p = token (l.Sign x) p

abbrev pub word : Word → Place → Token
word x p = token (l.Word x) p

abbrev pub name : List ℕ → Place → Token
name n p = token (l.Name n) p

abbrev pub text : List ℕ → Place → Token
text t p = token (l.Text t) p

abbrev pub number : ℤ → Place → Token
number n p = token (l.Int n) p

abbrev pub finish : Place → Token
finish p = token l.End p

-- ---- operators

-- a binary operator of the manual's table of precedence
pub data Op : Type 0 where
  or : Op
  and : Op
  plain : Binary → Op

-- from 1 for those that bind least
abbrev pub binary_level : Binary → ℕ
binary_level b.Lt = 3
binary_level b.Gt = 3
binary_level b.Le = 3
binary_level b.Ge = 3
binary_level b.Ne = 3
binary_level b.Eq = 3
binary_level b.BitOr = 4
binary_level b.BitXor = 5
binary_level b.BitAnd = 6
binary_level b.ShiftLeft = 7
binary_level b.ShiftRight = 7
binary_level b.Concat = 8
binary_level b.Add = 9
binary_level b.Sub = 9
binary_level b.Mul = 10
binary_level b.FloorDiv = 10
binary_level b.Mod = 10

abbrev pub op_level : Op → ℕ
op_level or = 1
op_level and = 2
op_level (plain op) = binary_level op

-- the level of `..`, the only one that groups to the right
abbrev pub concat_level : ℕ
concat_level = 8

abbrev pub unary_level : ℕ
unary_level = 11

abbrev pub operand_level : ℕ
operand_level = 12

-- The least levels of the parts of an operator of a level.
abbrev pub left_level : ℕ → ℕ
left_level n = if nat_eq n 8 then n + 1 else n

abbrev pub right_level : ℕ → ℕ
right_level n = if nat_eq n 8 then n else n + 1

abbrev pub binary_sign : Binary → Sign
binary_sign b.Lt = s.Less
binary_sign b.Gt = s.Greater
binary_sign b.Le = s.LessEqual
binary_sign b.Ge = s.GreaterEqual
binary_sign b.Ne = s.NotEqual
binary_sign b.Eq = s.EqualEqual
binary_sign b.BitOr = s.Pipe
binary_sign b.BitXor = s.Tilde
binary_sign b.BitAnd = s.Amp
binary_sign b.ShiftLeft = s.ShiftLeft
binary_sign b.ShiftRight = s.ShiftRight
binary_sign b.Concat = s.DotDot
binary_sign b.Add = s.Plus
binary_sign b.Sub = s.Minus
binary_sign b.Mul = s.Star
binary_sign b.FloorDiv = s.SlashSlash
binary_sign b.Mod = s.Percent

abbrev pub op_lexeme : Op → Lexeme
op_lexeme or = l.Word w.Or
op_lexeme and = l.Word w.And
op_lexeme (plain op) = l.Sign (binary_sign op)

abbrev pub unary_lexeme : Unary → Lexeme
unary_lexeme u.Not = l.Word w.Not
unary_lexeme u.Len = l.Sign s.Hash
unary_lexeme u.Neg = l.Sign s.Minus
unary_lexeme u.BitNot = l.Sign s.Tilde

-- ---- names that the grammar knows

-- `const`
abbrev pub const_name : List ℕ
const_name = 99 ∷ 111 ∷ 110 ∷ 115 ∷ 116 ∷ []

-- `self`
abbrev pub self_name : List ℕ
self_name = 115 ∷ 101 ∷ 108 ∷ 102 ∷ []
