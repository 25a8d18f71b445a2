-- Which token comes next.
use Rattle.std.specs.Prelude.{ℕ, nat_eq, nat_le, if◌then◌else◌, Bool, true, false, Option, Some, None}
use Rattle.lua_tokens.specs.declared.token.Lexeme.{Lexeme}
use Rattle.lua_tokens.specs.declared.token.Lexeme.TheVariants as l
use Rattle.lua_tokens.specs.declared.sign.Sign.{Sign}
use Rattle.lua_tokens.specs.declared.sign.Sign.TheVariants as s
use Rattle.lua_tokens.specs.declared.word.Word.{Word}
use Rattle.lua_tokens.specs.declared.word.Word.TheVariants as w
use Rattle.lua_tree.specs.declared.operator.Binary.TheVariants as b
use Rattle.lua_tree.specs.declared.operator.Unary.{Unary}
use Rattle.lua_tree.specs.declared.operator.Unary.TheVariants as u
use Rattle.lua_grammar.specs.Tokens.{Op, or, and, plain, op_level}
use Rattle.lua_grammar.specs.Written.{Bytes, Atom, nil, yes, no, int, quote, dots}

-- ---- a number for each word and sign

abbrev pub word_number : Word → ℕ
word_number w.And = 4
word_number w.Break = 5
word_number w.Do = 6
word_number w.Else = 7
word_number w.Elseif = 8
word_number w.End = 9
word_number w.False = 10
word_number w.For = 11
word_number w.Function = 12
word_number w.Goto = 13
word_number w.If = 14
word_number w.In = 15
word_number w.Local = 16
word_number w.Nil = 17
word_number w.Not = 18
word_number w.Or = 19
word_number w.Repeat = 20
word_number w.Return = 21
word_number w.Then = 22
word_number w.True = 23
word_number w.Until = 24
word_number w.While = 25

abbrev pub sign_number : Sign → ℕ
sign_number s.Plus = 26
sign_number s.Minus = 27
sign_number s.Star = 28
sign_number s.Slash = 29
sign_number s.Percent = 30
sign_number s.Caret = 31
sign_number s.Hash = 32
sign_number s.Amp = 33
sign_number s.Tilde = 34
sign_number s.Pipe = 35
sign_number s.ShiftLeft = 36
sign_number s.ShiftRight = 37
sign_number s.SlashSlash = 38
sign_number s.EqualEqual = 39
sign_number s.NotEqual = 40
sign_number s.LessEqual = 41
sign_number s.GreaterEqual = 42
sign_number s.Less = 43
sign_number s.Greater = 44
sign_number s.Equal = 45
sign_number s.OpenParen = 46
sign_number s.CloseParen = 47
sign_number s.OpenBrace = 48
sign_number s.CloseBrace = 49
sign_number s.OpenBracket = 50
sign_number s.CloseBracket = 51
sign_number s.ColonColon = 52
sign_number s.Semicolon = 53
sign_number s.Colon = 54
sign_number s.Comma = 55
sign_number s.Dot = 56
sign_number s.DotDot = 57
sign_number s.DotDotDot = 58

abbrev pub lexeme_number : Lexeme → ℕ
lexeme_number (l.Name n) = 0
lexeme_number (l.Int n) = 1
lexeme_number (l.Text t) = 2
lexeme_number l.End = 3
lexeme_number (l.Word x) = word_number x
lexeme_number (l.Sign x) = sign_number x

-- of a word, a sign or the end: whether it is the same
abbrev pub same : Lexeme → Lexeme → Bool
same x y = nat_eq (lexeme_number x) (lexeme_number y)

-- ---- what a reader may look for, and what it finds there

abbrev pub is : Lexeme → Lexeme → Option (Unit {0})
is x y = if same x y then Some tt else None

abbrev pub is_sign : Sign → Lexeme → Option (Unit {0})
is_sign x = is (l.Sign x)

abbrev pub is_word : Word → Lexeme → Option (Unit {0})
is_word x = is (l.Word x)

abbrev pub a_name : Lexeme → Option Bytes
a_name (l.Name n) = Some n
a_name _ = None

abbrev pub a_text : Lexeme → Option Bytes
a_text (l.Text t) = Some t
a_text _ = None

abbrev pub an_atom : Lexeme → Option Atom
an_atom (l.Int n) = Some (int n)
an_atom (l.Text t) = Some (quote t)
an_atom (l.Word w.Nil) = Some nil
an_atom (l.Word w.True) = Some yes
an_atom (l.Word w.False) = Some no
an_atom (l.Sign s.DotDotDot) = Some dots
an_atom _ = None

abbrev pub an_op : Lexeme → Option Op
an_op (l.Word w.Or) = Some or
an_op (l.Word w.And) = Some and
an_op (l.Sign s.Less) = Some (plain b.Lt)
an_op (l.Sign s.Greater) = Some (plain b.Gt)
an_op (l.Sign s.LessEqual) = Some (plain b.Le)
an_op (l.Sign s.GreaterEqual) = Some (plain b.Ge)
an_op (l.Sign s.NotEqual) = Some (plain b.Ne)
an_op (l.Sign s.EqualEqual) = Some (plain b.Eq)
an_op (l.Sign s.Pipe) = Some (plain b.BitOr)
an_op (l.Sign s.Tilde) = Some (plain b.BitXor)
an_op (l.Sign s.Amp) = Some (plain b.BitAnd)
an_op (l.Sign s.ShiftLeft) = Some (plain b.ShiftLeft)
an_op (l.Sign s.ShiftRight) = Some (plain b.ShiftRight)
an_op (l.Sign s.DotDot) = Some (plain b.Concat)
an_op (l.Sign s.Plus) = Some (plain b.Add)
an_op (l.Sign s.Minus) = Some (plain b.Sub)
an_op (l.Sign s.Star) = Some (plain b.Mul)
an_op (l.Sign s.SlashSlash) = Some (plain b.FloorDiv)
an_op (l.Sign s.Percent) = Some (plain b.Mod)
an_op _ = None

abbrev pub of_level : ℕ → Option Op → Option Op
of_level m None = None
of_level m (Some op) = if nat_le m (op_level op) then Some op else None

-- a binary operator of this level or above
abbrev pub an_op_from : ℕ → Lexeme → Option Op
an_op_from m x = of_level m (an_op x)

abbrev pub a_unary : Lexeme → Option Unary
a_unary (l.Word w.Not) = Some u.Not
a_unary (l.Sign s.Hash) = Some u.Len
a_unary (l.Sign s.Minus) = Some u.Neg
a_unary (l.Sign s.Tilde) = Some u.BitNot
a_unary _ = None

-- what may follow `return` where it gives no values
abbrev pub ends_return : Lexeme → Bool
ends_return l.End = true
ends_return (l.Word w.End) = true
ends_return (l.Word w.Else) = true
ends_return (l.Word w.Elseif) = true
ends_return (l.Word w.Until) = true
ends_return (l.Sign s.Semicolon) = true
ends_return _ = false
