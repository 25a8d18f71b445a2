-- What a reader finds is the token that it looks for.
use Rattle.std.proofs.Common.{◌≡◌, refl, sym, ◌∙◌, ap, subst, ℕ, nat_eq, nat_le, if◌then◌else◌, ◌≤◌, Bool, true, false, [], Option, Some, None, eqb-true}
use Rattle.std.proofs.lemmas.Bool.{leb-true}
use Rattle.lua_tokens.specs.declared.token.Lexeme.{Lexeme}
use Rattle.lua_tokens.specs.declared.token.Lexeme.TheVariants as l
use Rattle.lua_tokens.specs.declared.sign.Sign.{Sign}
use Rattle.lua_tokens.specs.declared.sign.Sign.TheVariants as s
use Rattle.lua_tokens.specs.declared.word.Word.{Word}
use Rattle.lua_tokens.specs.declared.word.Word.TheVariants as w
use Rattle.lua_tree.specs.declared.operator.Binary.TheVariants as b
use Rattle.lua_tree.specs.declared.operator.Unary.{Unary}
use Rattle.lua_tree.specs.declared.operator.Unary.TheVariants as u
use Rattle.lua_grammar.specs.Tokens.{Op, or, and, plain, op_level, op_lexeme, unary_lexeme}
use Rattle.lua_grammar.specs.Written.{Bytes, Atom, nil, yes, no, int, quote, dots}
use Rattle.lua_grammar.specs.Spelling.{atom_lexeme}
use Rattle.lua_grammar.specs.Next.{word_number, sign_number, lexeme_number, same, is, a_name, a_text, an_atom, an_op, of_level, an_op_from, a_unary}

abbrev pub IsFixed : Lexeme → Type 0
IsFixed (l.Name n) = ⊥
IsFixed (l.Int n) = ⊥
IsFixed (l.Text t) = ⊥
IsFixed (l.Word x) = Unit {0}
IsFixed (l.Sign x) = Unit {0}
IsFixed l.End = Unit {0}

abbrev word_at : ℕ → Lexeme
word_at n =
    if nat_eq n 4 then l.Word w.And else
    if nat_eq n 5 then l.Word w.Break else
    if nat_eq n 6 then l.Word w.Do else
    if nat_eq n 7 then l.Word w.Else else
    if nat_eq n 8 then l.Word w.Elseif else
    if nat_eq n 9 then l.Word w.End else
    if nat_eq n 10 then l.Word w.False else
    if nat_eq n 11 then l.Word w.For else
    if nat_eq n 12 then l.Word w.Function else
    if nat_eq n 13 then l.Word w.Goto else
    if nat_eq n 14 then l.Word w.If else
    if nat_eq n 15 then l.Word w.In else
    if nat_eq n 16 then l.Word w.Local else
    if nat_eq n 17 then l.Word w.Nil else
    if nat_eq n 18 then l.Word w.Not else
    if nat_eq n 19 then l.Word w.Or else
    if nat_eq n 20 then l.Word w.Repeat else
    if nat_eq n 21 then l.Word w.Return else
    if nat_eq n 22 then l.Word w.Then else
    if nat_eq n 23 then l.Word w.True else
    if nat_eq n 24 then l.Word w.Until else
    if nat_eq n 25 then l.Word w.While else
    l.Name []

abbrev sign_at : ℕ → Lexeme
sign_at n =
    if nat_eq n 26 then l.Sign s.Plus else
    if nat_eq n 27 then l.Sign s.Minus else
    if nat_eq n 28 then l.Sign s.Star else
    if nat_eq n 29 then l.Sign s.Slash else
    if nat_eq n 30 then l.Sign s.Percent else
    if nat_eq n 31 then l.Sign s.Caret else
    if nat_eq n 32 then l.Sign s.Hash else
    if nat_eq n 33 then l.Sign s.Amp else
    if nat_eq n 34 then l.Sign s.Tilde else
    if nat_eq n 35 then l.Sign s.Pipe else
    if nat_eq n 36 then l.Sign s.ShiftLeft else
    if nat_eq n 37 then l.Sign s.ShiftRight else
    if nat_eq n 38 then l.Sign s.SlashSlash else
    if nat_eq n 39 then l.Sign s.EqualEqual else
    if nat_eq n 40 then l.Sign s.NotEqual else
    if nat_eq n 41 then l.Sign s.LessEqual else
    if nat_eq n 42 then l.Sign s.GreaterEqual else
    if nat_eq n 43 then l.Sign s.Less else
    if nat_eq n 44 then l.Sign s.Greater else
    if nat_eq n 45 then l.Sign s.Equal else
    if nat_eq n 46 then l.Sign s.OpenParen else
    if nat_eq n 47 then l.Sign s.CloseParen else
    if nat_eq n 48 then l.Sign s.OpenBrace else
    if nat_eq n 49 then l.Sign s.CloseBrace else
    if nat_eq n 50 then l.Sign s.OpenBracket else
    if nat_eq n 51 then l.Sign s.CloseBracket else
    if nat_eq n 52 then l.Sign s.ColonColon else
    if nat_eq n 53 then l.Sign s.Semicolon else
    if nat_eq n 54 then l.Sign s.Colon else
    if nat_eq n 55 then l.Sign s.Comma else
    if nat_eq n 56 then l.Sign s.Dot else
    if nat_eq n 57 then l.Sign s.DotDot else
    if nat_eq n 58 then l.Sign s.DotDotDot else
    l.Name []

-- the word, the sign or the end of this number
abbrev lexeme_at : ℕ → Lexeme
lexeme_at n = if nat_eq n 3 then l.End else (if nat_le n 25 then word_at n else sign_at n)

at_word : (x : Word) → lexeme_at (word_number x) ≡ l.Word x
at_word w.And = refl
at_word w.Break = refl
at_word w.Do = refl
at_word w.Else = refl
at_word w.Elseif = refl
at_word w.End = refl
at_word w.False = refl
at_word w.For = refl
at_word w.Function = refl
at_word w.Goto = refl
at_word w.If = refl
at_word w.In = refl
at_word w.Local = refl
at_word w.Nil = refl
at_word w.Not = refl
at_word w.Or = refl
at_word w.Repeat = refl
at_word w.Return = refl
at_word w.Then = refl
at_word w.True = refl
at_word w.Until = refl
at_word w.While = refl

at_sign : (x : Sign) → lexeme_at (sign_number x) ≡ l.Sign x
at_sign s.Plus = refl
at_sign s.Minus = refl
at_sign s.Star = refl
at_sign s.Slash = refl
at_sign s.Percent = refl
at_sign s.Caret = refl
at_sign s.Hash = refl
at_sign s.Amp = refl
at_sign s.Tilde = refl
at_sign s.Pipe = refl
at_sign s.ShiftLeft = refl
at_sign s.ShiftRight = refl
at_sign s.SlashSlash = refl
at_sign s.EqualEqual = refl
at_sign s.NotEqual = refl
at_sign s.LessEqual = refl
at_sign s.GreaterEqual = refl
at_sign s.Less = refl
at_sign s.Greater = refl
at_sign s.Equal = refl
at_sign s.OpenParen = refl
at_sign s.CloseParen = refl
at_sign s.OpenBrace = refl
at_sign s.CloseBrace = refl
at_sign s.OpenBracket = refl
at_sign s.CloseBracket = refl
at_sign s.ColonColon = refl
at_sign s.Semicolon = refl
at_sign s.Colon = refl
at_sign s.Comma = refl
at_sign s.Dot = refl
at_sign s.DotDot = refl
at_sign s.DotDotDot = refl

found : (x y : Lexeme) → IsFixed x → lexeme_at (lexeme_number x) ≡ x → lexeme_number x ≡ lexeme_number y → y ≡ x
found x (l.Name n) i h e = absurd (subst IsFixed (sym h ∙ ap lexeme_at e) i)
found x (l.Int n) i h e = absurd (subst IsFixed (sym h ∙ ap lexeme_at e) i)
found x (l.Text n) i h e = absurd (subst IsFixed (sym h ∙ ap lexeme_at e) i)
found x l.End i h e = sym (sym h ∙ ap lexeme_at e)
found x (l.Word y) i h e = sym (sym h ∙ ap lexeme_at e ∙ at_word y)
found x (l.Sign y) i h e = sym (sym h ∙ ap lexeme_at e ∙ at_sign y)

at_fixed : (x : Lexeme) → IsFixed x → lexeme_at (lexeme_number x) ≡ x
at_fixed (l.Name n) i = absurd i
at_fixed (l.Int n) i = absurd i
at_fixed (l.Text n) i = absurd i
at_fixed l.End i = refl
at_fixed (l.Word y) i = at_word y
at_fixed (l.Sign y) i = at_sign y

pub is_found : (x : Lexeme) → IsFixed x → (y : Lexeme) (u : Unit {0}) → is x y ≡ Some u → y ≡ x
is_found x i y u e = by_test (same x y) refl e
  where
    by_test : (c : Bool) → same x y ≡ c → (if c then Some tt else None) ≡ Some u → y ≡ x
    by_test true h k = found x y i (at_fixed x i) (eqb-true (lexeme_number x) (lexeme_number y) h)
    by_test false h k = cc

pub name_found : (y : Lexeme) (n : Bytes) → a_name y ≡ Some n → y ≡ l.Name n
name_found (l.Name m) n e = let h : m ≡ n = cc in ap l.Name h
name_found (l.Int m) n e = cc
name_found (l.Text m) n e = cc
name_found l.End n e = cc
name_found (l.Word m) n e = cc
name_found (l.Sign m) n e = cc

pub text_found : (y : Lexeme) (n : Bytes) → a_text y ≡ Some n → y ≡ l.Text n
text_found (l.Text m) n e = let h : m ≡ n = cc in ap l.Text h
text_found (l.Int m) n e = cc
text_found (l.Name m) n e = cc
text_found l.End n e = cc
text_found (l.Word m) n e = cc
text_found (l.Sign m) n e = cc

pub atom_found : (y : Lexeme) (a : Atom) → an_atom y ≡ Some a → y ≡ atom_lexeme a
atom_found (l.Int m) a e = let h : int m ≡ a = cc in ap atom_lexeme h
atom_found (l.Text m) a e = let h : quote m ≡ a = cc in ap atom_lexeme h
atom_found (l.Word w.Nil) a e = let h : nil ≡ a = cc in ap atom_lexeme h
atom_found (l.Word w.True) a e = let h : yes ≡ a = cc in ap atom_lexeme h
atom_found (l.Word w.False) a e = let h : no ≡ a = cc in ap atom_lexeme h
atom_found (l.Sign s.DotDotDot) a e = let h : dots ≡ a = cc in ap atom_lexeme h
atom_found (l.Name m) a e = cc
atom_found l.End a e = cc
atom_found (l.Word w.And) a e = cc
atom_found (l.Word w.Break) a e = cc
atom_found (l.Word w.Do) a e = cc
atom_found (l.Word w.Else) a e = cc
atom_found (l.Word w.Elseif) a e = cc
atom_found (l.Word w.End) a e = cc
atom_found (l.Word w.For) a e = cc
atom_found (l.Word w.Function) a e = cc
atom_found (l.Word w.Goto) a e = cc
atom_found (l.Word w.If) a e = cc
atom_found (l.Word w.In) a e = cc
atom_found (l.Word w.Local) a e = cc
atom_found (l.Word w.Not) a e = cc
atom_found (l.Word w.Or) a e = cc
atom_found (l.Word w.Repeat) a e = cc
atom_found (l.Word w.Return) a e = cc
atom_found (l.Word w.Then) a e = cc
atom_found (l.Word w.Until) a e = cc
atom_found (l.Word w.While) a e = cc
atom_found (l.Sign s.Plus) a e = cc
atom_found (l.Sign s.Minus) a e = cc
atom_found (l.Sign s.Star) a e = cc
atom_found (l.Sign s.Slash) a e = cc
atom_found (l.Sign s.Percent) a e = cc
atom_found (l.Sign s.Caret) a e = cc
atom_found (l.Sign s.Hash) a e = cc
atom_found (l.Sign s.Amp) a e = cc
atom_found (l.Sign s.Tilde) a e = cc
atom_found (l.Sign s.Pipe) a e = cc
atom_found (l.Sign s.ShiftLeft) a e = cc
atom_found (l.Sign s.ShiftRight) a e = cc
atom_found (l.Sign s.SlashSlash) a e = cc
atom_found (l.Sign s.EqualEqual) a e = cc
atom_found (l.Sign s.NotEqual) a e = cc
atom_found (l.Sign s.LessEqual) a e = cc
atom_found (l.Sign s.GreaterEqual) a e = cc
atom_found (l.Sign s.Less) a e = cc
atom_found (l.Sign s.Greater) a e = cc
atom_found (l.Sign s.Equal) a e = cc
atom_found (l.Sign s.OpenParen) a e = cc
atom_found (l.Sign s.CloseParen) a e = cc
atom_found (l.Sign s.OpenBrace) a e = cc
atom_found (l.Sign s.CloseBrace) a e = cc
atom_found (l.Sign s.OpenBracket) a e = cc
atom_found (l.Sign s.CloseBracket) a e = cc
atom_found (l.Sign s.ColonColon) a e = cc
atom_found (l.Sign s.Semicolon) a e = cc
atom_found (l.Sign s.Colon) a e = cc
atom_found (l.Sign s.Comma) a e = cc
atom_found (l.Sign s.Dot) a e = cc
atom_found (l.Sign s.DotDot) a e = cc

pub op_found : (y : Lexeme) (op : Op) → an_op y ≡ Some op → y ≡ op_lexeme op
op_found (l.Name m) op e = cc
op_found (l.Int m) op e = cc
op_found (l.Text m) op e = cc
op_found l.End op e = cc
op_found (l.Word w.Or) op e = let h : or ≡ op = cc in ap op_lexeme h
op_found (l.Word w.And) op e = let h : and ≡ op = cc in ap op_lexeme h
op_found (l.Word w.Break) op e = cc
op_found (l.Word w.Do) op e = cc
op_found (l.Word w.Else) op e = cc
op_found (l.Word w.Elseif) op e = cc
op_found (l.Word w.End) op e = cc
op_found (l.Word w.False) op e = cc
op_found (l.Word w.For) op e = cc
op_found (l.Word w.Function) op e = cc
op_found (l.Word w.Goto) op e = cc
op_found (l.Word w.If) op e = cc
op_found (l.Word w.In) op e = cc
op_found (l.Word w.Local) op e = cc
op_found (l.Word w.Nil) op e = cc
op_found (l.Word w.Not) op e = cc
op_found (l.Word w.Repeat) op e = cc
op_found (l.Word w.Return) op e = cc
op_found (l.Word w.Then) op e = cc
op_found (l.Word w.True) op e = cc
op_found (l.Word w.Until) op e = cc
op_found (l.Word w.While) op e = cc
op_found (l.Sign s.Plus) op e = let h : plain b.Add ≡ op = cc in ap op_lexeme h
op_found (l.Sign s.Minus) op e = let h : plain b.Sub ≡ op = cc in ap op_lexeme h
op_found (l.Sign s.Star) op e = let h : plain b.Mul ≡ op = cc in ap op_lexeme h
op_found (l.Sign s.Slash) op e = cc
op_found (l.Sign s.Percent) op e = let h : plain b.Mod ≡ op = cc in ap op_lexeme h
op_found (l.Sign s.Caret) op e = cc
op_found (l.Sign s.Hash) op e = cc
op_found (l.Sign s.Amp) op e = let h : plain b.BitAnd ≡ op = cc in ap op_lexeme h
op_found (l.Sign s.Tilde) op e = let h : plain b.BitXor ≡ op = cc in ap op_lexeme h
op_found (l.Sign s.Pipe) op e = let h : plain b.BitOr ≡ op = cc in ap op_lexeme h
op_found (l.Sign s.ShiftLeft) op e = let h : plain b.ShiftLeft ≡ op = cc in ap op_lexeme h
op_found (l.Sign s.ShiftRight) op e = let h : plain b.ShiftRight ≡ op = cc in ap op_lexeme h
op_found (l.Sign s.SlashSlash) op e = let h : plain b.FloorDiv ≡ op = cc in ap op_lexeme h
op_found (l.Sign s.EqualEqual) op e = let h : plain b.Eq ≡ op = cc in ap op_lexeme h
op_found (l.Sign s.NotEqual) op e = let h : plain b.Ne ≡ op = cc in ap op_lexeme h
op_found (l.Sign s.LessEqual) op e = let h : plain b.Le ≡ op = cc in ap op_lexeme h
op_found (l.Sign s.GreaterEqual) op e = let h : plain b.Ge ≡ op = cc in ap op_lexeme h
op_found (l.Sign s.Less) op e = let h : plain b.Lt ≡ op = cc in ap op_lexeme h
op_found (l.Sign s.Greater) op e = let h : plain b.Gt ≡ op = cc in ap op_lexeme h
op_found (l.Sign s.Equal) op e = cc
op_found (l.Sign s.OpenParen) op e = cc
op_found (l.Sign s.CloseParen) op e = cc
op_found (l.Sign s.OpenBrace) op e = cc
op_found (l.Sign s.CloseBrace) op e = cc
op_found (l.Sign s.OpenBracket) op e = cc
op_found (l.Sign s.CloseBracket) op e = cc
op_found (l.Sign s.ColonColon) op e = cc
op_found (l.Sign s.Semicolon) op e = cc
op_found (l.Sign s.Colon) op e = cc
op_found (l.Sign s.Comma) op e = cc
op_found (l.Sign s.Dot) op e = cc
op_found (l.Sign s.DotDot) op e = let h : plain b.Concat ≡ op = cc in ap op_lexeme h
op_found (l.Sign s.DotDotDot) op e = cc

pub op_is : (op : Op) → an_op (op_lexeme op) ≡ Some op
op_is or = refl
op_is and = refl
op_is (plain b.Lt) = refl
op_is (plain b.Gt) = refl
op_is (plain b.Le) = refl
op_is (plain b.Ge) = refl
op_is (plain b.Ne) = refl
op_is (plain b.Eq) = refl
op_is (plain b.BitOr) = refl
op_is (plain b.BitXor) = refl
op_is (plain b.BitAnd) = refl
op_is (plain b.ShiftLeft) = refl
op_is (plain b.ShiftRight) = refl
op_is (plain b.Concat) = refl
op_is (plain b.Add) = refl
op_is (plain b.Sub) = refl
op_is (plain b.Mul) = refl
op_is (plain b.FloorDiv) = refl
op_is (plain b.Mod) = refl

pub unary_found : (y : Lexeme) (op : Unary) → a_unary y ≡ Some op → y ≡ unary_lexeme op
unary_found (l.Name m) op e = cc
unary_found (l.Int m) op e = cc
unary_found (l.Text m) op e = cc
unary_found l.End op e = cc
unary_found (l.Word w.Not) op e = let h : u.Not ≡ op = cc in ap unary_lexeme h
unary_found (l.Word w.And) op e = cc
unary_found (l.Word w.Break) op e = cc
unary_found (l.Word w.Do) op e = cc
unary_found (l.Word w.Else) op e = cc
unary_found (l.Word w.Elseif) op e = cc
unary_found (l.Word w.End) op e = cc
unary_found (l.Word w.False) op e = cc
unary_found (l.Word w.For) op e = cc
unary_found (l.Word w.Function) op e = cc
unary_found (l.Word w.Goto) op e = cc
unary_found (l.Word w.If) op e = cc
unary_found (l.Word w.In) op e = cc
unary_found (l.Word w.Local) op e = cc
unary_found (l.Word w.Nil) op e = cc
unary_found (l.Word w.Or) op e = cc
unary_found (l.Word w.Repeat) op e = cc
unary_found (l.Word w.Return) op e = cc
unary_found (l.Word w.Then) op e = cc
unary_found (l.Word w.True) op e = cc
unary_found (l.Word w.Until) op e = cc
unary_found (l.Word w.While) op e = cc
unary_found (l.Sign s.Plus) op e = cc
unary_found (l.Sign s.Minus) op e = let h : u.Neg ≡ op = cc in ap unary_lexeme h
unary_found (l.Sign s.Star) op e = cc
unary_found (l.Sign s.Slash) op e = cc
unary_found (l.Sign s.Percent) op e = cc
unary_found (l.Sign s.Caret) op e = cc
unary_found (l.Sign s.Hash) op e = let h : u.Len ≡ op = cc in ap unary_lexeme h
unary_found (l.Sign s.Amp) op e = cc
unary_found (l.Sign s.Tilde) op e = let h : u.BitNot ≡ op = cc in ap unary_lexeme h
unary_found (l.Sign s.Pipe) op e = cc
unary_found (l.Sign s.ShiftLeft) op e = cc
unary_found (l.Sign s.ShiftRight) op e = cc
unary_found (l.Sign s.SlashSlash) op e = cc
unary_found (l.Sign s.EqualEqual) op e = cc
unary_found (l.Sign s.NotEqual) op e = cc
unary_found (l.Sign s.LessEqual) op e = cc
unary_found (l.Sign s.GreaterEqual) op e = cc
unary_found (l.Sign s.Less) op e = cc
unary_found (l.Sign s.Greater) op e = cc
unary_found (l.Sign s.Equal) op e = cc
unary_found (l.Sign s.OpenParen) op e = cc
unary_found (l.Sign s.CloseParen) op e = cc
unary_found (l.Sign s.OpenBrace) op e = cc
unary_found (l.Sign s.CloseBrace) op e = cc
unary_found (l.Sign s.OpenBracket) op e = cc
unary_found (l.Sign s.CloseBracket) op e = cc
unary_found (l.Sign s.ColonColon) op e = cc
unary_found (l.Sign s.Semicolon) op e = cc
unary_found (l.Sign s.Colon) op e = cc
unary_found (l.Sign s.Comma) op e = cc
unary_found (l.Sign s.Dot) op e = cc
unary_found (l.Sign s.DotDot) op e = cc
unary_found (l.Sign s.DotDotDot) op e = cc

pub unary_is : (op : Unary) → a_unary (unary_lexeme op) ≡ Some op
unary_is u.Not = refl
unary_is u.Len = refl
unary_is u.Neg = refl
unary_is u.BitNot = refl

-- an operator of a level or above

level_found : (m : ℕ) (o : Option Op) (op : Op) → of_level m o ≡ Some op → (o ≡ Some op) × (m ≤ op_level op)
level_found m None op e = cc
level_found m (Some x) op e = by_test (nat_le m (op_level x)) refl e
  where
    by_test : (c : Bool) → nat_le m (op_level x) ≡ c → (if c then Some x else None) ≡ Some op → (Some x ≡ Some op) × (m ≤ op_level op)
    by_test true h k = let e : x ≡ op = cc in (k, subst (λ o. m ≤ op_level o) e (leb-true m (op_level x) h))
    by_test false h k = cc

pub op_from_found : (m : ℕ) (y : Lexeme) (op : Op) → an_op_from m y ≡ Some op → (y ≡ op_lexeme op) × (m ≤ op_level op)
op_from_found m y op e = let h = level_found m (an_op y) op e in (op_found y op h.0, h.1)
