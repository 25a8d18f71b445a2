-- What stands at a cursor.
use Rattle.std.specs.Prelude.{◌≡◌, ℕ, Bool, true, false, if◌then◌else◌, List, [], ◌∷◌, Option, Some, None, Result, Ok, Err}
use denote.Ref.{Bor}
use Rattle.lua_tokens.specs.declared.place.Place.{Place}
use Rattle.lua_tokens.specs.declared.token.Token.{Token}
use Rattle.lua_tokens.specs.declared.token.Lexeme.{Lexeme}
use Rattle.lua_tokens.specs.declared.token.Lexeme.TheVariants as l
use Rattle.lua_tokens.specs.declared.sign.Sign.TheVariants as s
use Rattle.lua_tokens.specs.declared.word.Word.TheVariants as w
use Rattle.lua_tree.specs.declared.expr.ExprKind.{ExprKind}
use Rattle.lua_tree.specs.declared.operator.Unary.{Unary}
use Rattle.lua_grammar.specs.Tokens.{Op}
use Rattle.lua_grammar.specs.Written.{Bytes, Atom}
use Rattle.lua_grammar.specs.Erasure.{atom_kind}
use Rattle.lua_grammar.specs.Next.{same, a_name, a_text, an_atom, an_op_from, a_unary, ends_return}
use Rattle.lua_parser.specs.declared.stop.Stop.{Stop}
use Rattle.lua_parser.specs.declared.stop.Stop.TheVariants as e

-- the next token before the others
abbrev pub begun : Option (Bor Token) → List Token → List Token
begun None ts = []
begun (Some x) ts = x.now ∷ ts

-- what the next token is
unfoldable pub what_of : List Token → Lexeme
what_of [] = l.End
what_of (x ∷ ts) = x.what

-- the tokens after the next one
unfoldable pub rest : List Token → List Token
rest [] = []
rest (x ∷ ts) = ts

-- the place of the next token
unfoldable pub first_place : List Token → Option Place
first_place [] = None
first_place (x ∷ ts) = Some x.place

-- the place of the next token, if it is this one
unfoldable pub place_of : Lexeme → List Token → Option Place
place_of y [] = None
place_of y (x ∷ ts) = if same y x.what then Some x.place else None

abbrev pub beside : {B : Type 0} → Option B → Place → Option (B × Place)
beside None p = None
beside (Some b) p = Some (b, p)

-- what is found in the next token, and its place
unfoldable pub look_at : {B : Type 0} → (Lexeme → Option B) → List Token → Option (B × Place)
look_at look [] = None
look_at look (x ∷ ts) = beside (look x.what) x.place

unfoldable pub name_at : List Token → Option (Bytes × Place)
name_at ts = look_at a_name ts

unfoldable pub text_at : List Token → Option (Bytes × Place)
text_at ts = look_at a_text ts

-- the node of an atom at this place
abbrev pub kind_in : Option Atom → Place → Option ExprKind
kind_in None p = None
kind_in (Some a) p = Some (atom_kind a p)

-- the node of an atom that comes next, and its place
unfoldable pub kind_at : List Token → Option (ExprKind × Place)
kind_at [] = None
kind_at (x ∷ ts) = beside (kind_in (an_atom x.what) x.place) x.place

unfoldable pub op_at : ℕ → List Token → Option (Op × Place)
op_at m ts = look_at (an_op_from m) ts

unfoldable pub unary_at : List Token → Option (Unary × Place)
unary_at ts = look_at a_unary ts

-- whether an expression may begin so
abbrev pub begins : Lexeme → Bool
begins (l.Name n) = true
begins (l.Int n) = true
begins (l.Text t) = true
begins (l.Word w.Nil) = true
begins (l.Word w.True) = true
begins (l.Word w.False) = true
begins (l.Word w.Function) = true
begins (l.Word w.Not) = true
begins (l.Sign s.DotDotDot) = true
begins (l.Sign s.OpenParen) = true
begins (l.Sign s.OpenBrace) = true
begins (l.Sign s.Hash) = true
begins (l.Sign s.Minus) = true
begins (l.Sign s.Tilde) = true
begins _ = false

-- whether the next token may begin an expression
unfoldable pub begins_at : List Token → Bool
begins_at [] = false
begins_at (x ∷ ts) = begins x.what

-- whether an index or a call begins so
abbrev pub is_suffix : Lexeme → Bool
is_suffix (l.Text t) = true
is_suffix (l.Sign s.OpenParen) = true
is_suffix (l.Sign s.OpenBrace) = true
is_suffix (l.Sign s.OpenBracket) = true
is_suffix (l.Sign s.Colon) = true
is_suffix (l.Sign s.Dot) = true
is_suffix _ = false

-- whether an index or a call begins with the next token
unfoldable pub suffix_at : List Token → Bool
suffix_at [] = false
suffix_at (x ∷ ts) = is_suffix x.what

-- whether the next token may follow `return` where it gives no values
unfoldable pub ends_at : List Token → Bool
ends_at [] = false
ends_at (x ∷ ts) = ends_return x.what

-- the tokens after one that was found
abbrev pub after : {B : Type 0} → Option B → List Token → List Token
after None ts = ts
after (Some b) ts = rest ts

-- What is found is taken, if there is room for it.
abbrev pub Takes : {B : Type 0} → Option B → Bool → Result (Option B) Stop → List Token → List Token
    → Type 0
Takes found room (Ok None) old new = (found ≡ None) × (new ≡ old)
Takes found room (Ok (Some b)) old new = (found ≡ Some b) × (room ≡ true) × (new ≡ rest old)
Takes found room (Err e.Deep) old new = (found ≡ None → ⊥) × (room ≡ false) × (new ≡ old)
Takes found room (Err e.Memory) old new = Unit {0}
Takes found room (Err e.Bad) old new = ⊥
Takes found room (Err e.Attribute) old new = ⊥

-- What has to be found is taken.
abbrev pub Needs : {B : Type 0} → Option B → Result B Stop → List Token → List Token → Type 0
Needs found (Ok b) old new = (found ≡ Some b) × (new ≡ rest old)
Needs found (Err e.Bad) old new = (found ≡ None) × (new ≡ old)
Needs found (Err e.Memory) old new = Unit {0}
Needs found (Err e.Deep) old new = ⊥
Needs found (Err e.Attribute) old new = ⊥
