-- What goes on with a block, by the next token.
use Rattle.std.specs.Prelude.{ℕ, List, [], ◌∷◌}
use Rattle.lua_tokens.specs.declared.token.Token.{Token}
use Rattle.lua_tokens.specs.declared.token.Lexeme.{Lexeme}
use Rattle.lua_tokens.specs.declared.token.Lexeme.TheVariants as l
use Rattle.lua_tokens.specs.declared.sign.Sign.TheVariants as s
use Rattle.lua_tokens.specs.declared.word.Word.TheVariants as w
use Rattle.lua_parser.specs.declared.start.Start.{Start}
use Rattle.lua_parser.specs.declared.start.Start.TheVariants.{Semicolon, Return, Name, Stat, End}
use Rattle.lua_parser.specs.declared.start.Kind.{Kind}
use Rattle.lua_parser.specs.declared.start.Kind.TheVariants as kind

abbrev pub start_of : Lexeme → Start
start_of (l.Name n) = Name
start_of (l.Sign s.OpenParen) = Stat kind.Paren
start_of (l.Sign s.ColonColon) = Stat kind.Label
start_of (l.Sign s.Semicolon) = Semicolon
start_of (l.Word w.Break) = Stat kind.Break
start_of (l.Word w.Do) = Stat kind.Do
start_of (l.Word w.For) = Stat kind.For
start_of (l.Word w.Function) = Stat kind.Function
start_of (l.Word w.Goto) = Stat kind.Goto
start_of (l.Word w.If) = Stat kind.If
start_of (l.Word w.Local) = Stat kind.Local
start_of (l.Word w.Repeat) = Stat kind.Repeat
start_of (l.Word w.Return) = Return
start_of (l.Word w.While) = Stat kind.While
start_of _ = End

unfoldable pub start_at : List Token → Start
start_at [] = End
start_at (x ∷ ts) = start_of x.what

-- the least depth of the parts of a block that can have such a statement
abbrev pub room_of : Kind → ℕ
room_of kind.Break = 0
room_of kind.Goto = 0
room_of kind.Label = 0
room_of kind.Local = 0
room_of kind.If = 1
room_of kind.For = 1
room_of kind.While = 1
room_of kind.Repeat = 1
room_of kind.Do = 1
room_of kind.Function = 2
room_of kind.Paren = 3
