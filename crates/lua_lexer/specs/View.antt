-- What the code's values stand for.
use Rattle.std.specs.Prelude.{◌≡◌, ℕ, ◌<◌, ◌≤◌, ◌^◌, map, length, Vec, List, [], ◌∷◌, Option, Some, None, Result, Ok, Err}
use denote.Ref.{Bor}
use Rattle.std.specs.declared.alloc.Global.{Global}
use Rattle.lua_tokens.specs.declared.Lexeme.{Lexeme}
use Rattle.lua_tokens.specs.declared.Lexeme.TheVariants as l
use Rattle.lua_tokens.specs.declared.Sign.{Sign}
use Rattle.lua_tokens.specs.declared.Token.{Token}
use Rattle.lua_tokens.specs.declared.Place.{Place}
use Rattle.lua_lexer.specs.declared.limit.TheConstants.{LONGEST}
use Rattle.lua_lexer.specs.declared.stop.Why.{Why}
use Rattle.lua_lexer.specs.declared.stop.Why.TheVariants as why
use Rattle.lua_lexer.specs.declared.stop.Stop.{Stop}
use Rattle.lua_lexer.specs.declared.stop.Stop.TheVariants.{At, Memory}
use Rattle.lua_lexer.specs.declared.fault.LexFault.{LexFault}
use Rattle.lua_lexer.specs.declared.fault.LexFault.TheVariants as f
use Rattle.lua_lexer.specs.declared.escape.Piece.{Piece}
use Rattle.lua_lexer.specs.declared.escape.Piece.TheVariants as e
use Rattle.lua_lexer.specs.Spellings.{utf8, Quoted, Broken}
use Rattle.lua_lexer.specs.Tokens.{Lex, name, int, text, word, sign, finish, Mark, place, line, Lexes, LexFails}
use Rattle.lua_lexer.specs.Reading.{Outcome}

abbrev pub joined : Option (ℕ × Bor (List ℕ)) → List ℕ
joined None = []
joined (Some x) = x.0 ∷ x.1.now

abbrev pub seen : Option (ℕ × Bor (List ℕ)) → Option (ℕ × List ℕ)
seen None = None
seen (Some x) = Some (x.0, x.1.now)

abbrev pub seen_pair : Option (Bor (List ℕ) × Bor (List ℕ)) → Option (List ℕ × List ℕ)
seen_pair None = None
seen_pair (Some x) = Some (x.0.now, x.1.now)

abbrev pub seen_bytes : Option (Bor (List ℕ)) → Option (List ℕ)
seen_bytes None = None
seen_bytes (Some x) = Some x.now

abbrev pub seen_sign : Option (Sign × Bor (List ℕ)) → Option (Sign × List ℕ)
seen_sign None = None
seen_sign (Some x) = Some (x.0, x.1.now)

abbrev pub Fails : {A : Type 0} → Outcome A → Stop → Type 0
Fails outcome (At why rest) = outcome ≡ Err (why, rest.now)
Fails outcome Memory = Unit {0}

-- what the reading of bytes gives, unless memory runs out
abbrev pub Reads : {X A : Type 0} → (X → A) → Outcome A → Result (X × Bor (List ℕ)) Stop → Type 0
Reads f outcome (Ok x) = outcome ≡ Ok (f x.0, x.1.now)
Reads f outcome (Err e) = Fails outcome e

abbrev pub items : Vec ℕ Global → List ℕ
items v = v.items

abbrev pub lex : Lexeme → Lex
lex (l.Name bs) = name bs
lex (l.Int n) = int n
lex (l.Text bs) = text bs
lex (l.Word w) = word w
lex (l.Sign s) = sign s
lex l.End = finish

abbrev pub token : Token → Mark
token t = record { what = lex t.what; at = t.place.at; line = t.place.line }

-- the tokens of the code as those of the definition
abbrev pub marks : List Token → List Mark
marks ts = map token ts

-- this is the fault of the script, at its place
abbrev pub FailsAt : List ℕ → Why → Place → Type 0
FailsAt script why p =
    (rest : List ℕ) × LexFails script (why, rest) × (p.at ≡ place script rest) × (p.line
    ≡ line script rest)

-- what a fault says of a script
abbrev pub IsFault : List ℕ → LexFault → Type 0
IsFault script (f.BadByte p) = FailsAt script why.BadByte p
IsFault script (f.BadNumeral p) = FailsAt script why.BadNumeral p
IsFault script (f.FloatNumeral p) = FailsAt script why.FloatNumeral p
IsFault script (f.BadEscape p) = FailsAt script why.BadEscape p
IsFault script (f.OpenString p) = FailsAt script why.OpenString p
IsFault script (f.OpenComment p) = FailsAt script why.OpenComment p
IsFault script f.TooLong = LONGEST < length script
IsFault script f.Memory = Unit {0}

-- the bytes that an escape gives
abbrev pub piece_bytes : Piece → List ℕ
piece_bytes e.Nothing = []
piece_bytes (e.Byte b) = b ∷ []
piece_bytes (e.Point n) = utf8 n

abbrev pub seen_piece : Option (Piece × Bor (List ℕ)) → Option (List ℕ × List ℕ)
seen_piece None = None
seen_piece (Some x) = Some (piece_bytes x.0, x.1.now)

-- the number, where it is below 2^31
abbrev pub IsCode : ℕ → Option ℕ → Type 0
IsCode n (Some m) = (n < 2 ^ 31) × (m ≡ n)
IsCode n None = 2 ^ 31 ≤ n

-- the list, unless memory runs out
abbrev pub Stores : List ℕ → Result (Vec ℕ Global) Stop → Type 0
Stores bs (Ok v) = v.items ≡ bs
Stores bs (Err Memory) = Unit {0}
Stores bs (Err _) = ⊥

-- the bytes of a string after its quote, or what breaks it off
abbrev pub ReadsString : List ℕ → ℕ → List ℕ → Result (Vec ℕ Global × Bor (List ℕ)) Stop → Type 0
ReadsString at quote bs (Ok x) = Quoted quote bs x.0.items x.1.now
ReadsString at quote bs (Err (At why rest)) = Broken at quote bs (why, rest.now)
ReadsString at quote bs (Err Memory) = Unit {0}

-- the tokens of the script, or its fault with the bytes from its place on
abbrev pub Answers : List ℕ → Result (List Token) Stop → Type 0
Answers script (Ok ts) = Lexes script (marks ts)
Answers script (Err (At why rest)) = LexFails script (why, rest.now)
Answers script (Err Memory) = Unit {0}

-- the fault at this place
abbrev pub placed : Why → Place → LexFault
placed why.BadByte p = f.BadByte p
placed why.BadNumeral p = f.BadNumeral p
placed why.FloatNumeral p = f.FloatNumeral p
placed why.BadEscape p = f.BadEscape p
placed why.OpenString p = f.OpenString p
placed why.OpenComment p = f.OpenComment p
