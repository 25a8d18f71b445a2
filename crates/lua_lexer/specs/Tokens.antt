-- What the tokens of a script are (Lua manual, section 3.1): gaps and spellings by turns, and the
-- end last; and what a fault is, where they are neither.
use Rattle.std.specs.Prelude.{◌≡◌, ◌≢◌, ℕ, ℤ, ◌+◌, ◌-◌, ◌≤◌, Bool, true, false, if◌then◌else◌, nat_eq, List, [], ◌∷◌, ◌++◌, length, take, Option, Some, None}
use Rattle.lua_lexer.specs.declared.stop.Why.{Why}
use Rattle.lua_lexer.specs.declared.stop.Why.TheVariants.{BadByte, OpenString, OpenComment, BadNumeral, FloatNumeral}
use Rattle.lua_tokens.specs.declared.Word.{Word}
use Rattle.lua_tokens.specs.declared.Sign.{Sign}
use Rattle.int_ops.specs.Reading.{integer_of}
use Rattle.lua_lexer.specs.Bytes.{is_blank, is_inline, is_letter, is_quote, past, line_ends, line_feeds, past_line_end}
use Rattle.lua_lexer.specs.Spellings.{up_to_close, opens, dashes, comment, is_name, keyword, sign_text, numeral_run, past_numeral, begins_numeral, is_numeral, is_float, Quoted, Broken}

-- ---- gaps

-- blanks and comments, any number of them
pub data Skips : List ℕ → List ℕ → Type 0 where
  none : (bs : List ℕ) → Skips bs bs
  blank : (b : ℕ) (bs here : List ℕ) → is_blank b ≡ true → Skips bs here → Skips (b ∷ bs) here
  remark : (bs inside behind here : List ℕ) → dashes bs ≡ Some inside → comment inside ≡ Some behind
      → Skips behind here → Skips bs here

abbrev pub begins_blank : List ℕ → Bool
begins_blank [] = false
begins_blank (b ∷ bs) = is_blank b

abbrev pub comment_behind : Option (List ℕ) → Option (List ℕ)
comment_behind None = None
comment_behind (Some inside) = comment inside

-- what stands after the comment that stands here
abbrev pub comment_here : List ℕ → Option (List ℕ)
comment_here bs = comment_behind (dashes bs)

-- a gap, as long as possible, and here what stands after it
pub record Gap (bs here : List ℕ) : Type 0 where
  pub skips : Skips bs here
  pub no_blank : begins_blank here ≡ false
  pub no_comment : comment_here here ≡ None

-- ---- spellings

-- what a token is, without where it lies in memory
pub data Lex : Type 0 where
  name : List ℕ → Lex
  int : ℤ → Lex
  text : List ℕ → Lex
  word : Word → Lex
  sign : Sign → Lex
  finish : Lex

-- a token's spelling stands at the front of bs, and here what stands after it: one rule for each
-- kind of token
pub data Stands (bs : List ℕ) : Lex → List ℕ → Type 0 where
  a_name : (front rest : List ℕ) → bs ≡ front ++ rest → is_name front ≡ true → keyword front ≡ None
      → Stands bs (name front) rest
  a_word : (front rest : List ℕ) (w : Word) → bs ≡ front ++ rest → is_name front ≡ true
      → keyword front ≡ Some w → Stands bs (word w) rest
  an_integer : (front rest : List ℕ) (n : ℤ) → bs ≡ front ++ rest → is_numeral front ≡ true
      → integer_of front ≡ Some n → Stands bs (int n) rest
  a_sign : (s : Sign) (rest : List ℕ) → bs ≡ sign_text s ++ rest → Stands bs (sign s) rest
  a_string : (quote : ℕ) (inside value rest : List ℕ) → bs ≡ quote ∷ inside → is_quote quote ≡ true
      → Quoted quote inside value rest → Stands bs (text value) rest
  a_bracket : (level : ℕ) (inside content rest : List ℕ) → opens bs ≡ Some (level, inside)
      → up_to_close level inside ≡ Some (content, rest)
      → Stands bs (text (line_feeds (past_line_end content))) rest

-- where a numeral begins, the whole run of it or nothing; where a long bracket opens, the whole of
-- it or nothing; where `--` stands, nothing
pub record Allowed (bs rest : List ℕ) : Type 0 where
  pub whole_numeral : begins_numeral bs ≡ true → rest ≡ past_numeral bs
  pub whole_bracket : (level : ℕ) (inside : List ℕ) → opens bs ≡ Some (level, inside)
      → (content : List ℕ) × (up_to_close level inside ≡ Some (content, rest))
  pub no_dashes : dashes bs ≡ None

-- the spelling of a token: no token of any kind that stands there is longer
pub record Spells (bs : List ℕ) (x : Lex) (rest : List ℕ) : Type 0 where
  pub stands : Stands bs x rest
  pub longest : (other : Lex) (more : List ℕ) → Stands bs other more → length rest ≤ length more
  pub allowed : Allowed bs rest

-- the bytes of the token that is spelled here, or none where none is
abbrev pub SpelledAt : List ℕ → Option (List ℕ) → Type 0
SpelledAt bs None = (x : Lex) (rest : List ℕ) → Spells bs x rest → ⊥
SpelledAt bs (Some bytes) = (x : Lex) × (rest : List ℕ) × Spells bs x rest × (bs ≡ bytes ++ rest)

-- ---- tokens

-- a token, with the place where it begins
pub record Mark : Type 0 where
  pub what : Lex
  pub at : ℕ
  pub line : ℕ

-- the place in the script from which these bytes stand, and its line
abbrev pub place : List ℕ → List ℕ → ℕ
place script bs = length script - length bs

abbrev pub line : List ℕ → List ℕ → ℕ
line script bs = 1 + line_ends (take (place script bs) script)

abbrev pub mark : List ℕ → List ℕ → Lex → Mark
mark script bs x = record { what = x; at = place script bs; line = line script bs }

-- a gap and a spelling, and the token with its place
pub record Step (script bs : List ℕ) (m : Mark) (rest : List ℕ) : Type 0 where
  pub here : List ℕ
  pub gapped : Gap bs here
  pub spelled : Spells here m.what rest
  pub placed : m ≡ mark script here m.what

-- a gap, and the end of the script
pub record Last (script bs : List ℕ) (m : Mark) : Type 0 where
  pub gapped : Gap bs []
  pub placed : m ≡ mark script [] finish

-- bs is the rest of the script, and these are its tokens
abbrev pub LexesFrom : List ℕ → List ℕ → List Mark → Type 0
LexesFrom script bs [] = ⊥
LexesFrom script bs (m ∷ []) = Last script bs m
LexesFrom script bs (m ∷ n ∷ ms) =
    (rest : List ℕ) × Step script bs m rest × LexesFrom script rest (n ∷ ms)

-- a first line that begins with `#` is skipped, up to its line end
abbrev pub past_first : List ℕ → List ℕ
past_first [] = []
past_first (b ∷ bs) = if nat_eq b 35 then past is_inline bs else b ∷ bs

-- these are the tokens of the script
abbrev pub Lexes : List ℕ → List Mark → Type 0
Lexes script ms = LexesFrom script (past_first script) ms

-- ---- faults

abbrev pub begins_letter : List ℕ → Bool
begins_letter [] = false
begins_letter (b ∷ bs) = is_letter b

abbrev pub begins_quote : List ℕ → Bool
begins_quote [] = false
begins_quote (b ∷ bs) = is_quote b

-- which fault the first bytes say, where no spelling stands, and from where on
pub data Blames (bs : List ℕ) : Why × List ℕ → Type 0 where
  of_comment : (inside : List ℕ) → dashes bs ≡ Some inside → Blames bs (OpenComment, bs)
  of_float : begins_numeral bs ≡ true → is_float (numeral_run bs) ≡ true
      → Blames bs (FloatNumeral, bs)
  of_numeral : begins_numeral bs ≡ true → is_float (numeral_run bs) ≡ false
      → Blames bs (BadNumeral, bs)
  of_string : (quote : ℕ) (inside : List ℕ) (stop : Why × List ℕ) → bs ≡ quote ∷ inside
      → is_quote quote ≡ true → Broken bs quote inside stop → Blames bs stop
  of_bracket : (level : ℕ) (inside : List ℕ) → opens bs ≡ Some (level, inside)
      → up_to_close level inside ≡ None → Blames bs (OpenString, bs)
  of_byte : begins_letter bs ≡ false → begins_numeral bs ≡ false → begins_quote bs ≡ false
      → opens bs ≡ None → dashes bs ≡ None → Blames bs (BadByte, bs)

-- after a gap stands neither the end nor a spelling
pub record Stuck (bs : List ℕ) (stop : Why × List ℕ) : Type 0 where
  pub here : List ℕ
  pub gapped : Gap bs here
  pub no_end : here ≢ []
  pub no_spelling : (x : Lex) (rest : List ℕ) → Spells here x rest → ⊥
  pub blames : Blames here stop

-- up to a place bs is these tokens, and there it is stuck
abbrev pub FailsFrom : List ℕ → List ℕ → List Mark → Why × List ℕ → Type 0
FailsFrom script bs [] stop = Stuck bs stop
FailsFrom script bs (m ∷ ms) stop =
    (rest : List ℕ) × Step script bs m rest × FailsFrom script rest ms stop

-- this is the fault of the script, with the bytes from its place on
abbrev pub LexFails : List ℕ → Why × List ℕ → Type 0
LexFails script stop = (ms : List Mark) × FailsFrom script (past_first script) ms stop

-- a script has one list of tokens and no fault, or one fault and no list of tokens
pub data OneAnswer (script : List ℕ) : Type 0 where
  list : (ms : List Mark) → Lexes script ms → ((ns : List Mark) → Lexes script ns → ns ≡ ms)
      → ((stop : Why × List ℕ) → LexFails script stop → ⊥) → OneAnswer script
  fault : (stop : Why × List ℕ) → LexFails script stop → ((other : Why × List ℕ)
      → LexFails script other → other ≡ stop) → ((ns : List Mark) → Lexes script ns → ⊥)
      → OneAnswer script
