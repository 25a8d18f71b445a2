-- What the readers of expressions answer, as what is written.
use Rattle.std.proofs.Common.{◌≡◌, ℕ, ◌+◌, max, ◌<◌, ◌≤◌, Bool, false, List, [], ◌∷◌, Option, Some}
use Rattle.lua_tokens.specs.declared.place.Place.{Place}
use Rattle.lua_tokens.specs.declared.token.Token.{Token}
use Rattle.lua_tokens.specs.declared.token.Lexeme.{Lexeme}
use Rattle.lua_tokens.specs.declared.token.Lexeme.TheVariants as l
use Rattle.lua_tokens.specs.declared.sign.Sign.TheVariants as s
use Rattle.lua_tree.specs.declared.expr.Expr.{Expr}
use Rattle.lua_tree.specs.declared.stat.Stat as statement
use Rattle.lua_tree.specs.declared.stat.Body as function_body
use Rattle.lua_grammar.specs.declared.measured.Measured.{Measured}
use Rattle.lua_grammar.specs.declared.measured.Arguments.{Arguments}
use Rattle.lua_grammar.specs.Tokens.{sign, name, Op, op_level, op_lexeme, right_level}
use Rattle.lua_grammar.specs.Written.{Bytes, Exp, table, binary, Args, Tail, Fields, Body, Stats}
use Rattle.lua_grammar.specs.Spelling.{spell, spell_args, spell_tail, spell_fields, spell_body, spell_stats, first}
use Rattle.lua_grammar.specs.Formed.{level, IsPrefix, Formed, FormedArgs, FormedTail, FormedFields, FormedBody, FormedStats, ends_in_prefix, list_ends_in_prefix}
use Rattle.lua_grammar.specs.Erasure.{expr_of, args_of, args_place, tail_of, stats_of, function_of}
use Rattle.lua_grammar.specs.Expressions.{Parts, name_leaf}
use Rattle.lua_grammar.proofs.Heights.{height, args_height, tail_height, fields_height, body_height, stats_height}
use Rattle.lua_grammar.proofs.Fronts.{Meets, Fails}

-- a place for what is not there
abbrev pub here : Place
here = record { at = 0; line = 1 }

-- the next token is no operator of this level or above
abbrev pub Below : ℕ → List Token → Type 0
Below m ts = (op : Op) → first ts ≡ Some (op_lexeme op) → op_level op < m

-- the next token opens no call of what ends in a prefix
abbrev pub NoCall : Bool → List Token → Type 0
NoCall prefix ts = first ts ≡ Some (l.Sign s.OpenParen) → prefix ≡ false

-- operators of this level and above would go on with the last part
abbrev pub edge : Exp → ℕ
edge (binary op p x y) = right_level (op_level op)
edge _ = 12

-- ---- expressions of a level and a depth

pub record Good (d m : ℕ) (e : Exp) : Type 0 where
  pub formed : Formed e
  pub high : m ≤ level e
  pub low : height e ≤ d

pub record IsExpr (d m : ℕ) (ts : List Token) (x : Measured Expr) (rest : List Token) : Type 0 where
  pub written : Exp
  pub good : Good d m written
  pub what : x.what ≡ expr_of written
  pub depth : x.depth ≡ height written
  pub spelled : ts ≡ spell written rest
  pub no_call : NoCall (ends_in_prefix written) rest
  pub apart : Below (edge written) rest

abbrev pub ReadsExpr : ℕ → ℕ → List Token → Measured Expr → List Token → Type 0
ReadsExpr d m ts x rest = IsExpr d m ts x rest × Below m rest

abbrev pub FailsExpr : ℕ → ℕ → List Token → List Token → Type 0
FailsExpr d m ts rest = Fails (Good d m) spell ts rest

-- ---- prefixes of a kind

pub record GoodPrefix (K : Exp → Type 0) (d : ℕ) (e : Exp) : Type 0 where
  pub formed : Formed e
  pub kind : K e
  pub low : height e ≤ d

pub record Prefixed (K : Exp → Type 0) (d : ℕ) (ts : List Token) (x : Measured Expr) (rest : List Token) : Type 0 where
  pub written : Exp
  pub good : GoodPrefix K d written
  pub prefix : IsPrefix written
  pub what : x.what ≡ expr_of written
  pub depth : x.depth ≡ height written
  pub spelled : ts ≡ spell written rest

-- the same, that begins with this token
pub record GoodFront (K : Exp → Type 0) (d : ℕ) (o : Option Lexeme) (e : Exp) : Type 0 where
  pub formed : Formed e
  pub kind : K e
  pub low : height e ≤ d
  pub begins : first (spell e []) ≡ o

abbrev pub FailsPrefix : (Exp → Type 0) → ℕ → List Token → List Token → Type 0
FailsPrefix K d ts rest = Fails (GoodFront K d (first ts)) spell ts rest

-- ---- lists of at least one

abbrev pub spell_list : Exp × Tail → List Token → List Token
spell_list x k = spell x.0 (spell_tail x.1 k)

pub record GoodList (d : ℕ) (x : Exp × Tail) : Type 0 where
  pub formed : Formed x.0
  pub tail : FormedTail x.1
  pub low : max (height x.0) (tail_height x.1) ≤ d

pub record ReadsList (d : ℕ) (ts : List Token) (x : Measured (List Expr)) (rest : List Token) : Type 0 where
  pub written : Exp × Tail
  pub good : GoodList d written
  pub what : x.what ≡ expr_of written.0 ∷ tail_of written.1
  pub depth : x.depth ≡ max (height written.0) (tail_height written.1)
  pub spelled : ts ≡ spell_list written rest
  pub no_call : NoCall (list_ends_in_prefix written.0 written.1) rest

abbrev pub FailsList : ℕ → List Token → List Token → Type 0
FailsList d ts rest = Fails (GoodList d) spell_list ts rest

-- ---- arguments

pub record GoodArgs (d : ℕ) (a : Args) : Type 0 where
  pub formed : FormedArgs a
  pub low : args_height a ≤ d

pub record ReadsArgs (d : ℕ) (ts : List Token) (a : Arguments) (rest : List Token) : Type 0 where
  pub written : Args
  pub good : GoodArgs d written
  pub what : a.exprs.what ≡ args_of written
  pub depth : a.exprs.depth ≡ args_height written
  pub place : a.place ≡ args_place written
  pub spelled : ts ≡ spell_args written rest

abbrev pub FailsArgs : ℕ → List Token → List Token → Type 0
FailsArgs d ts rest = Fails (GoodArgs d) spell_args ts rest

-- ---- a table after its brace: its fields, and the place of the brace that closes it

abbrev pub spell_table : Fields × Place → List Token → List Token
spell_table x k = spell_fields x.0 (sign s.CloseBrace x.1 ∷ k)

pub record GoodTable (d : ℕ) (x : Fields × Place) : Type 0 where
  pub formed : FormedFields x.0
  pub low : fields_height x.0 + 1 ≤ d

pub record ReadsTable (d : ℕ) (p : Place) (ts : List Token) (x : Measured Expr) (rest : List Token) : Type 0 where
  pub written : Fields × Place
  pub good : GoodTable d written
  pub what : x.what ≡ expr_of (table p written.0 written.1)
  pub depth : x.depth ≡ fields_height written.0 + 1
  pub spelled : ts ≡ spell_table written rest

-- ---- function bodies and blocks

pub record GoodBody (d : ℕ) (b : Body) : Type 0 where
  pub formed : FormedBody b
  pub low : body_height b ≤ d

pub record ReadsBody (d : ℕ) (at : Place) (before : List (Bytes × Place)) (ts : List Token) (x : Measured function_body.Body) (rest : List Token) : Type 0 where
  pub written : Body
  pub good : GoodBody d written
  pub what : x.what ≡ function_of at before written
  pub depth : x.depth ≡ body_height written
  pub spelled : ts ≡ spell_body written rest

pub record GoodStats (d : ℕ) (ss : Stats) : Type 0 where
  pub formed : FormedStats ss
  pub low : stats_height ss ≤ d

pub record ReadsStats (d : ℕ) (ts : List Token) (x : Measured (List statement.Stat)) (rest : List Token) : Type 0 where
  pub written : Stats
  pub formed : FormedStats written
  pub low : stats_height written + 1 ≤ d
  pub what : x.what ≡ stats_of written
  pub depth : x.depth ≡ stats_height written + 1
  pub spelled : ts ≡ spell_stats written rest

pub record GoodBlock (d : ℕ) (ss : Stats) : Type 0 where
  pub formed : FormedStats ss
  pub low : stats_height ss + 1 ≤ d

-- ---- what is known of the readers of the parts

pub record SoundParts (P : Parts) : Type 0 where
  pub expr : 1 ≤ P.depth → (m : ℕ) → m ≤ 11 → (ts : List Token) → Meets (ReadsExpr P.depth m ts) (FailsExpr P.depth m ts) (P.expr m ts)
  -- with no room for an expression all is refused
  pub flat : P.depth ≡ 0 → (m : ℕ) (ts : List Token) → Meets (λ x rest. ⊥) (λ rest. rest ≡ ts) (P.expr m ts)
  pub rest : 1 ≤ P.depth → (n : Bytes) (p : Place) (ts : List Token) → Meets (ReadsExpr P.depth 0 (name n p ∷ ts)) (FailsExpr P.depth 0 (name n p ∷ ts)) (P.rest (name_leaf n p) ts)
  pub table : 1 ≤ P.depth → (p : Place) (ts : List Token) → Meets (ReadsTable P.depth p ts) (Fails (GoodTable P.depth) spell_table ts) (P.table p ts)
  pub block : 1 ≤ P.depth → (ts : List Token) → Meets (ReadsStats P.depth ts) (Fails (GoodBlock P.depth) spell_stats ts) (P.block ts)
