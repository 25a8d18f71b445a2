-- The tokens that begin an expression, and the one after a name that begins it.
use Rattle.std.proofs.Common.{◌≡◌, refl, sym, ap, subst, false, List, ◌∷◌, Option, Some, None}
use Rattle.lua_tokens.specs.declared.place.Place.{Place}
use Rattle.lua_tokens.specs.declared.token.Token.{Token}
use Rattle.lua_tokens.specs.declared.token.Lexeme.{Lexeme}
use Rattle.lua_tokens.specs.declared.token.Lexeme.TheVariants as l
use Rattle.lua_tokens.specs.declared.sign.Sign.TheVariants as s
use Rattle.lua_tokens.specs.declared.word.Word.TheVariants as w
use Rattle.lua_tree.specs.declared.operator.Binary.TheVariants as b
use Rattle.lua_tree.specs.declared.operator.Unary.{Unary}
use Rattle.lua_tree.specs.declared.operator.Unary.TheVariants as u
use Rattle.lua_grammar.specs.Tokens.{token, sign, name, Op, or, and, plain, op_lexeme, unary_lexeme}
use Rattle.lua_grammar.specs.Written.{Bytes, Atom, nil, yes, no, int, quote, dots, Exp, atom, function, variable, group, field, item, call, method, table, unary, binary, Args, listed, braced, quoted}
use Rattle.lua_grammar.specs.Spelling.{atom_lexeme, spell, spell_args, spell_body, spell_fields, first}
use Rattle.lua_grammar.specs.Next.{is_sign, a_name, ends_return}
use Rattle.lua_grammar.proofs.Complete.{Lacks, NoSuffix}

-- ---- the first token

pub data Start : Type 0 where
  an_atom : Atom → Start
  a_function : Start
  a_variable : Bytes → Start
  a_group : Start
  a_table : Start
  a_unary : Unary → Start

abbrev pub start_lexeme : Start → Lexeme
start_lexeme (an_atom a) = atom_lexeme a
start_lexeme a_function = l.Word w.Function
start_lexeme (a_variable n) = l.Name n
start_lexeme a_group = l.Sign s.OpenParen
start_lexeme a_table = l.Sign s.OpenBrace
start_lexeme (a_unary op) = unary_lexeme op

pub record Starts (ts : List Token) : Type 0 where
  pub start : Start
  pub place : Place
  pub rest : List Token
  pub is : ts ≡ token (start_lexeme start) place ∷ rest

pub starts : (e : Exp) (k : List Token) → Starts (spell e k)
starts (atom a p) k = record { start = an_atom a; place = p; rest = k; is = refl }
starts (function p x) k = record { start = a_function; place = p; rest = spell_body x k; is = refl }
starts (variable n p) k = record { start = a_variable n; place = p; rest = k; is = refl }
starts (group p e q) k = record { start = a_group; place = p; rest = spell e (sign s.CloseParen q ∷ k); is = refl }
starts (field e p n q) k = starts e (sign s.Dot p ∷ name n q ∷ k)
starts (item e p x q) k = starts e (sign s.OpenBracket p ∷ spell x (sign s.CloseBracket q ∷ k))
starts (call e a) k = starts e (spell_args a k)
starts (method e p n q a) k = starts e (sign s.Colon p ∷ name n q ∷ spell_args a k)
starts (table p fs q) k = record { start = a_table; place = p; rest = spell_fields fs (sign s.CloseBrace q ∷ k); is = refl }
starts (unary op p e) k = record { start = a_unary op; place = p; rest = spell e k; is = refl }
starts (binary op p x y) k = starts x (token (op_lexeme op) p ∷ spell y k)

-- what no expression begins with
pub record StartFacts (x : Lexeme) : Type 0 where
  pub no_paren : is_sign s.CloseParen x ≡ None
  pub no_brace : is_sign s.CloseBrace x ≡ None
  pub no_bracket : is_sign s.OpenBracket x ≡ None
  pub goes_on : ends_return x ≡ false

pub start_facts : (x : Start) → StartFacts (start_lexeme x)
start_facts (an_atom nil) = record { no_paren = refl; no_brace = refl; no_bracket = refl; goes_on = refl }
start_facts (an_atom yes) = record { no_paren = refl; no_brace = refl; no_bracket = refl; goes_on = refl }
start_facts (an_atom no) = record { no_paren = refl; no_brace = refl; no_bracket = refl; goes_on = refl }
start_facts (an_atom (int n)) = record { no_paren = refl; no_brace = refl; no_bracket = refl; goes_on = refl }
start_facts (an_atom (quote t)) = record { no_paren = refl; no_brace = refl; no_bracket = refl; goes_on = refl }
start_facts (an_atom dots) = record { no_paren = refl; no_brace = refl; no_bracket = refl; goes_on = refl }
start_facts a_function = record { no_paren = refl; no_brace = refl; no_bracket = refl; goes_on = refl }
start_facts (a_variable n) = record { no_paren = refl; no_brace = refl; no_bracket = refl; goes_on = refl }
start_facts a_group = record { no_paren = refl; no_brace = refl; no_bracket = refl; goes_on = refl }
start_facts a_table = record { no_paren = refl; no_brace = refl; no_bracket = refl; goes_on = refl }
start_facts (a_unary u.Not) = record { no_paren = refl; no_brace = refl; no_bracket = refl; goes_on = refl }
start_facts (a_unary u.Len) = record { no_paren = refl; no_brace = refl; no_bracket = refl; goes_on = refl }
start_facts (a_unary u.Neg) = record { no_paren = refl; no_brace = refl; no_bracket = refl; goes_on = refl }
start_facts (a_unary u.BitNot) = record { no_paren = refl; no_brace = refl; no_bracket = refl; goes_on = refl }

pub first_lacks : {B : Type 0} (look : Lexeme → Option B) (ts : List Token) (h : Starts ts) → look (start_lexeme h.start) ≡ None → Lacks look (first ts)
first_lacks look ts h e = subst (λ z. Lacks look (first z)) (sym h.is) e

pub no_close : (e : Exp) (k : List Token) → Lacks (is_sign s.CloseParen) (first (spell e k))
no_close e k = first_lacks (is_sign s.CloseParen) (spell e k) (starts e k) (start_facts (starts e k).start).no_paren

-- ---- after a name that begins an expression

op_no_equal : (op : Op) → is_sign s.Equal (op_lexeme op) ≡ None
op_no_equal or = refl
op_no_equal and = refl
op_no_equal (plain b.Lt) = refl
op_no_equal (plain b.Gt) = refl
op_no_equal (plain b.Le) = refl
op_no_equal (plain b.Ge) = refl
op_no_equal (plain b.Ne) = refl
op_no_equal (plain b.Eq) = refl
op_no_equal (plain b.BitOr) = refl
op_no_equal (plain b.BitXor) = refl
op_no_equal (plain b.BitAnd) = refl
op_no_equal (plain b.ShiftLeft) = refl
op_no_equal (plain b.ShiftRight) = refl
op_no_equal (plain b.Concat) = refl
op_no_equal (plain b.Add) = refl
op_no_equal (plain b.Sub) = refl
op_no_equal (plain b.Mul) = refl
op_no_equal (plain b.FloorDiv) = refl
op_no_equal (plain b.Mod) = refl

args_no_equal : (a : Args) (k : List Token) → Lacks (is_sign s.Equal) (first (spell_args a k))
args_no_equal (listed p es q) k = refl
args_no_equal (braced p fs q) k = refl
args_no_equal (quoted t p) k = refl

no_name : (x : Lexeme) (n : Bytes) (p q : Place) (k rest : List Token) → a_name x ≡ None → token x p ∷ k ≡ token (l.Name n) q ∷ rest → ⊥
no_name x n p q k rest h e = let g : first (token x p ∷ k) ≡ first (token (l.Name n) q ∷ rest) = ap first e in let f : x ≡ l.Name n = cc in let j : a_name x ≡ Some n = ap a_name f in cc

atom_no_name : (a : Atom) → a_name (atom_lexeme a) ≡ None
atom_no_name nil = refl
atom_no_name yes = refl
atom_no_name no = refl
atom_no_name (int n) = refl
atom_no_name (quote t) = refl
atom_no_name dots = refl

unary_no_name : (op : Unary) → a_name (unary_lexeme op) ≡ None
unary_no_name u.Not = refl
unary_no_name u.Len = refl
unary_no_name u.Neg = refl
unary_no_name u.BitNot = refl

-- no `=` stands there, unless one follows the expression
pub after_name : (e : Exp) (k : List Token) (n : Bytes) (p : Place) (rest : List Token) → spell e k ≡ name n p ∷ rest → Lacks (is_sign s.Equal) (first k) → Lacks (is_sign s.Equal) (first rest)
after_name (atom a q) k n p rest e h = absurd (no_name (atom_lexeme a) n q p k rest (atom_no_name a) e)
after_name (function q x) k n p rest e h = absurd (no_name (l.Word w.Function) n q p _ rest refl e)
after_name (variable m q) k n p rest e h = let j : k ≡ rest = cc in subst (λ z. Lacks (is_sign s.Equal) (first z)) j h
after_name (group q x r) k n p rest e h = absurd (no_name (l.Sign s.OpenParen) n q p _ rest refl e)
after_name (field x q m r) k n p rest e h = after_name x _ n p rest e refl
after_name (item x q y r) k n p rest e h = after_name x _ n p rest e refl
after_name (call x a) k n p rest e h = after_name x _ n p rest e (args_no_equal a k)
after_name (method x q m r a) k n p rest e h = after_name x _ n p rest e refl
after_name (table q fs r) k n p rest e h = absurd (no_name (l.Sign s.OpenBrace) n q p _ rest refl e)
after_name (unary op q x) k n p rest e h = absurd (no_name (unary_lexeme op) n q p _ rest (unary_no_name op) e)
after_name (binary op q x y) k n p rest e h = after_name x _ n p rest e (op_no_equal op)

-- ---- what stands before other parts

pub op_starts : (op : Op) → NoSuffix (Some (op_lexeme op))
op_starts or = record { dot = refl; bracket = refl; colon = refl; paren = refl; brace = refl; text = refl }
op_starts and = record { dot = refl; bracket = refl; colon = refl; paren = refl; brace = refl; text = refl }
op_starts (plain b.Lt) = record { dot = refl; bracket = refl; colon = refl; paren = refl; brace = refl; text = refl }
op_starts (plain b.Gt) = record { dot = refl; bracket = refl; colon = refl; paren = refl; brace = refl; text = refl }
op_starts (plain b.Le) = record { dot = refl; bracket = refl; colon = refl; paren = refl; brace = refl; text = refl }
op_starts (plain b.Ge) = record { dot = refl; bracket = refl; colon = refl; paren = refl; brace = refl; text = refl }
op_starts (plain b.Ne) = record { dot = refl; bracket = refl; colon = refl; paren = refl; brace = refl; text = refl }
op_starts (plain b.Eq) = record { dot = refl; bracket = refl; colon = refl; paren = refl; brace = refl; text = refl }
op_starts (plain b.BitOr) = record { dot = refl; bracket = refl; colon = refl; paren = refl; brace = refl; text = refl }
op_starts (plain b.BitXor) = record { dot = refl; bracket = refl; colon = refl; paren = refl; brace = refl; text = refl }
op_starts (plain b.BitAnd) = record { dot = refl; bracket = refl; colon = refl; paren = refl; brace = refl; text = refl }
op_starts (plain b.ShiftLeft) = record { dot = refl; bracket = refl; colon = refl; paren = refl; brace = refl; text = refl }
op_starts (plain b.ShiftRight) = record { dot = refl; bracket = refl; colon = refl; paren = refl; brace = refl; text = refl }
op_starts (plain b.Concat) = record { dot = refl; bracket = refl; colon = refl; paren = refl; brace = refl; text = refl }
op_starts (plain b.Add) = record { dot = refl; bracket = refl; colon = refl; paren = refl; brace = refl; text = refl }
op_starts (plain b.Sub) = record { dot = refl; bracket = refl; colon = refl; paren = refl; brace = refl; text = refl }
op_starts (plain b.Mul) = record { dot = refl; bracket = refl; colon = refl; paren = refl; brace = refl; text = refl }
op_starts (plain b.FloorDiv) = record { dot = refl; bracket = refl; colon = refl; paren = refl; brace = refl; text = refl }
op_starts (plain b.Mod) = record { dot = refl; bracket = refl; colon = refl; paren = refl; brace = refl; text = refl }
