-- What stands at a cursor, by the next token.
use Rattle.std.proofs.Common.{◌≡◌, refl, sym, ◌∙◌, ap, ℕ, nat_eq, nat_le, ◌<◌, ◌≤◌, Bool, true, false, if◌then◌else◌, ◌&&◌, List, [], ◌∷◌, Option, Some, None, Ok, Err}
use Rattle.std.specs.Option.{is_some}
use Rattle.std.proofs.lemmas.Bool.{eq-eqb, eqb-true, lt-leb, le-leb}
use Rattle.lua_tokens.specs.declared.place.Place.{Place}
use Rattle.lua_tokens.specs.declared.token.Token.{Token}
use Rattle.lua_tokens.specs.declared.token.Lexeme.{Lexeme}
use Rattle.lua_tokens.specs.declared.token.Lexeme.TheVariants as l
use Rattle.lua_tokens.specs.declared.sign.Sign.{Sign}
use Rattle.lua_tokens.specs.declared.word.Word.{Word}
use Rattle.lua_tree.specs.declared.expr.ExprKind.{ExprKind}
use Rattle.lua_tree.specs.declared.operator.Unary.{Unary}
use Rattle.lua_grammar.specs.Input.{bad, attribute, attribute_name}
use Rattle.lua_grammar.specs.Tokens.{Op, op_level, const_name}
use Rattle.lua_grammar.specs.Written.{Bytes, Atom}
use Rattle.lua_grammar.specs.Next.{lexeme_number, same, a_name, a_text, an_atom, an_op, of_level, a_unary, ends_return}
use Rattle.std.specs.Cmp.Lexicographic.{pointwise}
use Rattle.lua_grammar.proofs.Local.{attribute_refused, attribute_taken, attribute_other}
use Rattle.lua_grammar.proofs.Found.{IsFixed, is_found}
use Rattle.lua_parser.specs.declared.start.Start.TheVariants.{End}
use Rattle.lua_parser.specs.Starts.{start_of, start_at}
use Rattle.lua_parser.specs.Looks.{rest, what_of, place_of, beside, look_at, name_at, text_at, kind_in, kind_at, op_at, unary_at, begins, begins_at, ends_at, is_suffix, suffix_at}

pub rest_nil : rest [] ≡ []
unfolding rest
rest_nil = refl

pub rest_next : (x : Token) (ts : List Token) → rest (x ∷ ts) ≡ ts
unfolding rest
rest_next x ts = refl

pub what_nil : what_of [] ≡ l.End
unfolding what_of
what_nil = refl

pub what_next : (x : Token) (ts : List Token) → what_of (x ∷ ts) ≡ x.what
unfolding what_of
what_next x ts = refl

-- ---- a word or a sign

same_self : (n : ℕ) → nat_eq n n ≡ true
same_self n = eq-eqb n n refl

pub place_nil : (y : Lexeme) → place_of y [] ≡ None
unfolding place_of
place_nil y = refl

pub place_hit : (y : Lexeme) (x : Token) (ts : List Token) → x.what ≡ y → place_of y (x ∷ ts) ≡ Some x.place
unfolding place_of
place_hit y x ts e = ap (λ z. if same y z then Some x.place else None) e ∙ ap (λ c. if c then Some x.place else None) (same_self (lexeme_number y))

pub place_miss : (y : Lexeme) → IsFixed y → (x : Token) (ts : List Token) → (x.what ≡ y → ⊥) → place_of y (x ∷ ts) ≡ None
unfolding place_of
place_miss y f x ts n = by_test (same y x.what) refl
  where
    by_test : (c : Bool) → same y x.what ≡ c → (if c then Some x.place else None) ≡ None
    by_test true e = absurd (n (is_found y f x.what tt (ap (λ c. if c then Some tt else None) e)))
    by_test false e = refl

pub sign_hit : (s : Sign) (x : Token) (ts : List Token) → x.what ≡ l.Sign s → place_of (l.Sign s) (x ∷ ts) ≡ Some x.place
sign_hit s x ts e = place_hit (l.Sign s) x ts e

pub sign_miss : (s : Sign) (x : Token) (ts : List Token) → (x.what ≡ l.Sign s → ⊥) → place_of (l.Sign s) (x ∷ ts) ≡ None
sign_miss s x ts n = place_miss (l.Sign s) tt x ts n

pub word_hit : (w : Word) (x : Token) (ts : List Token) → x.what ≡ l.Word w → place_of (l.Word w) (x ∷ ts) ≡ Some x.place
word_hit w x ts e = place_hit (l.Word w) x ts e

pub word_miss : (w : Word) (x : Token) (ts : List Token) → (x.what ≡ l.Word w → ⊥) → place_of (l.Word w) (x ∷ ts) ≡ None
word_miss w x ts n = place_miss (l.Word w) tt x ts n

-- ---- a statement

pub start_nil : start_at [] ≡ End
unfolding start_at
start_nil = refl

pub start_next : (x : Token) (ts : List Token) → start_at (x ∷ ts) ≡ start_of x.what
unfolding start_at
start_next x ts = refl

pub ruleset start_rules = (start_nil, start_next)

-- ---- a name or a text

pub name_nil : name_at [] ≡ None
unfolding name_at look_at
name_nil = refl

pub name_hit : (n : Bytes) (x : Token) (ts : List Token) → x.what ≡ l.Name n → name_at (x ∷ ts) ≡ Some (n, x.place)
unfolding name_at look_at
name_hit n x ts e = ap (λ z. beside (a_name z) x.place) e

pub name_miss : (x : Token) (ts : List Token) → ((n : Bytes) → x.what ≡ l.Name n → ⊥) → name_at (x ∷ ts) ≡ None
unfolding name_at look_at
name_miss x ts other = by_what x.what other
  where
    by_what : (y : Lexeme) → ((n : Bytes) → y ≡ l.Name n → ⊥) → beside (a_name y) x.place ≡ None
    by_what (l.Name n) m = absurd (m n refl)
    by_what (l.Int n) m = refl
    by_what (l.Text n) m = refl
    by_what (l.Word n) m = refl
    by_what (l.Sign n) m = refl
    by_what l.End m = refl

pub text_nil : text_at [] ≡ None
unfolding text_at look_at
text_nil = refl

pub text_hit : (n : Bytes) (x : Token) (ts : List Token) → x.what ≡ l.Text n → text_at (x ∷ ts) ≡ Some (n, x.place)
unfolding text_at look_at
text_hit n x ts e = ap (λ z. beside (a_text z) x.place) e

pub text_miss : (x : Token) (ts : List Token) → ((n : Bytes) → x.what ≡ l.Text n → ⊥) → text_at (x ∷ ts) ≡ None
unfolding text_at look_at
text_miss x ts other = by_what x.what other
  where
    by_what : (y : Lexeme) → ((n : Bytes) → y ≡ l.Text n → ⊥) → beside (a_text y) x.place ≡ None
    by_what (l.Text n) m = absurd (m n refl)
    by_what (l.Int n) m = refl
    by_what (l.Name n) m = refl
    by_what (l.Word n) m = refl
    by_what (l.Sign n) m = refl
    by_what l.End m = refl

-- ---- an attribute

pointwise_same : (n m : Bytes) → pointwise nat_eq n m ≡ true → n ≡ m
pointwise_same [] [] e = refl
pointwise_same [] (y ∷ m) e = cc
pointwise_same (x ∷ n) [] e = cc
pointwise_same (x ∷ n) (y ∷ m) e = by_first (nat_eq x y) refl (λ k. pointwise_same n m k) e
  where
    by_first : (c : Bool) → nat_eq x y ≡ c → (pointwise nat_eq n m ≡ true → n ≡ m) → (c && pointwise nat_eq n m) ≡ true → x ∷ n ≡ y ∷ m
    by_first true h same k = let a : x ≡ y = eqb-true x y h in let b : n ≡ m = same k in cc
    by_first false h same k = cc

pub attribute_nil : attribute_name [] ≡ Err (bad, [])
unfolding attribute_name
attribute_nil = refl

pub attribute_hit : (x : Token) (ts : List Token) (n : Bytes) → x.what ≡ l.Name n → pointwise nat_eq n const_name ≡ true → attribute_name (x ∷ ts) ≡ Ok (x.place, ts)
attribute_hit x ts n e k = attribute_taken x ts n (ap a_name e) k

pub attribute_wrong : (x : Token) (ts : List Token) (n : Bytes) → x.what ≡ l.Name n → (n ≡ const_name → ⊥) → attribute_name (x ∷ ts) ≡ Err (attribute, x ∷ ts)
attribute_wrong x ts n e other = attribute_refused x ts n (ap a_name e) (by_test (pointwise nat_eq n const_name) refl)
  where
    by_test : (c : Bool) → pointwise nat_eq n const_name ≡ c → c ≡ false
    by_test true k = absurd (other (pointwise_same n const_name k))
    by_test false k = refl

pub attribute_miss : (x : Token) (ts : List Token) → ((n : Bytes) → x.what ≡ l.Name n → ⊥) → attribute_name (x ∷ ts) ≡ Err (bad, x ∷ ts)
attribute_miss x ts other = attribute_other x ts (by_what x.what other)
  where
    by_what : (y : Lexeme) → ((n : Bytes) → y ≡ l.Name n → ⊥) → a_name y ≡ None
    by_what (l.Name n) m = absurd (m n refl)
    by_what (l.Int n) m = refl
    by_what (l.Text n) m = refl
    by_what (l.Word n) m = refl
    by_what (l.Sign n) m = refl
    by_what l.End m = refl

-- ---- what may follow `return`

pub ends_nil : ends_at [] ≡ false
unfolding ends_at
ends_nil = refl

pub ends_next : (x : Token) (ts : List Token) (y : Lexeme) → x.what ≡ y → ends_at (x ∷ ts) ≡ ends_return y
unfolding ends_at
ends_next x ts y e = ap ends_return e

-- ---- the end

pub end_hit : (x : Token) (ts : List Token) → x.what ≡ l.End → place_of l.End (x ∷ ts) ≡ Some x.place
end_hit x ts e = place_hit l.End x ts e

pub end_miss : (x : Token) (ts : List Token) → (x.what ≡ l.End → ⊥) → place_of l.End (x ∷ ts) ≡ None
end_miss x ts n = place_miss l.End tt x ts n

pub ruleset attribute_rules = (attribute_nil, attribute_hit, attribute_wrong, attribute_miss)

pub ruleset ends_rules = (ends_nil, ends_next)

pub ruleset end_rules = (rest_next, place_nil, end_hit, end_miss)

pub ruleset sign_rules = (place_nil, sign_hit, sign_miss)

pub ruleset word_rules = (place_nil, word_hit, word_miss)

pub ruleset name_rules = (rest_next, what_next, name_nil, name_hit, name_miss)

pub ruleset text_rules = (rest_next, what_next, text_nil, text_hit, text_miss)

-- ---- atoms and operators

pub kind_nil : kind_at [] ≡ None
unfolding kind_at
kind_nil = refl

pub kind_next : (x : Token) (ts : List Token) (o : Option ExprKind) → o ≡ kind_in (an_atom x.what) x.place → kind_at (x ∷ ts) ≡ beside o x.place
unfolding kind_at
kind_next x ts o e = ap (λ o. beside o x.place) (sym e)

-- what is no atom has no node, and what is one has a node
pub kind_none : (y : Lexeme) (p : Place) → is_some (an_atom y) ≡ false → None ≡ kind_in (an_atom y) p
kind_none y p e = by_atom (an_atom y) e
  where
    by_atom : (o : Option Atom) → is_some o ≡ false → None ≡ kind_in o p
    by_atom None k = refl
    by_atom (Some a) k = cc

pub kind_some : (y : Lexeme) (p : Place) → is_some (an_atom y) ≡ true → None ≡ kind_in (an_atom y) p → ⊥
kind_some y p e h = by_atom (an_atom y) e h
  where
    by_atom : (o : Option Atom) → is_some o ≡ true → None ≡ kind_in o p → ⊥
    by_atom None k h = cc
    by_atom (Some a) k h = cc

pub op_nil : (m : ℕ) → op_at m [] ≡ None
unfolding op_at look_at
op_nil m = refl

pub op_miss : (m : ℕ) (x : Token) (ts : List Token) → None ≡ an_op x.what → op_at m (x ∷ ts) ≡ None
unfolding op_at look_at
op_miss m x ts e = ap (λ o. beside (of_level m o) x.place) (sym e)

of_room : (m : ℕ) (o : Op) (c : Bool) → nat_le m (op_level o) ≡ c → of_level m (Some o) ≡ (if c then Some o else None)
of_room m o c e = ap (λ c. if c then Some o else None) e

pub op_under : (m : ℕ) (x : Token) (ts : List Token) (o : Op) → Some o ≡ an_op x.what → op_level o < m → op_at m (x ∷ ts) ≡ None
unfolding op_at look_at
op_under m x ts o e lt = ap (λ o. beside (of_level m o) x.place) (sym e) ∙ ap (λ o. beside o x.place) (of_room m o false (lt-leb m (op_level o) lt))

pub op_hit : (m : ℕ) (x : Token) (ts : List Token) (o : Op) → Some o ≡ an_op x.what → m ≤ op_level o → op_at m (x ∷ ts) ≡ Some (o, x.place)
unfolding op_at look_at
op_hit m x ts o e le = ap (λ o. beside (of_level m o) x.place) (sym e) ∙ ap (λ o. beside o x.place) (of_room m o true (le-leb m (op_level o) le))

pub seen_nil : (m : ℕ) → is_some (op_at m []) ≡ false
unfolding op_at look_at
seen_nil m = refl

pub seen_miss : (m : ℕ) (x : Token) (ts : List Token) → None ≡ an_op x.what → is_some (op_at m (x ∷ ts)) ≡ false
seen_miss m x ts e = ap is_some (op_miss m x ts e)

pub seen_op : (m : ℕ) (x : Token) (ts : List Token) (o : Op) → Some o ≡ an_op x.what → is_some (op_at m (x ∷ ts)) ≡ nat_le m (op_level o)
unfolding op_at look_at
seen_op m x ts o e = ap (λ o. is_some (beside (of_level m o) x.place)) (sym e) ∙ by_room (nat_le m (op_level o))
  where
    by_room : (c : Bool) → is_some (beside (if c then Some o else None) x.place) ≡ c
    by_room true = refl
    by_room false = refl

pub unary_nil : unary_at [] ≡ None
unfolding unary_at look_at
unary_nil = refl

pub unary_next : (x : Token) (ts : List Token) (o : Option Unary) → o ≡ a_unary x.what → unary_at (x ∷ ts) ≡ beside o x.place
unfolding unary_at look_at
unary_next x ts o e = ap (λ o. beside o x.place) (sym e)

pub begins_nil : begins_at [] ≡ false
unfolding begins_at
begins_nil = refl

pub begins_next : (x : Token) (ts : List Token) (y : Lexeme) → x.what ≡ y → begins_at (x ∷ ts) ≡ begins y
unfolding begins_at
begins_next x ts y e = ap begins e

pub ruleset kind_rules = (rest_next, what_next, kind_nil, kind_next, kind_none, kind_some)

pub ruleset op_rules = (rest_next, op_nil, op_miss, op_under, op_hit)

pub ruleset seen_rules = (seen_nil, seen_miss, seen_op)

pub ruleset unary_rules = (rest_next, unary_nil, unary_next)

pub ruleset begins_rules = (begins_nil, begins_next)

pub suffix_nil : suffix_at [] ≡ false
unfolding suffix_at
suffix_nil = refl

pub suffix_next : (x : Token) (ts : List Token) (y : Lexeme) → x.what ≡ y → suffix_at (x ∷ ts) ≡ is_suffix y
unfolding suffix_at
suffix_next x ts y e = ap is_suffix e

pub ruleset suffix_rules = (suffix_nil, suffix_next)
