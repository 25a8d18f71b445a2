-- Places, and line ends in gaps and tokens.
use Rattle.std.proofs.Common.{◌≡◌, refl, sym, ◌∙◌, ap, subst, ℕ, zero, suc, ◌+◌, ◌-◌, ◌≤◌, ◌<◌, Bool, true, false, if◌then◌else◌, nat_eq, ◌&&◌, ◌||◌, List, [], ◌∷◌, ◌++◌, length, take, drop, Option, Some, None, Ok, arith}
use Rattle.std.specs.List.{list_all}
use Rattle.std.proofs.lemmas.Bool.{eqb-true}
use Rattle.lua_tokens.specs.declared.Token.{Token}
use Rattle.lua_tokens.specs.declared.Lexeme.{Lexeme}
use Rattle.lua_tokens.specs.declared.Lexeme.TheVariants as lexeme
use Rattle.lua_lexer.specs.Bytes.{run, past, is_blank, is_inline, is_equals, is_line_end, is_word, is_digit, is_letter, is_pair, is_quote, line_ends, line_feeds, past_line_end}
use Rattle.lua_lexer.specs.Spellings as l
use Rattle.lua_lexer.specs.Tokens.{Lex, name, int, text, word, sign, Skips, none, blank, remark, Gap, begins_blank, Stands, a_name, a_word, an_integer, a_sign, a_string, a_bracket, place, line, mark, past_first}
use Rattle.lua_lexer.specs.Reading.{spelling, is_finish}
use Rattle.lua_lexer.specs.View.{lex, token, marks}
use Rattle.lua_lexer.proofs.LineEnds.{Starts, other_first}
use Rattle.lua_lexer.proofs.Runs.{run_past}
use Rattle.lua_lexer.proofs.Fronts.{Suffix, suffix_refl, suffix_cons, suffix_trans, suffix_past, suffix_drop, suffix_short, Solid, solid_suffix, solid_behind, solid_parts, starts_parts, words_inline, inline_front, equal_end}
use Rattle.lua_lexer.proofs.Strings.{quote_is, quoted_solid}
use Rattle.lua_lexer.proofs.Standing.{signs_inline, stands_short, read_stands, read_end}

-- ---- long brackets

rest_solid : (n : ℕ) (bs : List ℕ) → l.rest_closes n bs ≡ true → Solid bs (drop (n + 1) bs)
rest_solid n [] e = cc
rest_solid zero (b ∷ bs) e = record { last = b; solid = equal_end 93 b refl e; up_to = suffix_refl (b ∷ bs) }
rest_solid (suc n) (b ∷ bs) e = by (nat_eq b 61) e (rest_solid n bs)
  where
    by : (v : Bool) → (v && l.rest_closes n bs) ≡ true → (l.rest_closes n bs ≡ true → Solid bs (drop (n + 1) bs)) → Solid (b ∷ bs) (drop (suc n + 1) (b ∷ bs))
    by true h ih = let e : suc (n + 1) ≡ suc n + 1 = omega arith in subst (λ (k : ℕ). Solid (b ∷ bs) (drop k (b ∷ bs))) e (solid_behind (b ∷ bs) bs (drop (n + 1) bs) (suffix_cons b bs) (ih h))
    by false h ih = cc

closes_solid : (n : ℕ) (bs : List ℕ) → l.closes n bs ≡ true → Solid bs (drop (n + 2) bs)
closes_solid n [] e = cc
closes_solid n (b ∷ bs) e = by (nat_eq b 93) e
  where
    by : (v : Bool) → (v && l.rest_closes n bs) ≡ true → Solid (b ∷ bs) (drop (n + 2) (b ∷ bs))
    by true h = let e : suc (n + 1) ≡ n + 2 = omega arith in subst (λ (k : ℕ). Solid (b ∷ bs) (drop k (b ∷ bs))) e (solid_behind (b ∷ bs) bs (drop (n + 1) bs) (suffix_cons b bs) (rest_solid n bs h))
    by false h = cc

abbrev ClosesAt : ℕ → List ℕ → Option ℕ → Type 0
ClosesAt n bs None = Unit {0}
ClosesAt n bs (Some k) = l.closes n (drop k bs) ≡ true

close_later : (n b : ℕ) (bs : List ℕ) (o : Option ℕ) → ClosesAt n bs o → ClosesAt n (b ∷ bs) (l.one_more o)
close_later n b bs None h = tt
close_later n b bs (Some k) h = h

close_closes : (n : ℕ) (bs : List ℕ) → ClosesAt n bs (l.close_at n bs)
unfolding l.close_at
close_closes n [] = tt
close_closes n (b ∷ bs) = by (l.closes n (b ∷ bs)) refl (close_later n b bs (l.close_at n bs) (close_closes n bs))
  where
    by : (v : Bool) → l.closes n (b ∷ bs) ≡ v → ClosesAt n (b ∷ bs) (l.one_more (l.close_at n bs)) → ClosesAt n (b ∷ bs) (if v then Some 0 else l.one_more (l.close_at n bs))
    by true e h = e
    by false e h = h

abbrev SolidSplit : List ℕ → Option (List ℕ × List ℕ) → Type 0
SolidSplit bs None = Unit {0}
SolidSplit bs (Some x) = Solid bs x.1

split_by : (n : ℕ) (bs : List ℕ) (o : Option ℕ) → ClosesAt n bs o → SolidSplit bs (l.split_close n bs o)
split_by n bs None h = tt
split_by n bs (Some k) h = solid_behind bs (drop k bs) (drop (n + 2) (drop k bs)) (suffix_drop k bs) (closes_solid n (drop k bs) h)

pub close_solid : (n : ℕ) (bs : List ℕ) → SolidSplit bs (l.up_to_close n bs)
close_solid n bs = split_by n bs (l.close_at n bs) (close_closes n bs)

abbrev Opened : List ℕ → Option (ℕ × List ℕ) → Type 0
Opened bs None = Unit {0}
Opened bs (Some x) = Suffix bs x.1

then_opened : (n : ℕ) (bs : List ℕ) → Opened bs (l.then_open n bs)
then_opened n [] = tt
then_opened n (b ∷ bs) = by (nat_eq b 91)
  where
    by : (v : Bool) → Opened (b ∷ bs) (if v then Some (n, bs) else None)
    by true = suffix_cons b bs
    by false = tt

opened_behind : (a b : List ℕ) (o : Option (ℕ × List ℕ)) → Suffix a b → Opened b o → Opened a o
opened_behind a b None s h = tt
opened_behind a b (Some x) s h = suffix_trans a b x.1 s h

opening_opened : (bs : List ℕ) → Opened bs (l.opening bs)
opening_opened bs = opened_behind bs (past is_equals bs) (l.opening bs) (suffix_past is_equals bs) (then_opened (length (run is_equals bs)) (past is_equals bs))

opens_opened : (bs : List ℕ) → Opened bs (l.opens bs)
opens_opened [] = tt
opens_opened (b ∷ bs) = by (nat_eq b 91)
  where
    by : (v : Bool) → Opened (b ∷ bs) (if v then l.opening bs else None)
    by true = opened_behind (b ∷ bs) bs (l.opening bs) (suffix_cons b bs) (opening_opened bs)
    by false = tt

opens_suffix : (bs : List ℕ) (level : ℕ) (inside : List ℕ) → l.opens bs ≡ Some (level, inside) → Suffix bs inside
opens_suffix bs level inside e = subst (Opened bs) e (opens_opened bs)

closed_solid : (level : ℕ) (inside content rest : List ℕ) → l.up_to_close level inside ≡ Some (content, rest) → Solid inside rest
closed_solid level inside content rest e = subst (SolidSplit inside) e (close_solid level inside)

-- ---- gaps

abbrev Leaves : List ℕ → Option (List ℕ) → Type 0
Leaves bs None = Unit {0}
Leaves bs (Some x) = Suffix bs x

closed_leaves : (bs : List ℕ) (o : Option (List ℕ × List ℕ)) → SolidSplit bs o → Leaves bs (l.behind_close o)
closed_leaves bs None h = tt
closed_leaves bs (Some x) h = solid_suffix bs x.1 h

leaves_behind : (a b : List ℕ) (o : Option (List ℕ)) → Suffix a b → Leaves b o → Leaves a o
leaves_behind a b None s h = tt
leaves_behind a b (Some x) s h = suffix_trans a b x s h

comment_by : (bs : List ℕ) (o : Option (ℕ × List ℕ)) → Opened bs o → Leaves bs (l.long_or_line bs o)
comment_by bs None h = suffix_past is_inline bs
comment_by bs (Some o) h = leaves_behind bs o.1 (l.behind_close (l.up_to_close o.0 o.1)) h (closed_leaves o.1 (l.up_to_close o.0 o.1) (close_solid o.0 o.1))

comment_suffix : (bs behind : List ℕ) → l.comment bs ≡ Some behind → Suffix bs behind
comment_suffix bs behind e = subst (Leaves bs) e (comment_by bs (l.opens bs) (opens_opened bs))

abbrev bytes_of : Option (List ℕ) → List ℕ
bytes_of None = []
bytes_of (Some x) = x

dashes_suffix : (bs inside : List ℕ) → l.dashes bs ≡ Some inside → Suffix bs inside
dashes_suffix [] inside e = cc
dashes_suffix (b ∷ []) inside e = cc
dashes_suffix (b ∷ c ∷ bs) inside e = dashed (nat_eq b 45 && nat_eq c 45) e
  where
    dashed : (v : Bool) → (if v then Some bs else None) ≡ Some inside → Suffix (b ∷ c ∷ bs) inside
    dashed true h = subst (λ (z : List ℕ). Suffix (b ∷ c ∷ bs) z) (ap bytes_of h) (suffix_trans (b ∷ c ∷ bs) (c ∷ bs) bs (suffix_cons b (c ∷ bs)) (suffix_cons c bs))
    dashed false h = cc

skips_suffix : (bs here : List ℕ) → Skips bs here → Suffix bs here
skips_suffix _ _ (none bs) = suffix_refl bs
skips_suffix _ _ (blank b bs here e h) = suffix_trans (b ∷ bs) bs here (suffix_cons b bs) (skips_suffix bs here h)
skips_suffix _ _ (remark bs inside behind here d c h) = suffix_trans bs behind here (suffix_trans bs inside behind (dashes_suffix bs inside d) (comment_suffix inside behind c)) (skips_suffix behind here h)

blank_line : (b : ℕ) → is_blank b ≡ false → is_line_end b ≡ false
blank_line b e = by (nat_eq b 10) (nat_eq b 13) refl refl
  where
    by : (u v : Bool) → nat_eq b 10 ≡ u → nat_eq b 13 ≡ v → (u || v) ≡ false
    by true v f g = let h : is_blank b ≡ true = ap is_blank (eqb-true b 10 f) in cc
    by false true f g = let h : is_blank b ≡ true = ap is_blank (eqb-true b 13 g) in cc
    by false false f g = refl

gap_starts : (here : List ℕ) → begins_blank here ≡ false → Starts here
gap_starts [] e = tt
gap_starts (b ∷ bs) e = blank_line b e

pub gap_suffix : (bs here : List ℕ) → Gap bs here → Suffix bs here
gap_suffix bs here g = skips_suffix bs here g.skips

pub gap_within : (bs here : List ℕ) → Gap bs here → length here ≤ length bs
gap_within bs here g = suffix_short bs here (gap_suffix bs here g)

pub gap_lines : (bs here : List ℕ) → Gap bs here → line_ends (take (length bs - length here) bs) + line_ends here ≡ line_ends bs
gap_lines bs here g = (starts_parts bs here (gap_suffix bs here g) (gap_starts here g.no_blank)).lines

-- ---- tokens

front_suffix : (bs front rest : List ℕ) → bs ≡ front ++ rest → Suffix bs rest
front_suffix bs front rest e = record { front = front; whole = e }

string_solid : (bs : List ℕ) (quote : ℕ) (inside value rest : List ℕ) → bs ≡ quote ∷ inside → is_quote quote ≡ true → l.Quoted quote inside value rest → Solid bs rest
string_solid bs quote inside value rest e k h = subst (λ (z : List ℕ). Solid z rest) (sym e) (solid_behind (quote ∷ inside) inside rest (suffix_cons quote inside) (quoted_solid [] quote (quote_is quote k) inside value rest h))

bracket_solid : (bs : List ℕ) (level : ℕ) (inside content rest : List ℕ) → l.opens bs ≡ Some (level, inside) → l.up_to_close level inside ≡ Some (content, rest) → Solid bs rest
bracket_solid bs level inside content rest o u = solid_behind bs inside rest (opens_suffix bs level inside o) (closed_solid level inside content rest u)

stands_suffix : (bs : List ℕ) (x : Lex) (rest : List ℕ) → Stands bs x rest → Suffix bs rest
stands_suffix bs _ _ (a_name front rest e n k) = front_suffix bs front rest e
stands_suffix bs _ _ (a_word front rest w e n k) = front_suffix bs front rest e
stands_suffix bs _ _ (an_integer front rest n e d i) = front_suffix bs front rest e
stands_suffix bs _ _ (a_sign x rest e) = front_suffix bs (l.sign_text x) rest e
stands_suffix bs _ _ (a_string quote inside value rest e k h) = solid_suffix bs rest (string_solid bs quote inside value rest e k h)
stands_suffix bs _ _ (a_bracket level inside content rest o u) = solid_suffix bs rest (bracket_solid bs level inside content rest o u)

abbrev is_text : Lex → Bool
is_text (text t) = true
is_text _ = false

name_words : (front : List ℕ) → l.is_name front ≡ true → list_all is_word front ≡ true
name_words [] e = cc
name_words (b ∷ front) e = by (is_letter b) refl e
  where
    by : (v : Bool) → is_letter b ≡ v → (v && list_all is_word front) ≡ true → list_all is_word (b ∷ front) ≡ true
    by true f h = rw f h
    by false f h = cc

numeral_words : (front : List ℕ) → l.is_numeral front ≡ true → list_all is_word front ≡ true
numeral_words [] e = cc
numeral_words (b ∷ front) e = by (is_digit b) (is_letter b) refl e
  where
    by : (v w : Bool) → is_digit b ≡ v → (v && list_all is_word front) ≡ true → ((w || is_digit b) && list_all is_word front) ≡ true
    by true true f h = h
    by true false f h = rw f h
    by false w f h = cc

-- the lines of a token: none in a token that is no text, and in a text those of its bytes
pub record Lines (x : Lex) (bs rest : List ℕ) : Type 0 where
  pub of_text : is_text x ≡ true → line_ends (take (length bs - length rest) bs) + line_ends rest ≡ line_ends bs
  pub of_other : is_text x ≡ false → 0 + line_ends rest ≡ line_ends bs

not_both : false ≡ true → ⊥
not_both h = cc

inline_lines : (x : Lex) (bs front rest : List ℕ) → is_text x ≡ false → bs ≡ front ++ rest → list_all is_inline front ≡ true → Lines x bs rest
inline_lines x bs front rest n e h = record { of_text = λ f. absurd (not_both (sym n ∙ f)); of_other = λ _. let g = inline_front front rest h in omega (arith, g, ap line_ends e) }

solid_lines : (x : Lex) (bs rest : List ℕ) → is_text x ≡ true → Solid bs rest → Lines x bs rest
solid_lines x bs rest n h = record { of_text = λ _. (solid_parts bs rest h).lines; of_other = λ f. absurd (not_both (sym f ∙ n)) }

stands_lines : (bs : List ℕ) (x : Lex) (rest : List ℕ) → Stands bs x rest → Lines x bs rest
stands_lines bs _ _ (a_name front rest e n k) = inline_lines (name front) bs front rest refl e (words_inline front (name_words front n))
stands_lines bs _ _ (a_word front rest w e n k) = inline_lines (word w) bs front rest refl e (words_inline front (name_words front n))
stands_lines bs _ _ (an_integer front rest n e d i) = inline_lines (int n) bs front rest refl e (words_inline front (numeral_words front d))
stands_lines bs _ _ (a_sign x rest e) = inline_lines (sign x) bs (l.sign_text x) rest refl e (signs_inline x)
stands_lines bs _ _ (a_string quote inside value rest e k h) = solid_lines (text value) bs rest refl (string_solid bs quote inside value rest e k h)
stands_lines bs _ _ (a_bracket level inside content rest o u) = solid_lines (text (line_feeds (past_line_end content))) bs rest refl (bracket_solid bs level inside content rest o u)

abbrev rest_of : Lex × List ℕ → List ℕ
rest_of y = y.1

token_by : (x : Lex) (bs rest : List ℕ) (v : Bool) → is_finish x ≡ v → spelling bs ≡ Ok (x, rest) → Suffix bs rest
token_by x bs rest true n e = let h = read_end bs x rest e n in record { front = []; whole = h.0 ∙ sym (ap rest_of h.1) }
token_by x bs rest false n e = stands_suffix bs x rest (read_stands bs x rest e n).0

pub token_suffix : (x : Lex) (bs rest : List ℕ) → spelling bs ≡ Ok (x, rest) → Suffix bs rest
token_suffix x bs rest e = token_by x bs rest (is_finish x) refl e

pub token_within : (x : Lex) (bs rest : List ℕ) → spelling bs ≡ Ok (x, rest) → length rest ≤ length bs
token_within x bs rest e = suffix_short bs rest (token_suffix x bs rest e)

pub token_shorter : (x : Lex) (bs rest : List ℕ) → spelling bs ≡ Ok (x, rest) → is_finish x ≡ false → length rest < length bs
token_shorter x bs rest e n = stands_short bs x rest (read_stands bs x rest e n).0

lines_by : (x : Lex) (bs rest : List ℕ) (v : Bool) → is_finish x ≡ v → is_text x ≡ false → spelling bs ≡ Ok (x, rest) → 0 + line_ends rest ≡ line_ends bs
lines_by x bs rest true n f e = let h = read_end bs x rest e n in omega (arith, ap line_ends (ap rest_of h.1), ap line_ends h.0)
lines_by x bs rest false n f e = (stands_lines bs x rest (read_stands bs x rest e n).0).of_other f

pub text_lines : (t bs rest : List ℕ) → spelling bs ≡ Ok (text t, rest) → line_ends (take (length bs - length rest) bs) + line_ends rest ≡ line_ends bs
text_lines t bs rest e = (stands_lines bs (text t) rest (read_stands bs (text t) rest e refl).0).of_text refl

pub other_lines : (x : Lex) (bs rest : List ℕ) → is_text x ≡ false → spelling bs ≡ Ok (x, rest) → 0 + line_ends rest ≡ line_ends bs
other_lines x bs rest f e = lines_by x bs rest (is_finish x) refl f e

pub ruleset lines_rules = (token_within, text_lines, other_lines)

-- ---- places

pub line_placed : (script bs here : List ℕ) → Suffix script bs → Gap bs here → line script here + line_ends here ≡ 1 + line_ends script
line_placed script bs here s g = omega (arith, (starts_parts script here (suffix_trans script bs here s (gap_suffix bs here g)) (gap_starts here g.no_blank)).lines)

first_by : (b : ℕ) (bs : List ℕ) (v : Bool) → Suffix (b ∷ bs) (if v then past is_inline bs else b ∷ bs)
first_by b bs true = suffix_trans (b ∷ bs) bs (past is_inline bs) (suffix_cons b bs) (suffix_past is_inline bs)
first_by b bs false = suffix_refl (b ∷ bs)

pub first_suffix : (script : List ℕ) → Suffix script (past_first script)
first_suffix [] = suffix_refl []
first_suffix (b ∷ bs) = first_by b bs (nat_eq b 35)

first_lines_by : (b : ℕ) (bs : List ℕ) (v : Bool) → nat_eq b 35 ≡ v → line_ends (if v then past is_inline bs else b ∷ bs) ≡ line_ends (b ∷ bs)
first_lines_by b bs false e = refl
first_lines_by b bs true e =
    let h = inline_front (run is_inline bs) (past is_inline bs) (run_inline bs) in
    sym h ∙ ap line_ends (run_past is_inline bs) ∙ sym (other_first b bs (equal_end 35 b refl e))
  where
    run_inline : (cs : List ℕ) → list_all is_inline (run is_inline cs) ≡ true
    run_inline [] = refl
    run_inline (c ∷ cs) = by (is_inline c) refl (run_inline cs)
      where
        by : (v : Bool) → is_inline c ≡ v → list_all is_inline (run is_inline cs) ≡ true → list_all is_inline (if v then c ∷ run is_inline cs else []) ≡ true
        by true e h = rw e h
        by false e h = refl

pub first_lines : (script : List ℕ) → line_ends (past_first script) ≡ line_ends script
first_lines [] = refl
first_lines (b ∷ bs) = first_lines_by b bs (nat_eq b 35) refl

few_by : (b c : ℕ) (bs : List ℕ) (v w : Bool) → line_ends bs ≤ length bs → line_ends (c ∷ bs) ≤ length (c ∷ bs)
    → (if v then suc (line_ends bs) else (if w then suc (line_ends (c ∷ bs)) else line_ends (c ∷ bs))) ≤ length (b ∷ c ∷ bs)
few_by b c bs true w h g = omega (arith, h)
few_by b c bs false true h g = omega (arith, g)
few_by b c bs false false h g = omega (arith, g)

few_one : (b : ℕ) (v : Bool) → (if v then 1 else 0) ≤ length (b ∷ [])
few_one b true = omega arith
few_one b false = omega arith

pub few_lines : (bs : List ℕ) → line_ends bs ≤ length bs
unfolding line_ends
few_lines [] = omega arith
few_lines (b ∷ []) = few_one b (is_line_end b)
few_lines (b ∷ c ∷ bs) = few_by b c bs (is_pair b c) (is_line_end b) (few_lines bs) (few_lines (c ∷ bs))

marks_more : (xs : List Token) (t : Token) → marks (xs ++ t ∷ []) ≡ marks xs ++ token t ∷ []
marks_more [] t = refl
marks_more (x ∷ xs) t = ap (λ z. token x ∷ z) (marks_more xs t)

pub marked : (xs : List Token) (t : Token) (script here : List ℕ) (x : Lex) → lex t.what ≡ x → t.place.at ≡ place script here → t.place.line ≡ line script here
    → marks (xs ++ t ∷ []) ≡ marks xs ++ mark script here x ∷ []
marked xs t script here x e a n = marks_more xs t ∙ ap (λ z. marks xs ++ z ∷ []) same
  where
    same : token t ≡ mark script here x
    same = rw (e, a, n) refl

-- ---- the end

pub finish_seen : (what : Lexeme) (b : Bool) → ((b ≡ true) → what ≡ lexeme.End) × (what ≡ lexeme.End → b ≡ true) → is_finish (lex what) ≡ b
finish_seen lexeme.End true h = refl
finish_seen lexeme.End false h = sym (h.1 refl)
finish_seen (lexeme.Name n) true h = (let e : lexeme.Name n ≡ lexeme.End = h.0 refl in cc)
finish_seen (lexeme.Int n) true h = (let e : lexeme.Int n ≡ lexeme.End = h.0 refl in cc)
finish_seen (lexeme.Text n) true h = (let e : lexeme.Text n ≡ lexeme.End = h.0 refl in cc)
finish_seen (lexeme.Word n) true h = (let e : lexeme.Word n ≡ lexeme.End = h.0 refl in cc)
finish_seen (lexeme.Sign n) true h = (let e : lexeme.Sign n ≡ lexeme.End = h.0 refl in cc)
finish_seen (lexeme.Name n) false h = refl
finish_seen (lexeme.Int n) false h = refl
finish_seen (lexeme.Text n) false h = refl
finish_seen (lexeme.Word n) false h = refl
finish_seen (lexeme.Sign n) false h = refl
