-- The token that is read is the spelling.
use Rattle.std.proofs.Common.{◌≡◌, ◌≢◌, refl, sym, ◌∙◌, ap, subst, ℕ, ◌+◌, ◌≤◌, ◌<◌, Bool, true, false, if◌then◌else◌, nat_eq, nat_le, ◌&&◌, ◌||◌, List, [], ◌∷◌, ◌++◌, length-append, length, drop, length-drop, ◌⊎◌, inl, inr, Option, Some, None, Ok, Err, arith}
use Rattle.std.specs.Prelude.{ℤ}
use Rattle.std.specs.List.{list_all}
use Rattle.std.proofs.lemmas.Bool.{eqb-true, leb-true, lt-leb, ne_eqb}
use Rattle.lua_lexer.specs.declared.stop.Why.TheVariants.{BadByte, OpenComment}
use Rattle.lua_tokens.specs.declared.Word.{Word}
use Rattle.lua_tokens.specs.declared.Sign.{Sign}
use Rattle.lua_tokens.specs.declared.Sign.TheVariants as s
use Rattle.int_ops.specs.Reading.{integer_of}
use Rattle.lua_lexer.specs.Bytes.{is_equals, run, past, is_word, is_digit, is_letter, is_quote, is_inline, line_feeds, past_line_end}
use Rattle.lua_lexer.specs.Spellings.{then_open, close_at, split_close, up_to_close, opening, opens, dashes, is_name, keyword, sign_text, run_from, past_from, is_hex, numeral_run, past_numeral, begins_digit, begins_numeral, is_numeral, is_float, is_exponent, is_plus_minus}
use Rattle.lua_lexer.specs.Tokens.{Lex, int, text, sign, finish, Stands, a_name, a_word, an_integer, a_sign, a_string, a_bracket, Allowed, Spells, begins_letter, begins_quote, Blames, of_comment, of_float, of_numeral, of_string, of_bracket, of_byte}
use Rattle.lua_lexer.specs.Reading.{Outcome, Stop, named, word_at, float_or_bad, int_or_stop, integer_run, numeral_at, longer, dots, less, greater, single, with_rest, sign_at, string, texted, bracket_end, signed, dashed_or_signed, bracketed, spelling, is_finish}
use Rattle.lua_lexer.proofs.Runs.{run_past, numeral_whole}
use Rattle.lua_lexer.proofs.Fronts.{Solid, suffix_short}
use Rattle.lua_lexer.proofs.Strings.{quoted_solid, string_meets, Meets, quote_is, texted_ok, texted_err}

-- ---- a front of bytes of a kind

all_by : (p : ℕ → Bool) (b : ℕ) (front rest : List ℕ) (v : Bool) → p b ≡ v → (list_all p front ≡ true → run p (front ++ rest) ≡ front ++ run p rest) → (v && list_all p front) ≡ true
    → (if v then b ∷ run p (front ++ rest) else []) ≡ (b ∷ front) ++ run p rest
all_by p b front rest true e ih h = ap (λ z. b ∷ z) (ih h)
all_by p b front rest false e ih h = cc

run_over : (p : ℕ → Bool) (front rest : List ℕ) → list_all p front ≡ true → run p (front ++ rest) ≡ front ++ run p rest
run_over p [] rest h = refl
run_over p (b ∷ front) rest h = all_by p b front rest (p b) refl (run_over p front rest) h

past_all_by : (p : ℕ → Bool) (b : ℕ) (front rest : List ℕ) (v : Bool) → p b ≡ v → (list_all p front ≡ true → past p (front ++ rest) ≡ past p rest) → (v && list_all p front) ≡ true
    → (if v then past p (front ++ rest) else (b ∷ front) ++ rest) ≡ past p rest
past_all_by p b front rest true e ih h = ih h
past_all_by p b front rest false e ih h = cc

past_over : (p : ℕ → Bool) (front rest : List ℕ) → list_all p front ≡ true → past p (front ++ rest) ≡ past p rest
past_over p [] rest h = refl
past_over p (b ∷ front) rest h = past_all_by p b front rest (p b) refl (past_over p front rest) h

-- a front with as much after it as another one is that one
front_same : (front other rest more : List ℕ) → front ++ rest ≡ other ++ more → length rest ≡ length more → (front ≡ other) × (rest ≡ more)
front_same [] [] rest more e h = (refl, e)
front_same [] (c ∷ other) rest more e h = absurd (omega (arith, h, ap length e, length-append (c ∷ other) more))
front_same (b ∷ front) [] rest more e h = absurd (omega (arith, h, ap length e, length-append (b ∷ front) rest))
front_same (b ∷ front) (c ∷ other) rest more e h =
    let f : b ≡ c = cc in
    let g : front ++ rest ≡ other ++ more = cc in
    let i = front_same front other rest more g h in
    let j : front ≡ other = i.0 in
    (cc, i.1)

-- ---- kinds of first bytes

apart : (p : ℕ → Bool) (c b : ℕ) → p c ≡ false → p b ≡ true → nat_eq b c ≡ false
apart p c b n e = by (nat_eq b c) refl
  where
    by : (v : Bool) → nat_eq b c ≡ v → v ≡ false
    by true f = let h : p b ≡ false = ap p (eqb-true b c f) ∙ n in cc
    by false f = refl

and_both : (u v : Bool) → (u && v) ≡ true → (u ≡ true) × (v ≡ true)
and_both true v e = (refl, e)
and_both false v e = cc

digit_letter : (b : ℕ) → is_digit b ≡ true → is_letter b ≡ false
digit_letter b e =
    let h = and_both (nat_le 48 b) (nat_le b 57) e in
    let f : b ≤ 57 = leb-true b 57 h.1 in
    let n : b ≡ 95 → ⊥ = λ k. absurd (omega (arith, f, k)) in
    rw (lt-leb 97 b (omega (arith, f)), lt-leb 65 b (omega (arith, f)), ne_eqb b 95 n) refl

letter_digit : (b : ℕ) → is_letter b ≡ true → is_digit b ≡ false
letter_digit b e = by (is_digit b) refl
  where
    by : (v : Bool) → is_digit b ≡ v → v ≡ false
    by true f = let h = digit_letter b f in cc
    by false f = refl

letter_numeral : (b : ℕ) (bs : List ℕ) → is_letter b ≡ true → begins_numeral (b ∷ bs) ≡ false
letter_numeral b bs e = rw (letter_digit b e, apart is_letter 46 b refl e) refl

numeral_first : (b : ℕ) (bs : List ℕ) → begins_numeral (b ∷ bs) ≡ true → (is_digit b || nat_eq b 46) ≡ true
numeral_first b bs = by (is_digit b) (nat_eq b 46)
  where
    by : (u v : Bool) → (u || (v && begins_digit bs)) ≡ true → (u || v) ≡ true
    by true v e = refl
    by false true e = refl
    by false false e = cc

numeral_letter : (b : ℕ) (bs : List ℕ) → begins_numeral (b ∷ bs) ≡ true → is_letter b ≡ false
numeral_letter b bs e = by (is_digit b) (nat_eq b 46) refl refl (numeral_first b bs e)
  where
    by : (u v : Bool) → is_digit b ≡ u → nat_eq b 46 ≡ v → (u || v) ≡ true → is_letter b ≡ false
    by true v f g h = digit_letter b f
    by false true f g h = ap is_letter (eqb-true b 46 g)
    by false false f g h = cc

no_opens : (b : ℕ) (bs : List ℕ) → nat_eq b 91 ≡ false → opens (b ∷ bs) ≡ None
no_opens b bs e = rw e refl

no_dashes_at : (b : ℕ) (bs : List ℕ) → nat_eq b 45 ≡ false → dashes (b ∷ bs) ≡ None
no_dashes_at b [] e = refl
no_dashes_at b (c ∷ bs) e = rw e refl

-- ---- what stands at a place is no longer than what is read there

abbrev MeetsAt : List ℕ → Lex → List ℕ → Outcome Lex → Type 0
MeetsAt bs x rest (Ok y) = (length y.1 ≤ length rest) × (length y.1 ≡ length rest → y ≡ (x, rest))
MeetsAt bs x rest (Err stop) = Allowed bs rest → ⊥

past_short : (p : ℕ → Bool) (bs : List ℕ) → length (past p bs) ≤ length bs
past_short p bs = omega (arith, length-append (run p bs) (past p bs), ap length (run_past p bs))

-- names and words

word_met : (front rest bs : List ℕ) → list_all is_word front ≡ true → MeetsAt bs (named front (keyword front)) rest (word_at (front ++ rest))
unfolding word_at
word_met front rest bs e =
    let w = run_past is_word (front ++ rest) in
    let o = past_over is_word front rest e in (
      rw o (past_short is_word rest),
      λ h.
          let f = front_same (run is_word (front ++ rest)) front (past is_word (front ++ rest)) rest w h in
          ap (λ z. (named z (keyword z), past is_word (front ++ rest))) f.0 ∙ ap (λ z. (named front (keyword front), z)) f.1,
    )

name_met : (bs front rest : List ℕ) → bs ≡ front ++ rest → is_name front ≡ true → MeetsAt bs (named front (keyword front)) rest (spelling bs)
unfolding spelling
name_met bs [] rest e n = cc
name_met bs (b ∷ front) rest e n =
    let h = and_both (is_letter b) (list_all is_word front) n in
    let l = h.0 in
    let a : list_all is_word (b ∷ front) ≡ true = rw l h.1 in
    let m = word_met (b ∷ front) rest bs a in
    subst (λ (z : List ℕ). MeetsAt bs (named (b ∷ front) (keyword (b ∷ front))) rest (spelling z)) (sym e) (rw l m)

-- integers

past_from_short : (hex : Bool) (before : ℕ) (bs : List ℕ) → length (past_from hex before bs) ≤ length bs
past_from_short hex before bs = omega (arith, length-append (run_from hex before bs) (past_from hex before bs), ap length (numeral_whole hex before bs))

from_by : (hex : Bool) (before b : ℕ) (front rest : List ℕ) (v : Bool) → is_word b ≡ v → (list_all is_word front ≡ true → length (past_from hex b (front ++ rest)) ≤ length rest) → (v && list_all is_word front) ≡ true
    → length (if v || nat_eq b 46 || (is_plus_minus b && is_exponent hex before) then past_from hex b (front ++ rest) else b ∷ front ++ rest) ≤ length rest
from_by hex before b front rest true e ih h = ih h
from_by hex before b front rest false e ih h = cc

from_over : (hex : Bool) (before : ℕ) (front rest : List ℕ) → list_all is_word front ≡ true → length (past_from hex before (front ++ rest)) ≤ length rest
from_over hex before [] rest h = past_from_short hex before rest
from_over hex before (b ∷ front) rest h = from_by hex before b front rest (is_word b) refl (from_over hex b front rest) h

int_met : (front rest : List ℕ) (n : ℤ) → list_all is_word front ≡ true → is_numeral front ≡ true → integer_of front ≡ Some n → begins_numeral (front ++ rest) ≡ true
    → (o : Option ℤ) → integer_run (numeral_run (front ++ rest)) ≡ o → MeetsAt (front ++ rest) (int n) rest (int_or_stop (front ++ rest) o)
int_met front rest n a d e b (Some m) f = (
  from_over (is_hex (front ++ rest)) 0 front rest a,
  λ h.
      let g = front_same (numeral_run (front ++ rest)) front (past_numeral (front ++ rest)) rest (numeral_whole (is_hex (front ++ rest)) 0 (front ++ rest)) h in
      let k : integer_run front ≡ Some n = rw d e in
      let j : m ≡ n = cc (f, k, ap integer_run g.0) in
      ap (λ z. (int z, past_numeral (front ++ rest))) j ∙ ap (λ z. (int n, z)) g.1,
)
int_met front rest n a d e b None f = λ w.
    let g = front_same (numeral_run (front ++ rest)) front (past_numeral (front ++ rest)) rest (numeral_whole (is_hex (front ++ rest)) 0 (front ++ rest)) (ap length (sym (w.whole_numeral b))) in
    let k : integer_run front ≡ Some n = rw d e in
    cc (f, k, ap integer_run g.0)

digit_word : (b : ℕ) (front : List ℕ) → is_digit b ≡ true → list_all is_word front ≡ true → list_all is_word (b ∷ front) ≡ true
digit_word b front d a = rw (digit_letter b d, d) a

numeral_spelling : (b : ℕ) (bs : List ℕ) → begins_numeral (b ∷ bs) ≡ true → spelling (b ∷ bs) ≡ numeral_at (b ∷ bs)
unfolding spelling
numeral_spelling b bs e = rw (numeral_letter b bs e, e) refl

integer_met : (bs front rest : List ℕ) (n : ℤ) → bs ≡ front ++ rest → is_numeral front ≡ true → integer_of front ≡ Some n → MeetsAt bs (int n) rest (spelling bs)
unfolding numeral_at
integer_met bs [] rest n e d i = cc
integer_met bs (b ∷ front) rest n e d i =
    let h = and_both (is_digit b) (list_all is_word front) d in
    let g = h.0 in
    let k : begins_numeral (b ∷ front ++ rest) ≡ true = rw g refl in
    let m = int_met (b ∷ front) rest n (digit_word b front g h.1) d i k (integer_run (numeral_run (b ∷ front ++ rest))) refl in
    subst (λ (z : List ℕ). MeetsAt z (int n) rest (spelling z)) (sym e) (subst (MeetsAt (b ∷ front ++ rest) (int n) rest) (sym (numeral_spelling b (front ++ rest) k)) m)

-- ---- signs

signed_met : (b : ℕ) (bs : List ℕ) (x : Lex) (rest : List ℕ) → nat_eq b 45 ≡ false → MeetsAt (b ∷ bs) x rest (signed (b ∷ bs) (sign_at b bs)) → MeetsAt (b ∷ bs) x rest (dashed_or_signed b bs (dashes (b ∷ bs)))
signed_met b bs x rest e h = subst (λ (o : Option (List ℕ)). MeetsAt (b ∷ bs) x rest (dashed_or_signed b bs o)) (sym (no_dashes_at b bs e)) h

minus_met : (rest : List ℕ) (o : Option (List ℕ)) → dashes (45 ∷ rest) ≡ o → MeetsAt (45 ∷ rest) (sign s.Minus) rest (dashed_or_signed 45 rest o)
unfolding sign_at single
minus_met rest None e = (omega arith, λ _. refl)
minus_met rest (Some inside) e = λ a. let h = a.no_dashes in cc

longer_by : (bs : List ℕ) (c : ℕ) (two one : Sign) (d : ℕ) (ds : List ℕ) (v : Bool) → MeetsAt bs (sign one) (d ∷ ds) (signed bs (Some (if v then (two, ds) else (one, d ∷ ds))))
longer_by bs c two one d ds true = (omega arith, λ h. absurd (omega (arith, h)))
longer_by bs c two one d ds false = (omega arith, λ _. refl)

longer_met : (bs : List ℕ) (c : ℕ) (two one : Sign) (rest : List ℕ) → MeetsAt bs (sign one) rest (signed bs (Some (longer c two one rest)))
longer_met bs c two one [] = (omega arith, λ _. refl)
longer_met bs c two one (d ∷ ds) = longer_by bs c two one d ds (nat_eq d c)

choice_by : (bs : List ℕ) (two one : Sign) (other : Sign × List ℕ) (d : ℕ) (ds : List ℕ) (v : Bool) → MeetsAt bs (sign one) (d ∷ ds) (signed bs (Some other)) → MeetsAt bs (sign one) (d ∷ ds) (signed bs (Some (if v then (two, ds) else other)))
choice_by bs two one other d ds true h = (omega arith, λ g. absurd (omega (arith, g)))
choice_by bs two one other d ds false h = h

less_met : (bs rest : List ℕ) → MeetsAt bs (sign s.Less) rest (signed bs (Some (less rest)))
less_met bs [] = (omega arith, λ _. refl)
less_met bs (d ∷ ds) = choice_by bs s.ShiftLeft s.Less (longer 61 s.LessEqual s.Less (d ∷ ds)) d ds (nat_eq d 60) (longer_met bs 61 s.LessEqual s.Less (d ∷ ds))

greater_met : (bs rest : List ℕ) → MeetsAt bs (sign s.Greater) rest (signed bs (Some (greater rest)))
greater_met bs [] = (omega arith, λ _. refl)
greater_met bs (d ∷ ds) = choice_by bs s.ShiftRight s.Greater (longer 61 s.GreaterEqual s.Greater (d ∷ ds)) d ds (nat_eq d 62) (longer_met bs 61 s.GreaterEqual s.Greater (d ∷ ds))

abbrev sign_rest : Sign × List ℕ → List ℕ
sign_rest x = x.1

-- two points or three are longer than one
dots_by : (bs : List ℕ) (d : ℕ) (ds : List ℕ) (v : Bool) → MeetsAt bs (sign s.Dot) (d ∷ ds) (signed bs (Some (if v then longer 46 s.DotDotDot s.DotDot ds else (s.Dot, d ∷ ds))))
dots_by bs d ds false = (omega arith, λ _. refl)
dots_by bs d ds true = by (longer 46 s.DotDotDot s.DotDot ds) (longer_within ds)
  where
    longer_within : (es : List ℕ) → length (longer 46 s.DotDotDot s.DotDot es).1 ≤ length es
    longer_within [] = omega arith
    longer_within (e ∷ es) = within (nat_eq e 46)
      where
        within : (v : Bool) → length (sign_rest (if v then (s.DotDotDot, es) else (s.DotDot, e ∷ es))) ≤ length (e ∷ es)
        within true = omega arith
        within false = omega arith

    by : (y : Sign × List ℕ) → length y.1 ≤ length ds → MeetsAt bs (sign s.Dot) (d ∷ ds) (signed bs (Some y))
    by y h = (omega (arith, h), λ g. absurd (omega (arith, h, g)))

dots_met : (bs rest : List ℕ) → MeetsAt bs (sign s.Dot) rest (signed bs (Some (dots rest)))
dots_met bs [] = (omega arith, λ _. refl)
dots_met bs (d ∷ ds) = dots_by bs d ds (nat_eq d 46)

-- a point and a digit begin a numeral, which is longer than the point
point_short : (d : ℕ) (ds : List ℕ) → is_digit d ≡ true → length (past_numeral (46 ∷ d ∷ ds)) ≤ length ds
point_short d ds e = rw (digit_letter d e, e) (past_from_short false d ds)

point_int : (d : ℕ) (ds : List ℕ) → is_digit d ≡ true → (o : Option ℤ) → MeetsAt (46 ∷ d ∷ ds) (sign s.Dot) (d ∷ ds) (int_or_stop (46 ∷ d ∷ ds) o)
point_int d ds e (Some n) = let h = point_short d ds e in (omega (arith, h), λ g. absurd (omega (arith, h, g)))
point_int d ds e None = λ a. let h = point_short d ds e in let f : begins_numeral (46 ∷ d ∷ ds) ≡ true = e in absurd (omega (arith, h, ap length (a.whole_numeral f)))

point_by : (d : ℕ) (ds : List ℕ) (v : Bool) → is_digit d ≡ v → MeetsAt (46 ∷ d ∷ ds) (sign s.Dot) (d ∷ ds) (if v then numeral_at (46 ∷ d ∷ ds) else dashed_or_signed 46 (d ∷ ds) (dashes (46 ∷ d ∷ ds)))
unfolding numeral_at sign_at
point_by d ds true e = point_int d ds e (integer_run (numeral_run (46 ∷ d ∷ ds)))
point_by d ds false e = signed_met 46 (d ∷ ds) (sign s.Dot) (d ∷ ds) refl (dots_met (46 ∷ d ∷ ds) (d ∷ ds))

point_met : (rest : List ℕ) → MeetsAt (46 ∷ rest) (sign s.Dot) rest (spelling (46 ∷ rest))
unfolding spelling sign_at
point_met [] = (omega arith, λ _. refl)
point_met (d ∷ ds) = point_by d ds (is_digit d) refl

abbrev level_of : Option (ℕ × List ℕ) → ℕ
level_of None = 0
level_of (Some o) = o.0

abbrev inside_of : Option (ℕ × List ℕ) → List ℕ
inside_of None = []
inside_of (Some o) = o.1

abbrev behind_of : Option (List ℕ × List ℕ) → List ℕ
behind_of None = []
behind_of (Some x) = x.1

abbrev opened : Bool → ℕ → List ℕ → Option (ℕ × List ℕ)
opened v n bs = if v then Some (n, bs) else None

-- a long bracket is longer than its first byte
open_short : (n : ℕ) (bs inside : List ℕ) (level : ℕ) → then_open n bs ≡ Some (level, inside) → length inside < length bs
open_short n [] inside level e = cc
open_short n (b ∷ bs) inside level e = by (nat_eq b 91) e
  where
    by : (v : Bool) → opened v n bs ≡ Some (level, inside) → length inside < length (b ∷ bs)
    by true h = let g : bs ≡ inside = ap inside_of h in omega (arith, ap length g)
    by false h = cc

opening_short : (bs inside : List ℕ) (level : ℕ) → opening bs ≡ Some (level, inside) → length inside < length bs
opening_short bs inside level e = omega (arith, open_short (length (run is_equals bs)) (past is_equals bs) inside level e, past_short is_equals bs)

close_short : (level : ℕ) (inside content rest : List ℕ) → up_to_close level inside ≡ Some (content, rest) → length rest ≤ length inside
close_short level inside content rest e = by (close_at level inside) e
  where
    by : (o : Option ℕ) → split_close level inside o ≡ Some (content, rest) → length rest ≤ length inside
    by None h = cc
    by (Some k) h = let g : drop (level + 2) (drop k inside) ≡ rest = ap behind_of h in subst (λ (z : List ℕ). length z ≤ length inside) g (simp length-drop (omega arith))

close_met : (rest : List ℕ) (level : ℕ) (inside : List ℕ) → opening rest ≡ Some (level, inside) → (o : Option (List ℕ × List ℕ)) → up_to_close level inside ≡ o → MeetsAt (91 ∷ rest) (sign s.OpenBracket) rest (bracket_end (91 ∷ rest) o)
close_met rest level inside e (Some x) f =
    let h = opening_short rest inside level e in
    let g = close_short level inside x.0 x.1 f in
    (omega (arith, h, g), λ k. absurd (omega (arith, h, g, k)))
close_met rest level inside e None f = λ a. let h = (a.whole_bracket level inside e).1 in cc

open_met : (rest : List ℕ) (o : Option (ℕ × List ℕ)) → opening rest ≡ o → MeetsAt (91 ∷ rest) (sign s.OpenBracket) rest (bracketed 91 rest o)
unfolding sign_at single
open_met rest (Some o) e = close_met rest o.0 o.1 e (up_to_close o.0 o.1) refl
open_met rest None e = signed_met 91 rest (sign s.OpenBracket) rest refl (omega arith, λ _. refl)

sign_met : (x : Sign) (rest : List ℕ) → MeetsAt (sign_text x ++ rest) (sign x) rest (spelling (sign_text x ++ rest))
unfolding spelling sign_text sign_at single
sign_met s.Plus rest = signed_met 43 (rest) (sign s.Plus) rest refl (omega arith, λ _. refl)
sign_met s.Minus rest = minus_met rest (dashes (45 ∷ rest)) refl
sign_met s.Star rest = signed_met 42 (rest) (sign s.Star) rest refl (omega arith, λ _. refl)
sign_met s.Slash rest = signed_met 47 rest (sign s.Slash) rest refl (longer_met (47 ∷ rest) 47 s.SlashSlash s.Slash rest)
sign_met s.Percent rest = signed_met 37 (rest) (sign s.Percent) rest refl (omega arith, λ _. refl)
sign_met s.Caret rest = signed_met 94 (rest) (sign s.Caret) rest refl (omega arith, λ _. refl)
sign_met s.Hash rest = signed_met 35 (rest) (sign s.Hash) rest refl (omega arith, λ _. refl)
sign_met s.Amp rest = signed_met 38 (rest) (sign s.Amp) rest refl (omega arith, λ _. refl)
sign_met s.Tilde rest = signed_met 126 rest (sign s.Tilde) rest refl (longer_met (126 ∷ rest) 61 s.NotEqual s.Tilde rest)
sign_met s.Pipe rest = signed_met 124 (rest) (sign s.Pipe) rest refl (omega arith, λ _. refl)
sign_met s.ShiftLeft rest = signed_met 60 (60 ∷ rest) (sign s.ShiftLeft) rest refl (omega arith, λ _. refl)
sign_met s.ShiftRight rest = signed_met 62 (62 ∷ rest) (sign s.ShiftRight) rest refl (omega arith, λ _. refl)
sign_met s.SlashSlash rest = signed_met 47 (47 ∷ rest) (sign s.SlashSlash) rest refl (omega arith, λ _. refl)
sign_met s.EqualEqual rest = signed_met 61 (61 ∷ rest) (sign s.EqualEqual) rest refl (omega arith, λ _. refl)
sign_met s.NotEqual rest = signed_met 126 (61 ∷ rest) (sign s.NotEqual) rest refl (omega arith, λ _. refl)
sign_met s.LessEqual rest = signed_met 60 (61 ∷ rest) (sign s.LessEqual) rest refl (omega arith, λ _. refl)
sign_met s.GreaterEqual rest = signed_met 62 (61 ∷ rest) (sign s.GreaterEqual) rest refl (omega arith, λ _. refl)
sign_met s.Less rest = signed_met 60 rest (sign s.Less) rest refl (less_met (60 ∷ rest) rest)
sign_met s.Greater rest = signed_met 62 rest (sign s.Greater) rest refl (greater_met (62 ∷ rest) rest)
sign_met s.Equal rest = signed_met 61 rest (sign s.Equal) rest refl (longer_met (61 ∷ rest) 61 s.EqualEqual s.Equal rest)
sign_met s.OpenParen rest = signed_met 40 (rest) (sign s.OpenParen) rest refl (omega arith, λ _. refl)
sign_met s.CloseParen rest = signed_met 41 (rest) (sign s.CloseParen) rest refl (omega arith, λ _. refl)
sign_met s.OpenBrace rest = signed_met 123 (rest) (sign s.OpenBrace) rest refl (omega arith, λ _. refl)
sign_met s.CloseBrace rest = signed_met 125 (rest) (sign s.CloseBrace) rest refl (omega arith, λ _. refl)
sign_met s.OpenBracket rest = open_met rest (opening rest) refl
sign_met s.CloseBracket rest = signed_met 93 (rest) (sign s.CloseBracket) rest refl (omega arith, λ _. refl)
sign_met s.ColonColon rest = signed_met 58 (58 ∷ rest) (sign s.ColonColon) rest refl (omega arith, λ _. refl)
sign_met s.Semicolon rest = signed_met 59 (rest) (sign s.Semicolon) rest refl (omega arith, λ _. refl)
sign_met s.Colon rest = signed_met 58 rest (sign s.Colon) rest refl (longer_met (58 ∷ rest) 58 s.ColonColon s.Colon rest)
sign_met s.Comma rest = signed_met 44 (rest) (sign s.Comma) rest refl (omega arith, λ _. refl)
sign_met s.Dot rest = point_met rest
sign_met s.DotDot rest = signed_met 46 (46 ∷ rest) (sign s.DotDot) rest refl (longer_met (46 ∷ 46 ∷ rest) 46 s.DotDotDot s.DotDot rest)
sign_met s.DotDotDot rest = signed_met 46 (46 ∷ 46 ∷ rest) (sign s.DotDotDot) rest refl (omega arith, λ _. refl)

-- ---- strings

quote_spelling : (quote : ℕ) (inside : List ℕ) → is_quote quote ≡ true → spelling (quote ∷ inside) ≡ texted (string (quote ∷ inside) quote inside)
unfolding spelling
quote_spelling quote inside e = by (nat_eq quote 34) (nat_eq quote 39) refl refl e
  where
    at34 : 34 ≡ quote → spelling (quote ∷ inside) ≡ texted (string (quote ∷ inside) quote inside)
    at34 k = subst (λ (z : ℕ). spelling (z ∷ inside) ≡ texted (string (z ∷ inside) z inside)) k refl

    at39 : 39 ≡ quote → spelling (quote ∷ inside) ≡ texted (string (quote ∷ inside) quote inside)
    at39 k = subst (λ (z : ℕ). spelling (z ∷ inside) ≡ texted (string (z ∷ inside) z inside)) k refl

    by : (u v : Bool) → nat_eq quote 34 ≡ u → nat_eq quote 39 ≡ v → (u || v) ≡ true → spelling (quote ∷ inside) ≡ texted (string (quote ∷ inside) quote inside)
    by true v f g h = at34 (sym (eqb-true quote 34 f))
    by false true f g h = at39 (sym (eqb-true quote 39 g))
    by false false f g h = cc

bracket_spelling : (bs : List ℕ) (level : ℕ) (inside : List ℕ) → opens bs ≡ Some (level, inside) → spelling bs ≡ bracket_end bs (up_to_close level inside)
unfolding spelling
bracket_spelling [] level inside e = cc
bracket_spelling (b ∷ bs) level inside e = by (nat_eq b 91) refl e
  where
    at91 : 91 ≡ b → opening bs ≡ Some (level, inside) → spelling (b ∷ bs) ≡ bracket_end (b ∷ bs) (up_to_close level inside)
    at91 k h = subst (λ (z : ℕ). spelling (z ∷ bs) ≡ bracket_end (z ∷ bs) (up_to_close level inside)) k (ap (bracketed 91 bs) h)

    by : (v : Bool) → nat_eq b 91 ≡ v → (if v then opening bs else None) ≡ Some (level, inside) → spelling (b ∷ bs) ≡ bracket_end (b ∷ bs) (up_to_close level inside)
    by true f h = at91 (sym (eqb-true b 91 f)) h
    by false f h = cc

-- ---- all kinds

exactly : (bs : List ℕ) (x : Lex) (rest : List ℕ) → spelling bs ≡ Ok (x, rest) → MeetsAt bs x rest (spelling bs)
exactly bs x rest e = subst (MeetsAt bs x rest) (sym e) (omega arith, λ _. refl)

met : (bs : List ℕ) (x : Lex) (rest : List ℕ) → Stands bs x rest → MeetsAt bs x rest (spelling bs)
met bs _ _ (a_name front rest e n k) = subst (λ (z : Lex). MeetsAt bs z rest (spelling bs)) (ap (named front) k) (name_met bs front rest e n)
met bs _ _ (a_word front rest w e n k) = subst (λ (z : Lex). MeetsAt bs z rest (spelling bs)) (ap (named front) k) (name_met bs front rest e n)
met bs _ _ (an_integer front rest n e d i) = integer_met bs front rest n e d i
met bs _ _ (a_sign x rest e) = subst (λ (z : List ℕ). MeetsAt z (sign x) rest (spelling z)) (sym e) (sign_met x rest)
met bs _ _ (a_string quote inside value rest e k h) = exactly bs (text value) rest (ap spelling e ∙ quote_spelling quote inside k ∙ texted_ok (quote ∷ inside) quote inside value rest k h)
met bs _ _ (a_bracket level inside content rest o u) = exactly bs (text (line_feeds (past_line_end content))) rest (bracket_spelling bs level inside o ∙ ap (bracket_end bs) u)

no_finish : (bs : List ℕ) (x : Lex) (rest : List ℕ) → Stands bs x rest → is_finish x ≡ false
no_finish bs _ _ (a_name front rest e n k) = refl
no_finish bs _ _ (a_word front rest w e n k) = refl
no_finish bs _ _ (an_integer front rest n e d i) = refl
no_finish bs _ _ (a_sign x rest e) = refl
no_finish bs _ _ (a_string quote inside value rest e k h) = refl
no_finish bs _ _ (a_bracket level inside content rest o u) = refl

-- ---- what is read stands there

not_both : false ≡ true → ⊥
not_both h = cc

no_some : {A : Type 0} (x : A) → ◌≡◌ {A = Option A} None (Some x) → ⊥
no_some x h = cc

allowed_of : (bs rest : List ℕ) → begins_numeral bs ≡ false → opens bs ≡ None → dashes bs ≡ None → Allowed bs rest
allowed_of bs rest n o d = record {
  whole_numeral = λ e. absurd (not_both (sym n ∙ e));
  whole_bracket = λ level inside e. absurd (no_some (level, inside) (sym o ∙ e));
  no_dashes = d;
}

-- what the reading says: the end, a token that stands there, or a fault
abbrev pub Found : List ℕ → Outcome Lex → Type 0
Found bs (Ok y) = ((bs ≡ []) × (y ≡ (finish, []))) ⊎ (Stands bs y.0 y.1 × Allowed bs y.1)
Found bs (Err stop) = (bs ≢ []) × Blames bs stop

no_nil : (b : ℕ) (bs : List ℕ) → b ∷ bs ≢ []
no_nil b bs e = cc

run_words : (bs : List ℕ) → list_all is_word (run is_word bs) ≡ true
run_words [] = refl
run_words (b ∷ bs) = by (is_word b) refl (run_words bs)
  where
    by : (v : Bool) → is_word b ≡ v → list_all is_word (run is_word bs) ≡ true → list_all is_word (if v then b ∷ run is_word bs else []) ≡ true
    by true e h = rw e h
    by false e h = refl

word_run_name : (b : ℕ) (bs : List ℕ) → is_letter b ≡ true → is_name (run is_word (b ∷ bs)) ≡ true
word_run_name b bs e = rw e (rw e (run_words bs))

named_stands : (bs front rest : List ℕ) → bs ≡ front ++ rest → is_name front ≡ true → (o : Option Word) → keyword front ≡ o → Stands bs (named front o) rest
named_stands bs front rest e n None k = a_name front rest e n k
named_stands bs front rest e n (Some w) k = a_word front rest w e n k

word_found : (b : ℕ) (bs : List ℕ) → is_letter b ≡ true → Found (b ∷ bs) (word_at (b ∷ bs))
unfolding word_at
word_found b bs e = inr (
  named_stands (b ∷ bs) (run is_word (b ∷ bs)) (past is_word (b ∷ bs)) (sym (run_past is_word (b ∷ bs))) (word_run_name b bs e) (keyword (run is_word (b ∷ bs))) refl,
  allowed_of (b ∷ bs) (past is_word (b ∷ bs)) (letter_numeral b bs e) (no_opens b bs (apart is_letter 91 b refl e)) (no_dashes_at b bs (apart is_letter 45 b refl e)),
)

numeral_allowed : (b : ℕ) (bs : List ℕ) → begins_numeral (b ∷ bs) ≡ true → Allowed (b ∷ bs) (past_numeral (b ∷ bs))
numeral_allowed b bs e = record {
  whole_numeral = λ _. refl;
  whole_bracket = λ level inside o. absurd (no_some (level, inside) (sym (no_opens b bs (apart (λ x. is_digit x || nat_eq x 46) 91 b refl (numeral_first b bs e))) ∙ o));
  no_dashes = no_dashes_at b bs (apart (λ x. is_digit x || nat_eq x 46) 45 b refl (numeral_first b bs e));
}

integer_by : (front : List ℕ) (n : ℤ) (v : Bool) → is_numeral front ≡ v → (if v then integer_of front else None) ≡ Some n → (is_numeral front ≡ true) × (integer_of front ≡ Some n)
integer_by front n true e h = (e, h)
integer_by front n false e h = cc

float_blames : (bs : List ℕ) → begins_numeral bs ≡ true → (v : Bool) → is_float (numeral_run bs) ≡ v → Blames bs (float_or_bad v, bs)
float_blames bs e true f = of_float e f
float_blames bs e false f = of_numeral e f

numeral_by : (b : ℕ) (bs : List ℕ) → begins_numeral (b ∷ bs) ≡ true → (o : Option ℤ) → integer_run (numeral_run (b ∷ bs)) ≡ o → Found (b ∷ bs) (int_or_stop (b ∷ bs) o)
numeral_by b bs e (Some n) f =
    let h = integer_by (numeral_run (b ∷ bs)) n (is_numeral (numeral_run (b ∷ bs))) refl f in
    inr (an_integer (numeral_run (b ∷ bs)) (past_numeral (b ∷ bs)) n (sym (numeral_whole (is_hex (b ∷ bs)) 0 (b ∷ bs))) h.0 h.1, numeral_allowed b bs e)
numeral_by b bs e None f = (no_nil b bs, float_blames (b ∷ bs) e (is_float (numeral_run (b ∷ bs))) refl)

numeral_found : (b : ℕ) (bs : List ℕ) → begins_numeral (b ∷ bs) ≡ true → Found (b ∷ bs) (numeral_at (b ∷ bs))
unfolding numeral_at
numeral_found b bs e = numeral_by b bs e (integer_run (numeral_run (b ∷ bs))) refl

string_by : (b : ℕ) (bs : List ℕ) (k : is_quote b ≡ true) → begins_numeral (b ∷ bs) ≡ false → (r : Outcome (List ℕ)) → Meets (b ∷ bs) b (quote_is b k) bs r → Found (b ∷ bs) (texted r)
string_by b bs k n (Ok x) h = inr (a_string b bs x.0 x.1 refl k h, allowed_of (b ∷ bs) x.1 n (no_opens b bs (apart is_quote 91 b refl k)) (no_dashes_at b bs (apart is_quote 45 b refl k)))
string_by b bs k n (Err stop) h = (no_nil b bs, of_string b bs stop refl k h)

string_found : (b : ℕ) (bs : List ℕ) → is_quote b ≡ true → begins_numeral (b ∷ bs) ≡ false → Found (b ∷ bs) (texted (string (b ∷ bs) b bs))
string_found b bs k n = string_by b bs k n (string (b ∷ bs) b bs) (string_meets (b ∷ bs) b (quote_is b k) bs)

opens_first : (b : ℕ) (bs : List ℕ) (level : ℕ) (inside : List ℕ) → opens (b ∷ bs) ≡ Some (level, inside) → nat_eq b 45 ≡ false
opens_first b bs level inside e = by (nat_eq b 91) refl e
  where
    by : (v : Bool) → nat_eq b 91 ≡ v → (if v then opening bs else None) ≡ Some (level, inside) → nat_eq b 45 ≡ false
    by true f h = ap (λ z. nat_eq z 45) (eqb-true b 91 f)
    by false f h = cc

bracket_by : (b : ℕ) (bs : List ℕ) (level : ℕ) (inside : List ℕ) → opens (b ∷ bs) ≡ Some (level, inside) → begins_numeral (b ∷ bs) ≡ false → (o : Option (List ℕ × List ℕ)) → up_to_close level inside ≡ o → Found (b ∷ bs) (bracket_end (b ∷ bs) o)
bracket_by b bs level inside e n (Some x) f = inr (
  a_bracket level inside x.0 x.1 e f,
  record {
    whole_numeral = λ g. absurd (not_both (sym n ∙ g));
    whole_bracket = λ l i g. (x.0, ap (λ z. up_to_close (level_of z) (inside_of z)) (sym g ∙ e) ∙ f);
    no_dashes = no_dashes_at b bs (opens_first b bs level inside e);
  },
)
bracket_by b bs level inside e n None f = (no_nil b bs, of_bracket level inside e f)

abbrev IsSpelled : List ℕ → Option (Sign × List ℕ) → Type 0
IsSpelled bs None = Unit {0}
IsSpelled bs (Some x) = bs ≡ sign_text x.0 ++ x.1

some_if : (bs : List ℕ) (v : Bool) (x y : Option (Sign × List ℕ)) → (v ≡ true → IsSpelled bs x) → IsSpelled bs y → IsSpelled bs (if v then x else y)
some_if bs true x y h g = h refl
some_if bs false x y h g = g

first_is : (b c : ℕ) (bs : List ℕ) (x : Sign × List ℕ) → nat_eq b c ≡ true → c ∷ bs ≡ sign_text x.0 ++ x.1 → b ∷ bs ≡ sign_text x.0 ++ x.1
first_is b c bs x e h = ap (λ z. z ∷ bs) (eqb-true b c e) ∙ h

pair_if : (bs : List ℕ) (v : Bool) (x y : Sign × List ℕ) → (v ≡ true → IsSpelled bs (Some x)) → IsSpelled bs (Some y) → IsSpelled bs (Some (if v then x else y))
pair_if bs true x y h g = h refl
pair_if bs false x y h g = g

longer_spelled : (front : List ℕ) (c : ℕ) (two one : Sign) (bs : List ℕ) → ((r : List ℕ) → front ++ r ≡ sign_text one ++ r) → ((r : List ℕ) → front ++ c ∷ r ≡ sign_text two ++ r) → IsSpelled (front ++ bs) (Some (longer c two one bs))
longer_spelled front c two one [] h g = h []
longer_spelled front c two one (b ∷ bs) h g = pair_if (front ++ b ∷ bs) (nat_eq b c) (two, bs) (one, b ∷ bs) (λ e. ap (λ z. front ++ z ∷ bs) (eqb-true b c e) ∙ g bs) (h (b ∷ bs))

dots_spelled : (bs : List ℕ) → IsSpelled (46 ∷ bs) (Some (dots bs))
unfolding sign_text
dots_spelled [] = refl
dots_spelled (b ∷ bs) = pair_if (46 ∷ b ∷ bs) (nat_eq b 46) (longer 46 s.DotDotDot s.DotDot bs) (s.Dot, b ∷ bs)
    (λ e. ap (λ z. 46 ∷ z ∷ bs) (eqb-true b 46 e) ∙ longer_spelled (46 ∷ 46 ∷ []) 46 s.DotDotDot s.DotDot bs (λ r. refl) (λ r. refl)) refl

less_spelled : (bs : List ℕ) → IsSpelled (60 ∷ bs) (Some (less bs))
unfolding sign_text
less_spelled [] = refl
less_spelled (b ∷ bs) = pair_if (60 ∷ b ∷ bs) (nat_eq b 60) (s.ShiftLeft, bs) (longer 61 s.LessEqual s.Less (b ∷ bs))
    (λ e. ap (λ z. 60 ∷ z ∷ bs) (eqb-true b 60 e)) (longer_spelled (60 ∷ []) 61 s.LessEqual s.Less (b ∷ bs) (λ r. refl) (λ r. refl))

greater_spelled : (bs : List ℕ) → IsSpelled (62 ∷ bs) (Some (greater bs))
unfolding sign_text
greater_spelled [] = refl
greater_spelled (b ∷ bs) = pair_if (62 ∷ b ∷ bs) (nat_eq b 62) (s.ShiftRight, bs) (longer 61 s.GreaterEqual s.Greater (b ∷ bs))
    (λ e. ap (λ z. 62 ∷ z ∷ bs) (eqb-true b 62 e)) (longer_spelled (62 ∷ []) 61 s.GreaterEqual s.Greater (b ∷ bs) (λ r. refl) (λ r. refl))

single_if : (b c : ℕ) (bs : List ℕ) (x : Sign) (o : Option Sign) → c ∷ bs ≡ sign_text x ++ bs → (v : Bool) → nat_eq b c ≡ v → IsSpelled (b ∷ bs) (with_rest bs o) → IsSpelled (b ∷ bs) (with_rest bs (if v then Some x else o))
single_if b c bs x o h true e g = first_is b c bs (x, bs) e h
single_if b c bs x o h false e g = g

single_spelled : (b : ℕ) (bs : List ℕ) → IsSpelled (b ∷ bs) (with_rest bs (single b))
unfolding single sign_text
single_spelled b bs =
    single_if b 40 bs s.OpenParen _ refl (nat_eq b 40) refl
    (single_if b 41 bs s.CloseParen _ refl (nat_eq b 41) refl
    (single_if b 44 bs s.Comma _ refl (nat_eq b 44) refl
    (single_if b 43 bs s.Plus _ refl (nat_eq b 43) refl
    (single_if b 45 bs s.Minus _ refl (nat_eq b 45) refl
    (single_if b 42 bs s.Star _ refl (nat_eq b 42) refl
    (single_if b 37 bs s.Percent _ refl (nat_eq b 37) refl
    (single_if b 94 bs s.Caret _ refl (nat_eq b 94) refl
    (single_if b 35 bs s.Hash _ refl (nat_eq b 35) refl
    (single_if b 38 bs s.Amp _ refl (nat_eq b 38) refl
    (single_if b 124 bs s.Pipe _ refl (nat_eq b 124) refl
    (single_if b 123 bs s.OpenBrace _ refl (nat_eq b 123) refl
    (single_if b 125 bs s.CloseBrace _ refl (nat_eq b 125) refl
    (single_if b 91 bs s.OpenBracket _ refl (nat_eq b 91) refl
    (single_if b 93 bs s.CloseBracket _ refl (nat_eq b 93) refl
    (single_if b 59 bs s.Semicolon _ refl (nat_eq b 59) refl tt)))))))))))))))

sign_spelled : (b : ℕ) (bs : List ℕ) → IsSpelled (b ∷ bs) (sign_at b bs)
unfolding sign_at sign_text
sign_spelled b bs =
    some_if (b ∷ bs) (nat_eq b 46) _ _ (λ e. first_is b 46 bs (dots bs) e (dots_spelled bs))
    (some_if (b ∷ bs) (nat_eq b 61) _ _ (λ e. first_is b 61 bs (longer 61 s.EqualEqual s.Equal bs) e (longer_spelled (61 ∷ []) 61 s.EqualEqual s.Equal bs (λ r. refl) (λ r. refl)))
    (some_if (b ∷ bs) (nat_eq b 60) _ _ (λ e. first_is b 60 bs (less bs) e (less_spelled bs))
    (some_if (b ∷ bs) (nat_eq b 62) _ _ (λ e. first_is b 62 bs (greater bs) e (greater_spelled bs))
    (some_if (b ∷ bs) (nat_eq b 126) _ _ (λ e. first_is b 126 bs (longer 61 s.NotEqual s.Tilde bs) e (longer_spelled (126 ∷ []) 61 s.NotEqual s.Tilde bs (λ r. refl) (λ r. refl)))
    (some_if (b ∷ bs) (nat_eq b 47) _ _ (λ e. first_is b 47 bs (longer 47 s.SlashSlash s.Slash bs) e (longer_spelled (47 ∷ []) 47 s.SlashSlash s.Slash bs (λ r. refl) (λ r. refl)))
    (some_if (b ∷ bs) (nat_eq b 58) _ _ (λ e. first_is b 58 bs (longer 58 s.ColonColon s.Colon bs) e (longer_spelled (58 ∷ []) 58 s.ColonColon s.Colon bs (λ r. refl) (λ r. refl)))
    (single_spelled b bs)))))))

sign_by : (b : ℕ) (bs : List ℕ) → is_letter b ≡ false → begins_numeral (b ∷ bs) ≡ false → is_quote b ≡ false → opens (b ∷ bs) ≡ None → dashes (b ∷ bs) ≡ None
    → (o : Option (Sign × List ℕ)) → IsSpelled (b ∷ bs) o → Found (b ∷ bs) (signed (b ∷ bs) o)
sign_by b bs l n q e d (Some x) h = inr (a_sign x.0 x.1 h, allowed_of (b ∷ bs) x.1 n e d)
sign_by b bs l n q e d None h = (no_nil b bs, of_byte l n q e d)

dashed_by : (b : ℕ) (bs : List ℕ) → is_letter b ≡ false → begins_numeral (b ∷ bs) ≡ false → is_quote b ≡ false → opens (b ∷ bs) ≡ None
    → (o : Option (List ℕ)) → dashes (b ∷ bs) ≡ o → Found (b ∷ bs) (dashed_or_signed b bs o)
dashed_by b bs l n q e (Some inside) d = (no_nil b bs, of_comment inside d)
dashed_by b bs l n q e None d = sign_by b bs l n q e d (sign_at b bs) (sign_spelled b bs)

bracketed_by : (b : ℕ) (bs : List ℕ) → is_letter b ≡ false → begins_numeral (b ∷ bs) ≡ false → is_quote b ≡ false
    → (o : Option (ℕ × List ℕ)) → opens (b ∷ bs) ≡ o → Found (b ∷ bs) (bracketed b bs o)
bracketed_by b bs l n q (Some o) e = bracket_by b bs o.0 o.1 e n (up_to_close o.0 o.1) refl
bracketed_by b bs l n q None e = dashed_by b bs l n q e (dashes (b ∷ bs)) refl

found_by : (b : ℕ) (bs : List ℕ) (u v w : Bool) → is_letter b ≡ u → begins_numeral (b ∷ bs) ≡ v → is_quote b ≡ w
    → Found (b ∷ bs) (if u then word_at (b ∷ bs) else (if v then numeral_at (b ∷ bs) else (if w then texted (string (b ∷ bs) b bs) else bracketed b bs (opens (b ∷ bs)))))
found_by b bs true v w l n q = word_found b bs l
found_by b bs false true w l n q = numeral_found b bs n
found_by b bs false false true l n q = string_found b bs q n
found_by b bs false false false l n q = bracketed_by b bs l n q (opens (b ∷ bs)) refl

pub found : (bs : List ℕ) → Found bs (spelling bs)
unfolding spelling
found [] = inl (refl, refl)
found (b ∷ bs) = found_by b bs (is_letter b) (begins_numeral (b ∷ bs)) (is_quote b) refl refl refl

-- ---- a spelling is what is read, and what is read is a spelling

signs_begin : (x : Sign) → 0 < length (sign_text x)
unfolding sign_text
signs_begin s.Plus = omega arith
signs_begin s.Minus = omega arith
signs_begin s.Star = omega arith
signs_begin s.Slash = omega arith
signs_begin s.Percent = omega arith
signs_begin s.Caret = omega arith
signs_begin s.Hash = omega arith
signs_begin s.Amp = omega arith
signs_begin s.Tilde = omega arith
signs_begin s.Pipe = omega arith
signs_begin s.ShiftLeft = omega arith
signs_begin s.ShiftRight = omega arith
signs_begin s.SlashSlash = omega arith
signs_begin s.EqualEqual = omega arith
signs_begin s.NotEqual = omega arith
signs_begin s.LessEqual = omega arith
signs_begin s.GreaterEqual = omega arith
signs_begin s.Less = omega arith
signs_begin s.Greater = omega arith
signs_begin s.Equal = omega arith
signs_begin s.OpenParen = omega arith
signs_begin s.CloseParen = omega arith
signs_begin s.OpenBrace = omega arith
signs_begin s.CloseBrace = omega arith
signs_begin s.OpenBracket = omega arith
signs_begin s.CloseBracket = omega arith
signs_begin s.ColonColon = omega arith
signs_begin s.Semicolon = omega arith
signs_begin s.Colon = omega arith
signs_begin s.Comma = omega arith
signs_begin s.Dot = omega arith
signs_begin s.DotDot = omega arith
signs_begin s.DotDotDot = omega arith

pub signs_inline : (x : Sign) → list_all is_inline (sign_text x) ≡ true
unfolding sign_text
signs_inline s.Plus = refl
signs_inline s.Minus = refl
signs_inline s.Star = refl
signs_inline s.Slash = refl
signs_inline s.Percent = refl
signs_inline s.Caret = refl
signs_inline s.Hash = refl
signs_inline s.Amp = refl
signs_inline s.Tilde = refl
signs_inline s.Pipe = refl
signs_inline s.ShiftLeft = refl
signs_inline s.ShiftRight = refl
signs_inline s.SlashSlash = refl
signs_inline s.EqualEqual = refl
signs_inline s.NotEqual = refl
signs_inline s.LessEqual = refl
signs_inline s.GreaterEqual = refl
signs_inline s.Less = refl
signs_inline s.Greater = refl
signs_inline s.Equal = refl
signs_inline s.OpenParen = refl
signs_inline s.CloseParen = refl
signs_inline s.OpenBrace = refl
signs_inline s.CloseBrace = refl
signs_inline s.OpenBracket = refl
signs_inline s.CloseBracket = refl
signs_inline s.ColonColon = refl
signs_inline s.Semicolon = refl
signs_inline s.Colon = refl
signs_inline s.Comma = refl
signs_inline s.Dot = refl
signs_inline s.DotDot = refl
signs_inline s.DotDotDot = refl

name_begins : (front : List ℕ) → is_name front ≡ true → 0 < length front
name_begins [] e = cc
name_begins (b ∷ front) e = omega arith

numeral_begins : (front : List ℕ) → is_numeral front ≡ true → 0 < length front
numeral_begins [] e = cc
numeral_begins (b ∷ front) e = omega arith

front_short : (bs front rest : List ℕ) → bs ≡ front ++ rest → 0 < length front → length rest < length bs
front_short bs front rest e h = omega (arith, h, length-append front rest, ap length e)

bracket_first : (bs : List ℕ) (level : ℕ) (inside : List ℕ) → opens bs ≡ Some (level, inside) → length inside < length bs
bracket_first [] level inside e = cc
bracket_first (b ∷ bs) level inside e = by (nat_eq b 91) e
  where
    by : (v : Bool) → (if v then opening bs else None) ≡ Some (level, inside) → length inside < length (b ∷ bs)
    by true h = omega (arith, opening_short bs inside level h)
    by false h = cc

solid_short : (bs rest : List ℕ) → Solid bs rest → length rest < length bs
solid_short bs rest h = omega (arith, suffix_short bs (h.last ∷ rest) h.up_to)

-- a token takes a byte or more
pub stands_short : (bs : List ℕ) (x : Lex) (rest : List ℕ) → Stands bs x rest → length rest < length bs
stands_short bs _ _ (a_name front rest e n k) = front_short bs front rest e (name_begins front n)
stands_short bs _ _ (a_word front rest w e n k) = front_short bs front rest e (name_begins front n)
stands_short bs _ _ (an_integer front rest n e d i) = front_short bs front rest e (numeral_begins front d)
stands_short bs _ _ (a_sign x rest e) = front_short bs (sign_text x) rest e (signs_begin x)
stands_short bs _ _ (a_string quote inside value rest e k h) = omega (arith, ap length e, solid_short inside rest (quoted_solid [] quote (quote_is quote k) inside value rest h))
stands_short bs _ _ (a_bracket level inside content rest o u) = omega (arith, bracket_first bs level inside o, close_short level inside content rest u)

pub nothing_stands : (bs : List ℕ) (x : Lex) (rest : List ℕ) → bs ≡ [] → Stands bs x rest → ⊥
nothing_stands bs x rest e h = absurd (omega (arith, ap length e, stands_short bs x rest h))

read_by : (bs : List ℕ) (x : Lex) (rest : List ℕ) → Spells bs x rest → (r : Outcome Lex) → MeetsAt bs x rest r → Found bs r → r ≡ Ok (x, rest)
read_by bs x rest h (Err stop) m f = absurd (m h.allowed)
read_by bs x rest h (Ok y) m (inl e) = absurd (nothing_stands bs x rest e.0 h.stands)
read_by bs x rest h (Ok y) m (inr f) = let g = h.longest y.0 y.1 f.0 in ap Ok (m.1 (omega (arith, g, m.0)))

pub spelled_read : (bs : List ℕ) (x : Lex) (rest : List ℕ) → Spells bs x rest → spelling bs ≡ Ok (x, rest)
spelled_read bs x rest h = read_by bs x rest h (spelling bs) (met bs x rest h.stands) (found bs)

finish_by : (y : Lex × List ℕ) → y ≡ (finish, []) → is_finish y.0 ≡ true
finish_by y e = ap (λ z. is_finish z.0) e

stands_by : (bs : List ℕ) (y : Lex × List ℕ) → is_finish y.0 ≡ false → Found bs (Ok y) → Stands bs y.0 y.1 × Allowed bs y.1
stands_by bs y n (inl e) = absurd (not_both (sym n ∙ finish_by y e.1))
stands_by bs y n (inr f) = f

pub read_stands : (bs : List ℕ) (x : Lex) (rest : List ℕ) → spelling bs ≡ Ok (x, rest) → is_finish x ≡ false → Stands bs x rest × Allowed bs rest
read_stands bs x rest e n = stands_by bs (x, rest) n (subst (Found bs) e (found bs))

pub read_spelled : (bs : List ℕ) (x : Lex) (rest : List ℕ) → spelling bs ≡ Ok (x, rest) → is_finish x ≡ false → Spells bs x rest
read_spelled bs x rest e n =
    let f = read_stands bs x rest e n in
    record {
      stands = f.0;
      longest = λ other more h. (subst (MeetsAt bs other more) e (met bs other more h)).0;
      allowed = f.1;
    }

pub no_finish_spelled : (bs : List ℕ) (x : Lex) (rest : List ℕ) → Spells bs x rest → is_finish x ≡ false
no_finish_spelled bs x rest h = no_finish bs x rest h.stands

end_by : (bs : List ℕ) (y : Lex × List ℕ) → is_finish y.0 ≡ true → Found bs (Ok y) → (bs ≡ []) × (y ≡ (finish, []))
end_by bs y n (inl e) = e
end_by bs y n (inr f) = absurd (not_both (sym (no_finish bs y.0 y.1 f.0) ∙ n))

pub read_end : (bs : List ℕ) (x : Lex) (rest : List ℕ) → spelling bs ≡ Ok (x, rest) → is_finish x ≡ true → (bs ≡ []) × (◌≡◌ {A = Lex × List ℕ} (x, rest) (finish, []))
read_end bs x rest e n = end_by bs (x, rest) n (subst (Found bs) e (found bs))

pub read_fault : (bs : List ℕ) (stop : Stop) → spelling bs ≡ Err stop → (bs ≢ []) × ((x : Lex) (rest : List ℕ) → Spells bs x rest → ⊥) × Blames bs stop
read_fault bs stop e =
    let f = subst (Found bs) e (found bs) in
    (f.0, λ x rest h. subst (MeetsAt bs x rest) e (met bs x rest h.stands) h.allowed, f.1)

-- ---- the first bytes say which fault

abbrev Nothing : List ℕ → Type 0
Nothing bs = (x : Lex) (rest : List ℕ) → Spells bs x rest → ⊥

int_stop : (bs : List ℕ) → Nothing bs → spelling bs ≡ numeral_at bs → (o : Option ℤ) → integer_run (numeral_run bs) ≡ o → spelling bs ≡ Err (float_or_bad (is_float (numeral_run bs)), bs)
unfolding numeral_at
int_stop bs n e (Some m) f = absurd (n (int m) (past_numeral bs) (read_spelled bs (int m) (past_numeral bs) (e ∙ ap (int_or_stop bs) f) refl))
int_stop bs n e None f = e ∙ ap (int_or_stop bs) f

numeral_stop : (bs : List ℕ) → Nothing bs → begins_numeral bs ≡ true → spelling bs ≡ Err (float_or_bad (is_float (numeral_run bs)), bs)
numeral_stop [] n e = cc
numeral_stop (b ∷ bs) n e = int_stop (b ∷ bs) n (numeral_spelling b bs e) (integer_run (numeral_run (b ∷ bs))) refl

dash_stop : (bs inside : List ℕ) → dashes bs ≡ Some inside → spelling bs ≡ Err (OpenComment, bs)
unfolding spelling
dash_stop [] inside e = cc
dash_stop (b ∷ []) inside e = cc
dash_stop (b ∷ c ∷ bs) inside e = by (nat_eq b 45) (nat_eq c 45) refl refl e
  where
    at : 45 ≡ b → 45 ≡ c → spelling (b ∷ c ∷ bs) ≡ Err (OpenComment, b ∷ c ∷ bs)
    at k l = subst (λ (z : ℕ). spelling (z ∷ c ∷ bs) ≡ Err (OpenComment, z ∷ c ∷ bs)) k (subst (λ (z : ℕ). spelling (45 ∷ z ∷ bs) ≡ Err (OpenComment, 45 ∷ z ∷ bs)) l refl)

    by : (u v : Bool) → nat_eq b 45 ≡ u → nat_eq c 45 ≡ v → (if u && v then Some bs else None) ≡ Some inside → spelling (b ∷ c ∷ bs) ≡ Err (OpenComment, b ∷ c ∷ bs)
    by true true f g h = at (sym (eqb-true b 45 f)) (sym (eqb-true c 45 g))
    by true false f g h = cc
    by false v f g h = cc

signed_stop : (bs : List ℕ) → Nothing bs → (o : Option (Sign × List ℕ)) → spelling bs ≡ signed bs o → spelling bs ≡ Err (BadByte, bs)
signed_stop bs n (Some x) e = absurd (n (sign x.0) x.1 (read_spelled bs (sign x.0) x.1 e refl))
signed_stop bs n None e = e

byte_spelling : (b : ℕ) (bs : List ℕ) → is_letter b ≡ false → begins_numeral (b ∷ bs) ≡ false → is_quote b ≡ false → opens (b ∷ bs) ≡ None → dashes (b ∷ bs) ≡ None → spelling (b ∷ bs) ≡ signed (b ∷ bs) (sign_at b bs)
unfolding spelling
byte_spelling b bs l k q o d = rw (l, k, q) (ap (bracketed b bs) o ∙ ap (dashed_or_signed b bs) d)

byte_stop : (bs : List ℕ) → bs ≢ [] → Nothing bs → begins_letter bs ≡ false → begins_numeral bs ≡ false → begins_quote bs ≡ false → opens bs ≡ None → dashes bs ≡ None → spelling bs ≡ Err (BadByte, bs)
byte_stop [] m n l k q o d = absurd (m refl)
byte_stop (b ∷ bs) m n l k q o d = signed_stop (b ∷ bs) n (sign_at b bs) (byte_spelling b bs l k q o d)

pub blamed_read : (bs : List ℕ) (stop : Stop) → bs ≢ [] → Nothing bs → Blames bs stop → spelling bs ≡ Err stop
blamed_read bs _ m n (of_comment inside d) = dash_stop bs inside d
blamed_read bs _ m n (of_float e f) = numeral_stop bs n e ∙ ap (λ z. Err (float_or_bad z, bs)) f
blamed_read bs _ m n (of_numeral e f) = numeral_stop bs n e ∙ ap (λ z. Err (float_or_bad z, bs)) f
blamed_read bs _ m n (of_string quote inside stop e k h) = ap spelling e ∙ quote_spelling quote inside k ∙ ap (λ z. texted (string z quote inside)) (sym e) ∙ texted_err bs quote inside stop k h
blamed_read bs _ m n (of_bracket level inside o u) = bracket_spelling bs level inside o ∙ ap (bracket_end bs) u
blamed_read bs _ m n (of_byte l k q o d) = byte_stop bs m n l k q o d
