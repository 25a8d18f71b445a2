-- What stands in front of the rest.
use Rattle.std.proofs.Common.{◌≡◌, refl, sym, ◌∙◌, ap, subst, ℕ, ◌+◌, ◌-◌, ◌≤◌, Bool, true, false, if◌then◌else◌, not, nat_eq, ◌&&◌, ◌||◌, List, [], ◌∷◌, ◌++◌, append_assoc, length-append, length, take, drop, arith}
use Rattle.std.specs.List.{list_all}
use Rattle.std.proofs.lemmas.Bool.{eqb-true}
use Rattle.std.proofs.lemmas.List.{take-append-drop}
use Rattle.lua_lexer.specs.Bytes.{run, past, is_word, is_inline, is_line_end, is_pair, line_ends, past_line_end, EndsWith}
use Rattle.lua_lexer.proofs.Runs.{run_past, front_cut, back_cut}
use Rattle.lua_lexer.proofs.LineEnds.{other_first, Starts, lines_append}

pub record Suffix (bs rest : List ℕ) : Type 0 where
  pub front : List ℕ
  pub whole : bs ≡ front ++ rest

pub suffix_refl : (bs : List ℕ) → Suffix bs bs
suffix_refl bs = record { front = []; whole = refl }

pub suffix_cons : (b : ℕ) (bs : List ℕ) → Suffix (b ∷ bs) bs
suffix_cons b bs = record { front = b ∷ []; whole = refl }

pub suffix_trans : (a b c : List ℕ) → Suffix a b → Suffix b c → Suffix a c
suffix_trans a b c s t = record { front = s.front ++ t.front; whole = s.whole ∙ ap (λ z. s.front ++ z) t.whole ∙ sym (append_assoc s.front t.front c) }

pub suffix_past : (p : ℕ → Bool) (bs : List ℕ) → Suffix bs (past p bs)
suffix_past p bs = record { front = run p bs; whole = sym (run_past p bs) }

pub suffix_drop : (n : ℕ) (bs : List ℕ) → Suffix bs (drop n bs)
suffix_drop n bs = record { front = take n bs; whole = sym (take-append-drop n bs) }

pub suffix_short : (bs rest : List ℕ) → Suffix bs rest → length rest ≤ length bs
suffix_short bs rest s = omega (arith, length-append {A = ℕ}, ap length s.whole)

pub suffix_ends : (bs rest : List ℕ) → Suffix bs rest → EndsWith bs rest
suffix_ends bs rest s = (suffix_short bs rest s, back_cut s.front rest bs (sym s.whole))

behind_first : (script bs rest : List ℕ) (b : ℕ) → EndsWith script bs → bs ≡ b ∷ rest → EndsWith script rest
behind_first script bs rest b h e = suffix_ends script rest (suffix_trans script bs rest (subst (Suffix script) h.1 (suffix_drop (length script - length bs) script)) (record { front = b ∷ []; whole = e }))

pub behind_short : (script bs rest : List ℕ) (b : ℕ) → EndsWith script bs → bs ≡ b ∷ rest → length rest ≤ length script
behind_short script bs rest b h e = (behind_first script bs rest b h e).0

pub behind_end : (script bs rest : List ℕ) (b : ℕ) → EndsWith script bs → bs ≡ b ∷ rest → drop (length script - length rest) script ≡ rest
behind_end script bs rest b h e = (behind_first script bs rest b h e).1

pub ruleset rules = (behind_short, behind_end)

-- ---- bytes that are no line ends

pub not_end : (p : ℕ → Bool) → p 10 ≡ false → p 13 ≡ false → (b : ℕ) → p b ≡ true → is_line_end b ≡ false
not_end p t r b e = by (nat_eq b 10) (nat_eq b 13) refl refl
  where
    by : (v w : Bool) → nat_eq b 10 ≡ v → nat_eq b 13 ≡ w → (v || w) ≡ false
    by true w x y = let z : p b ≡ false = ap p (eqb-true b 10 x) ∙ t in cc
    by false true x y = let z : p b ≡ false = ap p (eqb-true b 13 y) ∙ r in cc
    by false false x y = refl

all_weaker_by : (p q : ℕ → Bool) → ((b : ℕ) → p b ≡ true → q b ≡ true) → (b : ℕ) (bs : List ℕ) (v : Bool) → p b ≡ v → (list_all p bs ≡ true → list_all q bs ≡ true) → (v && list_all p bs) ≡ true → (q b && list_all q bs) ≡ true
all_weaker_by p q w b bs true e ih h = rw (w b e) (ih h)
all_weaker_by p q w b bs false e ih h = cc

pub all_weaker : (p q : ℕ → Bool) → ((b : ℕ) → p b ≡ true → q b ≡ true) → (bs : List ℕ) → list_all p bs ≡ true → list_all q bs ≡ true
all_weaker p q w [] h = refl
all_weaker p q w (b ∷ bs) h = all_weaker_by p q w b bs (p b) refl (all_weaker p q w bs) h

word_inline : (b : ℕ) → is_word b ≡ true → is_inline b ≡ true
word_inline b e = ap not (not_end is_word refl refl b e)

pub words_inline : (bs : List ℕ) → list_all is_word bs ≡ true → list_all is_inline bs ≡ true
words_inline bs h = all_weaker is_word is_inline word_inline bs h

inline_by : (b : ℕ) (front rest : List ℕ) (v : Bool) → is_line_end b ≡ v → (list_all is_inline front ≡ true → line_ends (front ++ rest) ≡ line_ends rest) → (not v && list_all is_inline front) ≡ true → line_ends (b ∷ front ++ rest) ≡ line_ends rest
inline_by b front rest true e ih h = cc
inline_by b front rest false e ih h = other_first b (front ++ rest) e ∙ ih h

-- bytes without line ends in front change no line
pub inline_front : (front rest : List ℕ) → list_all is_inline front ≡ true → line_ends (front ++ rest) ≡ line_ends rest
inline_front [] rest h = refl
inline_front (b ∷ front) rest h = inline_by b front rest (is_line_end b) refl (inline_front front rest) h

pub equal_end : (c b : ℕ) → is_line_end c ≡ false → nat_eq b c ≡ true → is_line_end b ≡ false
equal_end c b n e = ap is_line_end (eqb-true b c e) ∙ n

-- up to and with a byte that is no line end
pub record Solid (bs rest : List ℕ) : Type 0 where
  pub last : ℕ
  pub solid : is_line_end last ≡ false
  pub up_to : Suffix bs (last ∷ rest)

pub solid_suffix : (bs rest : List ℕ) → Solid bs rest → Suffix bs rest
solid_suffix bs rest s = suffix_trans bs (s.last ∷ rest) rest s.up_to (suffix_cons s.last rest)

pub solid_behind : (a b c : List ℕ) → Suffix a b → Solid b c → Solid a c
solid_behind a b c s t = record { last = t.last; solid = t.solid; up_to = suffix_trans a b (t.last ∷ c) s t.up_to }

-- the lines of the two parts
pub record Parts (bs rest : List ℕ) : Type 0 where
  pub lines : line_ends (take (length bs - length rest) bs) + line_ends rest ≡ line_ends bs

parts_of : (bs rest : List ℕ) → Suffix bs rest → ((front : List ℕ) → bs ≡ front ++ rest → line_ends front + line_ends rest ≡ line_ends bs) → Parts bs rest
parts_of bs rest s h = record { lines = rw (front_cut s.front rest bs (sym s.whole)) (h s.front s.whole) }

pub starts_parts : (bs rest : List ℕ) → Suffix bs rest → Starts rest → Parts bs rest
starts_parts bs rest s t = parts_of bs rest s (λ front e. sym (lines_append front rest t) ∙ ap line_ends (sym e))

solid_lines : (bs rest : List ℕ) (s : Solid bs rest) → line_ends (s.up_to.front ++ s.last ∷ []) + line_ends rest ≡ line_ends bs
solid_lines bs rest s =
    let a : line_ends (s.up_to.front ++ s.last ∷ []) ≡ line_ends s.up_to.front + line_ends (s.last ∷ []) = lines_append s.up_to.front (s.last ∷ []) s.solid in
    let b : line_ends (s.up_to.front ++ s.last ∷ rest) ≡ line_ends s.up_to.front + line_ends (s.last ∷ rest) = lines_append s.up_to.front (s.last ∷ rest) s.solid in
    let c : line_ends (s.last ∷ []) ≡ line_ends [] = other_first s.last [] s.solid in
    let d : line_ends (s.last ∷ rest) ≡ line_ends rest = other_first s.last rest s.solid in
    let z : line_ends [] ≡ 0 = unfold line_ends in refl in
    let w : line_ends bs ≡ line_ends (s.up_to.front ++ s.last ∷ rest) = ap line_ends s.up_to.whole in
    omega (arith, a, b, c, d, z, w)

pub solid_parts : (bs rest : List ℕ) → Solid bs rest → Parts bs rest
solid_parts bs rest s =
    let e : (s.up_to.front ++ s.last ∷ []) ++ rest ≡ bs = append_assoc s.up_to.front (s.last ∷ []) rest ∙ sym s.up_to.whole in
    record { lines = rw (front_cut (s.up_to.front ++ s.last ∷ []) rest bs e) (solid_lines bs rest s) }

pub past_line_end_suffix : (bs : List ℕ) → Suffix bs (past_line_end bs)
past_line_end_suffix [] = suffix_refl []
past_line_end_suffix (b ∷ []) = by (is_line_end b)
  where
    by : (v : Bool) → Suffix (b ∷ []) (if v then [] else b ∷ [])
    by true = suffix_cons b []
    by false = suffix_refl (b ∷ [])
past_line_end_suffix (b ∷ c ∷ bs) = by (is_pair b c) (is_line_end b)
  where
    by : (v w : Bool) → Suffix (b ∷ c ∷ bs) (if v then bs else (if w then c ∷ bs else b ∷ c ∷ bs))
    by true w = suffix_trans (b ∷ c ∷ bs) (c ∷ bs) bs (suffix_cons b (c ∷ bs)) (suffix_cons c bs)
    by false true = suffix_cons b (c ∷ bs)
    by false false = suffix_refl (b ∷ c ∷ bs)
