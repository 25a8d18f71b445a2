-- Quoted strings.
use Rattle.std.proofs.Common.{◌≡◌, refl, sym, ◌∙◌, ap, subst, ℕ, zero, suc, ◌+◌, ◌-◌, ◌*◌, ◌≤◌, ◌<◌, Bool, true, false, if◌then◌else◌, nat_eq, nat_le, nat_lt, ◌&&◌, ◌||◌, not, List, [], ◌∷◌, ◌++◌, append_assoc, append-nil, eq-eqb, length, take, Option, Some, None, Ok, Err, arith}
use Rattle.std.proofs.lemmas.Bool.{eqb-true}
use Rattle.lua_lexer.specs.declared.stop.Why.{Why}
use Rattle.lua_lexer.specs.declared.stop.Why.TheVariants.{BadEscape, OpenString}
use Rattle.lua_lexer.specs.Bytes.{past, run, is_digit, is_hex_digit, is_line_end, is_blank, is_quote}
use Rattle.lua_lexer.specs.Spellings.{is_plain, decimal, decimal_escape, hex_escape, code_point, unicode_escape, other_escape, letter_or_other, letter_escape, escape, Quoted, close, plain, escaped, Broken, ends, wrong, behind_plain, behind_escape, hex_number, utf8}
use Rattle.lua_lexer.specs.Tokens.{text}
use Rattle.lua_lexer.specs.Reading.{Outcome, Stop, put_front, after_escape, quoted, string, texted}
use Rattle.lua_lexer.proofs.Runs.{past_short, run_begins}
use Rattle.lua_lexer.proofs.Fronts.{Suffix, suffix_refl, suffix_cons, suffix_trans, suffix_past, suffix_short, past_line_end_suffix, Solid, solid_behind}

-- ---- after an escape stands an end of the bytes

abbrev Within : Option (List ℕ × List ℕ) → List ℕ → Type 0
Within None bs = Unit {0}
Within (Some x) bs = Suffix bs x.1

within_if : (v : Bool) (r s : Option (List ℕ × List ℕ)) (bs : List ℕ) → Within r bs → Within s bs → Within (if v then r else s) bs
within_if true r s bs h g = h
within_if false r s bs h g = g

within_more : (r : Option (List ℕ × List ℕ)) (cs bs : List ℕ) → Suffix bs cs → Within r cs → Within r bs
within_more None cs bs h g = tt
within_more (Some x) cs bs h g = suffix_trans bs cs x.1 h g

decimal_by : (k n b : ℕ) (bs : List ℕ) (v : Bool) → Suffix bs (decimal k (n * 10 + (b - 48)) bs).1 → Suffix (b ∷ bs) (if v then decimal k (n * 10 + (b - 48)) bs else (n, b ∷ bs)).1
decimal_by k n b bs true h = suffix_trans (b ∷ bs) bs (decimal k (n * 10 + (b - 48)) bs).1 (suffix_cons b bs) h
decimal_by k n b bs false h = suffix_refl (b ∷ bs)

decimal_suffix : (k n : ℕ) (bs : List ℕ) → Suffix bs (decimal k n bs).1
decimal_suffix zero n bs = suffix_refl bs
decimal_suffix (suc k) n [] = suffix_refl []
decimal_suffix (suc k) n (b ∷ bs) = decimal_by k n b bs (is_digit b) (decimal_suffix k (n * 10 + (b - 48)) bs)

hex_within : (bs : List ℕ) → Within (hex_escape bs) bs
hex_within [] = tt
hex_within (b ∷ []) = tt
hex_within (b ∷ c ∷ bs) = within_if (is_hex_digit b && is_hex_digit c) _ None (b ∷ c ∷ bs) (suffix_trans (b ∷ c ∷ bs) (c ∷ bs) bs (suffix_cons b (c ∷ bs)) (suffix_cons c bs)) tt

point_within : (ds bs : List ℕ) → Within (code_point ds bs) bs
point_within [] bs = tt
point_within (d ∷ ds) [] = tt
point_within (d ∷ ds) (b ∷ bs) = within_if (nat_eq b 125 && nat_lt (hex_number 0 (d ∷ ds)) (2147483648)) (Some (utf8 (hex_number 0 (d ∷ ds)), bs)) None (b ∷ bs) (suffix_cons b bs) tt

unicode_within : (bs : List ℕ) → Within (unicode_escape bs) bs
unicode_within [] = tt
unicode_within (b ∷ bs) = within_if (nat_eq b 123) _ None (b ∷ bs)
    (within_more (code_point (run is_hex_digit bs) (past is_hex_digit bs)) (past is_hex_digit bs) (b ∷ bs) (suffix_trans (b ∷ bs) bs (past is_hex_digit bs) (suffix_cons b bs) (suffix_past is_hex_digit bs)) (point_within (run is_hex_digit bs) (past is_hex_digit bs))) tt

value_within : (bs : List ℕ) (x : ℕ × List ℕ) → Suffix bs x.1 → Within (decimal_escape x) bs
value_within bs x h = within_if (nat_le x.0 255) (Some (x.0 ∷ [], x.1)) None bs h tt

other_within : (b : ℕ) (bs : List ℕ) → Within (other_escape b bs) (b ∷ bs)
other_within b bs =
    within_if (is_line_end b) _ _ (b ∷ bs) (past_line_end_suffix (b ∷ bs))
    (within_if (nat_eq b 122) _ _ (b ∷ bs) (suffix_trans (b ∷ bs) bs (past is_blank bs) (suffix_cons b bs) (suffix_past is_blank bs))
    (within_if (nat_eq b 120) _ _ (b ∷ bs) (within_more (hex_escape bs) bs (b ∷ bs) (suffix_cons b bs) (hex_within bs))
    (within_if (nat_eq b 117) _ _ (b ∷ bs) (within_more (unicode_escape bs) bs (b ∷ bs) (suffix_cons b bs) (unicode_within bs))
    (within_if (is_digit b) _ None (b ∷ bs) (value_within (b ∷ bs) (decimal 3 0 (b ∷ bs)) (decimal_suffix 3 0 (b ∷ bs))) tt))))

letter_within : (b : ℕ) (bs : List ℕ) (o : Option ℕ) → Within (letter_or_other b bs o) (b ∷ bs)
letter_within b bs None = other_within b bs
letter_within b bs (Some c) = suffix_cons b bs

escape_within : (bs : List ℕ) → Within (escape bs) bs
unfolding escape
escape_within [] = tt
escape_within (b ∷ bs) = letter_within b bs (letter_escape b)

pub escape_suffix : (bs front behind : List ℕ) → escape bs ≡ Some (front, behind) → Suffix bs behind
escape_suffix bs front behind e = subst (λ (r : Option (List ℕ × List ℕ)). Within r bs) e (escape_within bs)

pub escape_short : (bs front behind : List ℕ) → escape bs ≡ Some (front, behind) → length behind ≤ length bs
escape_short bs front behind e = suffix_short bs behind (escape_suffix bs front behind e)

-- ---- bytes of a string

plain_by : (u v w : Bool) → not (u || v || w) ≡ true → (u ≡ false) × (v ≡ false) × (w ≡ false)
plain_by false false false e = (refl, refl, refl)
plain_by false false true e = cc
plain_by false true w e = cc
plain_by true v w e = cc

plain_is : (quote b : ℕ) → is_plain quote b ≡ true → (nat_eq b quote ≡ false) × (nat_eq b 92 ≡ false) × (is_line_end b ≡ false)
plain_is quote b e = plain_by (nat_eq b quote) (nat_eq b 92) (is_line_end b) e

not_plain : (quote b : ℕ) → (b ≡ quote → ⊥) → (b ≡ 92 → ⊥) → is_plain quote b ≡ false → is_line_end b ≡ true
not_plain quote b n m e = by (nat_eq b quote) (nat_eq b 92) (is_line_end b) refl refl e
  where
    by : (u v w : Bool) → nat_eq b quote ≡ u → nat_eq b 92 ≡ v → not (u || v || w) ≡ false → w ≡ true
    by true v w f g h = absurd (n (eqb-true b quote f))
    by false true w f g h = absurd (m (eqb-true b 92 g))
    by false false true f g h = refl
    by false false false f g h = cc

past_by : (p : ℕ → Bool) (b : ℕ) (bs : List ℕ) (v : Bool) → p b ≡ v → ((c : ℕ) (rest : List ℕ) → past p bs ≡ c ∷ rest → p c ≡ false) → (c : ℕ) (rest : List ℕ) → (if v then past p bs else b ∷ bs) ≡ c ∷ rest → p c ≡ false
past_by p b bs true e ih c rest h = ih c rest h
past_by p b bs false e ih c rest h = let g : b ≡ c = cc in ap p (sym g) ∙ e

past_stops : (p : ℕ → Bool) (bs : List ℕ) (c : ℕ) (rest : List ℕ) → past p bs ≡ c ∷ rest → p c ≡ false
past_stops p [] c rest h = cc
past_stops p (b ∷ bs) c rest h = past_by p b bs (p b) refl (past_stops p bs) c rest h

-- a quote is neither a backslash nor a line end
pub record IsQuote (quote : ℕ) : Type 0 where
  pub no_backslash : nat_eq 92 quote ≡ false
  pub no_line : is_line_end quote ≡ false

pub quote_is : (quote : ℕ) → is_quote quote ≡ true → IsQuote quote
quote_is quote e = by (nat_eq quote 34) (nat_eq quote 39) refl refl e
  where
    by : (u v : Bool) → nat_eq quote 34 ≡ u → nat_eq quote 39 ≡ v → (u || v) ≡ true → IsQuote quote
    by true v f g h = let k : 34 ≡ quote = sym (eqb-true quote 34 f) in subst IsQuote k (record { no_backslash = refl; no_line = refl })
    by false true f g h = let k : 39 ≡ quote = sym (eqb-true quote 39 g) in subst IsQuote k (record { no_backslash = refl; no_line = refl })
    by false false f g h = cc

line_is : (b quote : ℕ) → IsQuote quote → is_line_end b ≡ true → (nat_eq b quote ≡ false) × (nat_eq b 92 ≡ false)
line_is b quote q e = (by (nat_eq b quote) refl, by92 (nat_eq b 92) refl)
  where
    by : (v : Bool) → nat_eq b quote ≡ v → v ≡ false
    by true f = let h : is_line_end b ≡ false = ap is_line_end (eqb-true b quote f) ∙ q.no_line in cc
    by false f = refl

    by92 : (v : Bool) → nat_eq b 92 ≡ v → v ≡ false
    by92 true f = let h : is_line_end b ≡ false = ap is_line_end (eqb-true b 92 f) in cc
    by92 false f = refl

-- ---- the reading of a string is the string

module _ (at : List ℕ) (quote : ℕ) (q : IsQuote quote) where
  reads : (n : ℕ) (bs value rest : List ℕ) → length bs < n → Quoted quote bs value rest → quoted at quote n bs ≡ Ok (value, rest)
  unfolding quoted
  reads zero bs value rest lt h = absurd (omega (arith, lt))
  reads (suc n) _ _ _ lt (close b rest e) = rw e refl
  reads (suc n) _ _ _ lt (plain b bs value rest e h) =
      let f = plain_is quote b e in
      rw (f.0, f.1, f.2) (ap (put_front (b ∷ [])) (reads n bs value rest (omega (arith, lt)) h))
  reads (suc n) _ _ _ lt (escaped bs front behind value rest e h) =
      let s = escape_short bs front behind e in
      rw q.no_backslash (ap (after_escape (quoted at quote n) (92 ∷ bs)) e ∙ ap (put_front front) (reads n behind value rest (omega (arith, lt, s)) h))

  breaks : (n : ℕ) (bs : List ℕ) (stop : Stop) → length bs < n → Broken at quote bs stop → quoted at quote n bs ≡ Err stop
  unfolding quoted
  breaks zero bs stop lt h = absurd (omega (arith, lt))
  breaks (suc n) _ _ lt (ends [] e) = refl
  breaks (suc n) _ _ lt (ends (b ∷ bs) e) = let f = line_is b quote q e in rw (f.0, f.1, e) refl
  breaks (suc n) _ _ lt (wrong bs e) = rw q.no_backslash (ap (after_escape (quoted at quote n) (92 ∷ bs)) e)
  breaks (suc n) _ _ lt (behind_plain b bs stop e h) =
      let f = plain_is quote b e in
      rw (f.0, f.1, f.2) (ap (put_front (b ∷ [])) (breaks n bs stop (omega (arith, lt)) h))
  breaks (suc n) _ _ lt (behind_escape bs front behind stop e h) =
      let s = escape_short bs front behind e in
      rw q.no_backslash (ap (after_escape (quoted at quote n) (92 ∷ bs)) e ∙ ap (put_front front) (breaks n behind stop (omega (arith, lt, s)) h))

  pub string_reads : (bs value rest : List ℕ) → Quoted quote bs value rest → string at quote bs ≡ Ok (value, rest)
  unfolding string
  string_reads bs value rest h = reads (suc (length bs)) bs value rest (omega arith) h

  pub string_breaks : (bs : List ℕ) (stop : Stop) → Broken at quote bs stop → string at quote bs ≡ Err stop
  unfolding string
  string_breaks bs stop h = breaks (suc (length bs)) bs stop (omega arith) h

  -- a string ends in a byte that is no line end
  pub quoted_solid : (bs value rest : List ℕ) → Quoted quote bs value rest → Solid bs rest
  quoted_solid _ _ _ (close b rest e) = record { last = b; solid = ap is_line_end (eqb-true b quote e) ∙ q.no_line; up_to = suffix_refl (b ∷ rest) }
  quoted_solid _ _ _ (plain b bs value rest e h) = solid_behind (b ∷ bs) bs rest (suffix_cons b bs) (quoted_solid bs value rest h)
  quoted_solid _ _ _ (escaped bs front behind value rest e h) =
      solid_behind (92 ∷ bs) behind rest (suffix_trans (92 ∷ bs) bs behind (suffix_cons 92 bs) (escape_suffix bs front behind e)) (quoted_solid behind value rest h)

  -- each string ends or breaks off
  abbrev pub Meets : List ℕ → Outcome (List ℕ) → Type 0
  Meets bs (Ok x) = Quoted quote bs x.0 x.1
  Meets bs (Err stop) = Broken at quote bs stop

  plain_meets : (b : ℕ) (bs : List ℕ) → is_plain quote b ≡ true → (r : Outcome (List ℕ)) → Meets bs r → Meets (b ∷ bs) (put_front (b ∷ []) r)
  plain_meets b bs e (Ok x) h = plain b bs x.0 x.1 e h
  plain_meets b bs e (Err stop) h = behind_plain b bs stop e h

  front_meets : (bs front behind : List ℕ) → escape bs ≡ Some (front, behind) → (r : Outcome (List ℕ)) → Meets behind r → Meets (92 ∷ bs) (put_front front r)
  front_meets bs front behind e (Ok x) h = escaped bs front behind x.0 x.1 e h
  front_meets bs front behind e (Err stop) h = behind_escape bs front behind stop e h

  escape_meets : (more : List ℕ → Outcome (List ℕ)) (bs : List ℕ) → ((behind : List ℕ) → length behind ≤ length bs → Meets behind (more behind)) → (o : Option (List ℕ × List ℕ)) → escape bs ≡ o → Meets (92 ∷ bs) (after_escape more (92 ∷ bs) o)
  escape_meets more bs ih None e = wrong bs e
  escape_meets more bs ih (Some x) e = front_meets bs x.0 x.1 e (more x.1) (ih x.1 (escape_short bs x.0 x.1 e))

  byte_meets : (n b : ℕ) (bs : List ℕ) → length (b ∷ bs) < suc n → ((behind : List ℕ) → length behind < n → Meets behind (quoted at quote n behind)) → (u v w : Bool) → nat_eq b quote ≡ u → nat_eq b 92 ≡ v → is_line_end b ≡ w
      → Meets (b ∷ bs) (if u then Ok ([], bs) else (if v then after_escape (quoted at quote n) (b ∷ bs) (escape bs) else (if w then Err (OpenString, at) else put_front (b ∷ []) (quoted at quote n bs))))
  byte_meets n b bs lt ih true v w e f g = close b bs e
  byte_meets n b bs lt ih false true w e f g =
      let k : 92 ≡ b = sym (eqb-true b 92 f) in
      subst (λ (z : ℕ). Meets (z ∷ bs) (after_escape (quoted at quote n) (z ∷ bs) (escape bs))) k
      (escape_meets (quoted at quote n) bs (λ behind le. ih behind (omega (arith, lt, le))) (escape bs) refl)
  byte_meets n b bs lt ih false false true e f g = ends (b ∷ bs) g
  byte_meets n b bs lt ih false false false e f g =
      let k : is_plain quote b ≡ true = rw (e, f, g) refl in
      plain_meets b bs k (quoted at quote n bs) (ih bs (omega (arith, lt)))

  all_meet : (n : ℕ) (bs : List ℕ) → length bs < n → Meets bs (quoted at quote n bs)
  unfolding quoted
  all_meet zero bs lt = absurd (omega (arith, lt))
  all_meet (suc n) [] lt = ends [] refl
  all_meet (suc n) (b ∷ bs) lt = byte_meets n b bs lt (all_meet n) (nat_eq b quote) (nat_eq b 92) (is_line_end b) refl refl refl

  pub string_meets : (bs : List ℕ) → Meets bs (string at quote bs)
  unfolding string
  string_meets bs = all_meet (suc (length bs)) bs (omega arith)

-- ---- the turns of the code

module _ (at : List ℕ) (quote : ℕ) where
  plain_good_by : (b : ℕ) (bs value rest : List ℕ) (v : Bool) → is_plain quote b ≡ v → (Quoted quote (past (is_plain quote) bs) value rest → Quoted quote bs (run (is_plain quote) bs ++ value) rest)
      → Quoted quote (if v then past (is_plain quote) bs else b ∷ bs) value rest → Quoted quote (b ∷ bs) ((if v then b ∷ run (is_plain quote) bs else []) ++ value) rest
  plain_good_by b bs value rest true e ih h = plain b bs (run (is_plain quote) bs ++ value) rest e (ih h)
  plain_good_by b bs value rest false e ih h = h

  over_plain : (bs value rest : List ℕ) → Quoted quote (past (is_plain quote) bs) value rest → Quoted quote bs (run (is_plain quote) bs ++ value) rest
  over_plain [] value rest h = h
  over_plain (b ∷ bs) value rest h = plain_good_by b bs value rest (is_plain quote b) refl (over_plain bs value rest) h

  plain_bad_by : (b : ℕ) (bs : List ℕ) (stop : Stop) (v : Bool) → is_plain quote b ≡ v → (Broken at quote (past (is_plain quote) bs) stop → Broken at quote bs stop)
      → Broken at quote (if v then past (is_plain quote) bs else b ∷ bs) stop → Broken at quote (b ∷ bs) stop
  plain_bad_by b bs stop true e ih h = behind_plain b bs stop e (ih h)
  plain_bad_by b bs stop false e ih h = h

  over_broken : (bs : List ℕ) (stop : Stop) → Broken at quote (past (is_plain quote) bs) stop → Broken at quote bs stop
  over_broken [] stop h = h
  over_broken (b ∷ bs) stop h = plain_bad_by b bs stop (is_plain quote b) refl (over_broken bs stop) h

  -- whatever ends or breaks off the string from here on does so with what was found
  abbrev pub Good : List ℕ → List ℕ → List ℕ → Type 0
  Good bytes found bs = (value rest : List ℕ) → Quoted quote bs value rest → Quoted quote bytes (found ++ value) rest

  abbrev pub Bad : List ℕ → List ℕ → Type 0
  Bad bytes bs = (stop : Why × List ℕ) → Broken at quote bs stop → Broken at quote bytes stop

  pub string_end : (bytes found found' bs v behind : List ℕ) (b : ℕ) → Good bytes found bs → found' ≡ found ++ run (is_plain quote) bs → v ≡ past (is_plain quote) bs → v ≡ b ∷ behind → b ≡ quote → Quoted quote bytes found' behind
  string_end bytes found found' bs v behind b good f p e k =
      let h : Quoted quote (past (is_plain quote) bs) [] behind = subst (λ (z : List ℕ). Quoted quote z [] behind) (sym e ∙ p) (close b behind (eq-eqb b quote k)) in
      subst (λ (z : List ℕ). Quoted quote bytes z behind) (ap (λ z. found ++ z) (append-nil (run (is_plain quote) bs)) ∙ sym f) (good (run (is_plain quote) bs ++ []) behind (over_plain bs [] behind h))

  pub string_open : (bytes bs v : List ℕ) → Bad bytes bs → v ≡ past (is_plain quote) bs → v ≡ [] → Broken at quote bytes (OpenString, at)
  string_open bytes bs v bad p e = bad (OpenString, at) (over_broken bs (OpenString, at) (subst (λ (z : List ℕ). Broken at quote z (OpenString, at)) (sym e ∙ p) (ends [] refl)))

  pub string_line : (bytes bs v behind : List ℕ) (b : ℕ) → Bad bytes bs → v ≡ past (is_plain quote) bs → v ≡ b ∷ behind → (b ≡ quote → ⊥) → (b ≡ 92 → ⊥) → Broken at quote bytes (OpenString, at)
  string_line bytes bs v behind b bad p e n m =
      let k : is_line_end b ≡ true = not_plain quote b n m (past_stops (is_plain quote) bs b behind (sym p ∙ e)) in
      bad (OpenString, at) (over_broken bs (OpenString, at) (subst (λ (z : List ℕ). Broken at quote z (OpenString, at)) (sym e ∙ p) (ends (b ∷ behind) k)))

  pub string_wrong : (bytes bs v behind : List ℕ) (b : ℕ) → Bad bytes bs → v ≡ past (is_plain quote) bs → v ≡ b ∷ behind → b ≡ 92 → escape behind ≡ None → Broken at quote bytes (BadEscape, v)
  string_wrong bytes bs v behind b bad p e k w =
      let f : 92 ∷ behind ≡ v = sym (e ∙ ap (λ z. z ∷ behind) k) in
      let h : Broken at quote v (BadEscape, v) = subst (λ (z : List ℕ). Broken at quote z (BadEscape, z)) f (wrong behind w) in
      bad (BadEscape, v) (over_broken bs (BadEscape, v) (subst (λ (z : List ℕ). Broken at quote z (BadEscape, v)) p h))

  pub string_more : (bytes found found' found'' bs v behind front after : List ℕ) (b : ℕ) → Good bytes found bs → found' ≡ found ++ run (is_plain quote) bs → found'' ≡ found' ++ front
      → v ≡ past (is_plain quote) bs → v ≡ b ∷ behind → b ≡ 92 → escape behind ≡ Some (front, after) → Good bytes found'' after
  string_more bytes found found' found'' bs v behind front after b good f f' p e k x value rest h =
      let g : Quoted quote (past (is_plain quote) bs) (front ++ value) rest = subst (λ (z : List ℕ). Quoted quote z (front ++ value) rest) (ap (λ z. z ∷ behind) (sym k) ∙ sym e ∙ p) (escaped behind front after value rest x h) in
      let i : found ++ (run (is_plain quote) bs ++ (front ++ value)) ≡ found'' ++ value =
      sym (append_assoc found (run (is_plain quote) bs) (front ++ value)) ∙ sym (append_assoc (found ++ run (is_plain quote) bs) front value) ∙ ap (λ z. (z ++ front) ++ value) (sym f) ∙ ap (λ z. z ++ value) (sym f') in
      subst (λ (z : List ℕ). Quoted quote bytes z rest) i (good (run (is_plain quote) bs ++ (front ++ value)) rest (over_plain bs (front ++ value) rest g))

  pub string_after : (bytes bs v behind front after : List ℕ) (b : ℕ) → Bad bytes bs → v ≡ past (is_plain quote) bs → v ≡ b ∷ behind → b ≡ 92 → escape behind ≡ Some (front, after) → Bad bytes after
  string_after bytes bs v behind front after b bad p e k x stop h =
      bad stop (over_broken bs stop (subst (λ (z : List ℕ). Broken at quote z stop) (ap (λ z. z ∷ behind) (sym k) ∙ sym e ∙ p) (behind_escape behind front after stop x h)))

  pub string_shorter : (bs v behind front after : List ℕ) (b : ℕ) → v ≡ past (is_plain quote) bs → v ≡ b ∷ behind → escape behind ≡ Some (front, after) → length after < length bs
  string_shorter bs v behind front after b p e x = omega (arith, escape_short behind front after x, ap length e, ap length p, past_short (is_plain quote) bs)

pub texted_ok : (at : List ℕ) (quote : ℕ) (bs value rest : List ℕ) → is_quote quote ≡ true → Quoted quote bs value rest → texted (string at quote bs) ≡ Ok (text value, rest)
texted_ok at quote bs value rest e h = ap texted (string_reads at quote (quote_is quote e) bs value rest h)

pub texted_err : (at : List ℕ) (quote : ℕ) (bs : List ℕ) (stop : Stop) → is_quote quote ≡ true → Broken at quote bs stop → texted (string at quote bs) ≡ Err stop
texted_err at quote bs stop e h = ap texted (string_breaks at quote (quote_is quote e) bs stop h)

pub ruleset texted_rules = (texted_ok, texted_err)

-- ---- a string without escapes

pub plain_text : (at : List ℕ) (quote : ℕ) (bs value v behind : List ℕ) (b : ℕ) → is_quote quote ≡ true → value ≡ run (is_plain quote) bs → v ≡ past (is_plain quote) bs → v ≡ b ∷ behind → b ≡ quote
    → texted (string at quote bs) ≡ Ok (text value, behind)
plain_text at quote bs value v behind b q f p e k = texted_ok at quote bs value behind q (string_end at quote bs [] value bs v behind b (λ value rest h. h) f p e k)

pub plain_front : (quote : ℕ) (bs value : List ℕ) → value ≡ run (is_plain quote) bs → take (length value) bs ≡ value
plain_front quote bs value e = run_begins (is_plain quote) bs value e
