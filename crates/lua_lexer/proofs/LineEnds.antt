-- Line ends, one by one and in parts.
use Rattle.std.proofs.Common.{◌≡◌, refl, sym, ◌∙◌, ap, ℕ, suc, ◌+◌, ◌<◌, Bool, true, false, if◌then◌else◌, not, nat_eq, ◌&&◌, ◌||◌, List, [], ◌∷◌, ◌++◌, append-nil, append_assoc, length, arith}
use Rattle.lua_lexer.specs.Bytes.{is_line_end, is_inline, is_pair, past, line_ends, line_feeds, past_line_end}
use Rattle.lua_lexer.proofs.Runs.{past_short, past_twice}

-- ---- line ends

pub pair_ends : (b c : ℕ) → is_line_end b ≡ false → is_pair b c ≡ false
pair_ends b c = by (nat_eq b 10) (nat_eq b 13)
  where
    by : (v w : Bool) → (v || w) ≡ false → ((v && nat_eq c 13) || (w && nat_eq c 10)) ≡ false
    by false false e = refl
    by false true e = cc
    by true w e = cc

pub feeds_end : (found v : List ℕ) → v ≡ [] → found ++ line_feeds v ≡ found
unfolding line_feeds
feeds_end found v e = rw e (append-nil found)

plain_first : (b : ℕ) (rest : List ℕ) → is_line_end b ≡ false → line_feeds (b ∷ rest) ≡ b ∷ line_feeds rest
unfolding line_feeds
plain_first b [] e = rw e refl
plain_first b (c ∷ rest) e = rw (pair_ends b c e, e) refl

line_first : (b : ℕ) (rest : List ℕ) → is_line_end b ≡ true → line_feeds (b ∷ rest) ≡ 10 ∷ line_feeds (past_line_end (b ∷ rest))
unfolding line_feeds
line_first b [] e = rw e refl
line_first b (c ∷ rest) e = by (is_pair b c)
  where
    by : (v : Bool) → (if v then 10 ∷ line_feeds rest else (if is_line_end b then 10 else b) ∷ line_feeds (c ∷ rest)) ≡ 10 ∷ line_feeds (if v then rest else (if is_line_end b then c ∷ rest else b ∷ c ∷ rest))
    by true = refl
    by false = rw e refl

pub feeds_plain : (found v : List ℕ) (b : ℕ) (rest : List ℕ) → v ≡ b ∷ rest → is_line_end b ≡ false → found ++ line_feeds v ≡ (found ++ b ∷ []) ++ line_feeds rest
feeds_plain found v b rest e n = rw e (ap (λ z. found ++ z) (plain_first b rest n) ∙ sym (append_assoc found (b ∷ []) (line_feeds rest)))

pub feeds_line : (found v : List ℕ) (b : ℕ) (rest : List ℕ) → v ≡ b ∷ rest → is_line_end b ≡ true → found ++ line_feeds v ≡ (found ++ 10 ∷ []) ++ line_feeds (past_line_end v)
feeds_line found v b rest e n = rw e (ap (λ z. found ++ z) (line_first b rest n) ∙ sym (append_assoc found (10 ∷ []) (line_feeds (past_line_end (b ∷ rest)))))

pub past_line_end_shorter : (v : List ℕ) (b : ℕ) (rest : List ℕ) → v ≡ b ∷ rest → is_line_end b ≡ true → length (past_line_end v) < length v
past_line_end_shorter v b rest e n = rw e (shorter rest)
  where
    shorter : (r : List ℕ) → length (past_line_end (b ∷ r)) < length (b ∷ r)
    shorter [] = rw n (omega arith)
    shorter (c ∷ r) = by (is_pair b c)
      where
        by : (v : Bool) → length (if v then r else (if is_line_end b then c ∷ r else b ∷ c ∷ r)) < length (b ∷ c ∷ r)
        by true = omega arith
        by false = rw n (omega arith)

pub ruleset feed_rules = (feeds_end, feeds_plain, feeds_line, past_line_end_shorter)

pub line_none : (v : List ℕ) → length v ≡ 0 → line_ends v ≡ 0
unfolding line_ends
line_none [] e = refl
line_none (b ∷ bs) e = absurd (omega (arith, e))

pub other_first : (b : ℕ) (rest : List ℕ) → is_line_end b ≡ false → line_ends (b ∷ rest) ≡ line_ends rest
unfolding line_ends
other_first b [] e = rw e refl
other_first b (c ∷ rest) e = rw (pair_ends b c e, e) refl

end_first : (b : ℕ) (rest : List ℕ) → is_line_end b ≡ true → line_ends (b ∷ rest) ≡ suc (line_ends (past_line_end (b ∷ rest)))
unfolding line_ends
end_first b [] e = rw e refl
end_first b (c ∷ rest) e = by (is_pair b c)
  where
    by : (v : Bool) → (if v then suc (line_ends rest) else (if is_line_end b then suc (line_ends (c ∷ rest)) else line_ends (c ∷ rest))) ≡ suc (line_ends (if v then rest else (if is_line_end b then c ∷ rest else b ∷ c ∷ rest)))
    by true = refl
    by false = rw e refl

line_end : (v : List ℕ) (b : ℕ) (rest : List ℕ) → v ≡ b ∷ rest → is_line_end b ≡ true → line_ends v ≡ line_ends (past_line_end v) + 1
line_end v b rest e n = rw e (end_first b rest n ∙ omega arith)

inline_by : (b : ℕ) (bs : List ℕ) (v : Bool) → is_line_end b ≡ v → line_ends (past is_inline bs) ≡ line_ends bs → line_ends (if not v then past is_inline bs else b ∷ bs) ≡ line_ends (b ∷ bs)
inline_by b bs true e h = refl
inline_by b bs false e h = h ∙ sym (other_first b bs e)

pub inline_ends : (bs : List ℕ) → line_ends (past is_inline bs) ≡ line_ends bs
inline_ends [] = refl
inline_ends (b ∷ bs) = inline_by b bs (is_line_end b) refl (inline_ends bs)

-- nothing of a line stands in front
stops_at : (b : ℕ) (bs : List ℕ) → past is_inline (b ∷ bs) ≡ b ∷ bs → is_line_end b ≡ true
stops_at b bs e = by (is_line_end b) refl e
  where
    by : (v : Bool) → is_line_end b ≡ v → (if not v then past is_inline bs else b ∷ bs) ≡ b ∷ bs → v ≡ true
    by true n h = refl
    by false n h = absurd (omega (arith, past_short is_inline bs, ap length h))

pub stopped_end : (v : List ℕ) → past is_inline v ≡ v → 0 < length v → line_ends v ≡ line_ends (past_line_end v) + 1
stopped_end [] e n = absurd (omega (arith, n))
stopped_end (b ∷ bs) e n = line_end (b ∷ bs) b bs refl (stops_at b bs e)

pub stopped_shorter : (v : List ℕ) → past is_inline v ≡ v → 0 < length v → length (past_line_end v) < length v
stopped_shorter [] e n = absurd (omega (arith, n))
stopped_shorter (b ∷ bs) e n = past_line_end_shorter (b ∷ bs) b bs refl (stops_at b bs e)

pub line_start : (bs v : List ℕ) → v ≡ past is_inline bs → line_ends v ≡ line_ends bs
line_start bs v e = rw e (inline_ends bs)

pub start_stops : (bs v : List ℕ) → v ≡ past is_inline bs → past is_inline v ≡ v
start_stops bs v e = rw e (past_twice is_inline bs)

pub turn_count : (v m w : List ℕ) → past is_inline v ≡ v → 0 < length v → m ≡ past_line_end v → w ≡ past is_inline m → line_ends v ≡ line_ends w + 1
turn_count v m w s n e f = rw (line_start m w f, e) (stopped_end v s n)

pub turn_short : (v m w : List ℕ) → past is_inline v ≡ v → 0 < length v → m ≡ past_line_end v → w ≡ past is_inline m → length w < length v
turn_short v m w s n e f = omega (arith, stopped_shorter v s n, past_short is_inline m, ap length e, ap length f)

-- ---- in parts

-- no line end begins these bytes
abbrev pub Starts : List ℕ → Type 0
Starts [] = Unit {0}
Starts (b ∷ bs) = is_line_end b ≡ false

no_pair : (b c : ℕ) → is_line_end c ≡ false → is_pair b c ≡ false
no_pair b c = by (nat_eq b 10) (nat_eq b 13) (nat_eq c 10) (nat_eq c 13)
  where
    by : (v w x y : Bool) → (x || y) ≡ false → ((v && y) || (w && x)) ≡ false
    by v w true y e = cc
    by v w false true e = cc
    by true true false false e = refl
    by true false false false e = refl
    by false true false false e = refl
    by false false false false e = refl

last_byte : (b c : ℕ) (rest : List ℕ) → is_line_end c ≡ false → line_ends (b ∷ c ∷ rest) ≡ line_ends (b ∷ []) + line_ends (c ∷ rest)
unfolding line_ends
last_byte b c rest e = rw (no_pair b c e) (by (is_line_end b))
  where
    by : (v : Bool) → (if v then suc (line_ends (c ∷ rest)) else line_ends (c ∷ rest)) ≡ (if v then 1 else 0) + line_ends (c ∷ rest)
    by true = omega arith
    by false = omega arith

two_bytes : (v w : Bool) (b c : ℕ) (a rest : List ℕ) → is_pair b c ≡ v → is_line_end b ≡ w → line_ends (a ++ rest) ≡ line_ends a + line_ends rest → line_ends ((c ∷ a) ++ rest) ≡ line_ends (c ∷ a) + line_ends rest
    → line_ends ((b ∷ c ∷ a) ++ rest) ≡ line_ends (b ∷ c ∷ a) + line_ends rest
unfolding line_ends
two_bytes true w b c a rest p e h g = rw p (omega (arith, h))
two_bytes false true b c a rest p e h g = rw (p, e) (omega (arith, g))
two_bytes false false b c a rest p e h g = rw (p, e) g

pub lines_append : (a rest : List ℕ) → Starts rest → line_ends (a ++ rest) ≡ line_ends a + line_ends rest
unfolding line_ends
lines_append [] rest s = omega arith
lines_append (b ∷ []) [] s = omega arith
lines_append (b ∷ []) (c ∷ rest) s = last_byte b c rest s
lines_append (b ∷ c ∷ a) rest s = two_bytes (is_pair b c) (is_line_end b) b c a rest refl refl (lines_append a rest s) (lines_append (c ∷ a) rest s)
