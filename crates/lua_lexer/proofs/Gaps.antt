-- Blanks and comments.
use Rattle.std.proofs.Common.{◌≡◌, refl, ◌∙◌, ap, subst, ℕ, ◌≤◌, ◌<◌, Bool, true, false, if◌then◌else◌, nat_eq, ◌&&◌, List, [], ◌∷◌, length, length-drop, Option, Some, None, arith}
use Rattle.lua_lexer.specs.Bytes.{past, run, is_blank, is_inline, is_equals}
use Rattle.lua_lexer.specs.Spellings.{then_open, opening, opens, close_at, split_close, up_to_close, behind_close, long_or_line, comment, dashes}
use Rattle.lua_lexer.specs.Tokens.{Skips, none, blank, remark, Gap, begins_blank, comment_behind}
use Rattle.lua_lexer.proofs.Runs.{past_short}

-- ---- what stands after is not longer

abbrev Within : Option (List ℕ) → List ℕ → Type 0
Within None bs = Unit {0}
Within (Some rest) bs = length rest ≤ length bs

split_within : (n : ℕ) (bs : List ℕ) (o : Option ℕ) → Within (behind_close (split_close n bs o)) bs
split_within n bs None = tt
split_within n bs (Some k) = simp length-drop (omega arith)

weaker : (r : Option (List ℕ)) (cs bs : List ℕ) → length cs ≤ length bs → Within r cs → Within r bs
weaker None cs bs h g = tt
weaker (Some x) cs bs h g = omega (arith, g, h)

abbrev OpensWithin : Option (ℕ × List ℕ) → List ℕ → Type 0
OpensWithin None bs = Unit {0}
OpensWithin (Some o) bs = length o.1 ≤ length bs

then_within : (n : ℕ) (cs bs : List ℕ) → length cs ≤ length bs → OpensWithin (then_open n cs) bs
then_within n [] bs h = tt
then_within n (c ∷ cs) bs h = by (nat_eq c 91)
  where
    by : (v : Bool) → OpensWithin (if v then Some (n, cs) else None) bs
    by true = omega (arith, h)
    by false = tt

pub opens_within : (bs : List ℕ) → OpensWithin (opens bs) bs
opens_within [] = tt
opens_within (b ∷ bs) = by (nat_eq b 91)
  where
    by : (v : Bool) → OpensWithin (if v then opening bs else None) (b ∷ bs)
    by true = then_within (length (run is_equals bs)) (past is_equals bs) (b ∷ bs) (omega (arith, past_short is_equals bs))
    by false = tt

comment_by : (bs : List ℕ) (o : Option (ℕ × List ℕ)) → OpensWithin o bs → Within (long_or_line bs o) bs
comment_by bs None h = past_short is_inline bs
comment_by bs (Some o) h = weaker (behind_close (up_to_close o.0 o.1)) o.1 bs h (split_within o.0 o.1 (close_at o.0 o.1))

pub comment_short : (bs behind : List ℕ) → comment bs ≡ Some behind → length behind ≤ length bs
comment_short bs behind e = subst (λ (r : Option (List ℕ)). Within r bs) e (comment_by bs (opens bs) (opens_within bs))

pub dashes_short : (bs inside : List ℕ) → dashes bs ≡ Some inside → length inside < length bs
dashes_short [] inside e = cc
dashes_short (b ∷ []) inside e = cc
dashes_short (b ∷ c ∷ bs) inside e = by (nat_eq b 45 && nat_eq c 45) e
  where
    by : (v : Bool) → (if v then Some bs else None) ≡ Some inside → length inside < length (b ∷ c ∷ bs)
    by true h = let g : bs ≡ inside = cc in omega (arith, ap length g)
    by false h = cc

pub gap_shorter : (bs inside behind : List ℕ) → dashes (past is_blank bs) ≡ Some inside → comment inside ≡ Some behind → length behind < length bs
gap_shorter bs inside behind d c = omega (arith, past_short is_blank bs, dashes_short (past is_blank bs) inside d, comment_short inside behind c)

-- ---- a gap, as the code finds it

blanks_by : (b : ℕ) (bs here : List ℕ) (v : Bool) → is_blank b ≡ v → (Skips (past is_blank bs) here → Skips bs here) → Skips (if v then past is_blank bs else b ∷ bs) here → Skips (b ∷ bs) here
blanks_by b bs here true e ih g = blank b bs here e (ih g)
blanks_by b bs here false e ih g = g

over_blanks : (bs here : List ℕ) → Skips (past is_blank bs) here → Skips bs here
over_blanks [] here g = g
over_blanks (b ∷ bs) here g = blanks_by b bs here (is_blank b) refl (over_blanks bs here) g

pub over_comment : (bs inside behind here : List ℕ) → dashes (past is_blank bs) ≡ Some inside → comment inside ≡ Some behind → Skips behind here → Skips bs here
over_comment bs inside behind here d c g = over_blanks bs here (remark (past is_blank bs) inside behind here d c g)

past_begins : (bs : List ℕ) → begins_blank (past is_blank bs) ≡ false
past_begins [] = refl
past_begins (b ∷ bs) = by (is_blank b) refl (past_begins bs)
  where
    by : (v : Bool) → is_blank b ≡ v → begins_blank (past is_blank bs) ≡ false → begins_blank (if v then past is_blank bs else b ∷ bs) ≡ false
    by true e h = h
    by false e h = e

-- at a place up to which the bytes before are blanks and comments
pub gap_no_dashes : (bytes bs at : List ℕ) → ((here : List ℕ) → Skips bs here → Skips bytes here) → at ≡ past is_blank bs → dashes at ≡ None → Gap bytes at
gap_no_dashes bytes bs at i e d = record {
  skips = rw e (i (past is_blank bs) (over_blanks bs (past is_blank bs) (none (past is_blank bs))));
  no_blank = ap begins_blank e ∙ past_begins bs;
  no_comment = ap comment_behind d;
}

pub gap_open : (bytes bs at inside : List ℕ) → ((here : List ℕ) → Skips bs here → Skips bytes here) → at ≡ past is_blank bs → dashes at ≡ Some inside → comment inside ≡ None → Gap bytes at
gap_open bytes bs at inside i e d c = record {
  skips = rw e (i (past is_blank bs) (over_blanks bs (past is_blank bs) (none (past is_blank bs))));
  no_blank = ap begins_blank e ∙ past_begins bs;
  no_comment = ap comment_behind d ∙ c;
}

pub ruleset gap_rules = (gap_shorter, over_comment, gap_no_dashes, gap_open)
