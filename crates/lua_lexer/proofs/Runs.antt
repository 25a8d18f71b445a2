-- Runs of bytes of a kind.
use Rattle.std.proofs.Common.{◌≡◌, ◌∙◌, refl, ap, subst, ℕ, ◌+◌, min, ◌≤◌, Bool, true, false, if◌then◌else◌, List, [], ◌∷◌, ◌++◌, length, take, drop, length-append, ◌-◌, arith}
use Rattle.lua_lexer.specs.Bytes.{run, past, is_word, EndsWith}
use Rattle.std.proofs.Math.Seq.{take-append_seam, drop-append_seam}
use Rattle.std.proofs.lemmas.List.{length-take}
use Rattle.lua_lexer.specs.Spellings.{in_run, run_from, past_from}

module _ (p : ℕ → Bool) where
  past_twice_by : (b : ℕ) (bs : List ℕ) (v : Bool) → p b ≡ v → past p (past p bs) ≡ past p bs → past p (past p (b ∷ bs)) ≡ past p (b ∷ bs)
  past_twice_by b bs true e h = rw e h
  past_twice_by b bs false e h = rw e (rw e refl)

  pub past_twice : (bs : List ℕ) → past p (past p bs) ≡ past p bs
  past_twice [] = refl
  past_twice (b ∷ bs) = past_twice_by b bs (p b) refl (past_twice bs)

  shorter_by : (b : ℕ) (bs : List ℕ) (v : Bool) → length (past p bs) ≤ length bs → length (if v then past p bs else b ∷ bs) ≤ length (b ∷ bs)
  shorter_by b bs true h = omega (arith, h)
  shorter_by b bs false h = omega arith

  pub past_short : (bs : List ℕ) → length (past p bs) ≤ length bs
  past_short [] = omega arith
  past_short (b ∷ bs) = shorter_by b bs (p b) (past_short bs)

  whole_by : (b : ℕ) (bs : List ℕ) (v : Bool) → run p bs ++ past p bs ≡ bs → (if v then b ∷ run p bs else []) ++ (if v then past p bs else b ∷ bs) ≡ b ∷ bs
  whole_by b bs true h = ap (λ z. b ∷ z) h
  whole_by b bs false h = refl

  pub run_past : (bs : List ℕ) → run p bs ++ past p bs ≡ bs
  run_past [] = refl
  run_past (b ∷ bs) = whole_by b bs (p b) (run_past bs)

-- ---- a run by the length of what stands after it

length_cut : (a b bs : List ℕ) → a ++ b ≡ bs → length bs - length b ≡ length a
length_cut a b bs e = omega (arith, length-append {A = ℕ}, ap length e)

pub front_cut : (a b bs : List ℕ) → a ++ b ≡ bs → take (length bs - length b) bs ≡ a
front_cut a b bs e = rw (length_cut a b bs e, ← e) (take-append_seam a b)

pub back_cut : (a b bs : List ℕ) → a ++ b ≡ bs → drop (length bs - length b) bs ≡ b
back_cut a b bs e = rw (length_cut a b bs e, ← e) (drop-append_seam a b)

pub run_cut : (p : ℕ → Bool) (bs rest : List ℕ) → rest ≡ past p bs → take (length bs - length rest) bs ≡ run p bs
run_cut p bs rest e = rw e (front_cut (run p bs) (past p bs) bs (run_past p bs))

pub past_cut : (p : ℕ → Bool) (bs rest : List ℕ) → rest ≡ past p bs → drop (length bs - length rest) bs ≡ past p bs
past_cut p bs rest e = rw e (back_cut (run p bs) (past p bs) bs (run_past p bs))

pub rest_short : (p : ℕ → Bool) (bs rest : List ℕ) → rest ≡ past p bs → length rest ≤ length bs
rest_short p bs rest e = rw e (past_short p bs)

pub ruleset run_rules = (run_cut, past_cut, rest_short)

pub numeral_whole : (hex : Bool) (before : ℕ) (bs : List ℕ) → run_from hex before bs ++ past_from hex before bs ≡ bs
numeral_whole hex before [] = refl
numeral_whole hex before (b ∷ bs) = by (in_run hex before b) (numeral_whole hex b bs)
  where
    by : (v : Bool) → run_from hex b bs ++ past_from hex b bs ≡ bs → (if v then b ∷ run_from hex b bs else []) ++ (if v then past_from hex b bs else b ∷ bs) ≡ b ∷ bs
    by true h = ap (λ z. b ∷ z) h
    by false h = refl

pub numeral_cut : (hex : Bool) (bs rest : List ℕ) → rest ≡ past_from hex 0 bs → take (length bs - length rest) bs ≡ run_from hex 0 bs
numeral_cut hex bs rest e = rw e (front_cut (run_from hex 0 bs) (past_from hex 0 bs) bs (numeral_whole hex 0 bs))

pub past_from_cut : (hex : Bool) (bs rest : List ℕ) → rest ≡ past_from hex 0 bs → drop (length bs - length rest) bs ≡ past_from hex 0 bs
past_from_cut hex bs rest e = rw e (back_cut (run_from hex 0 bs) (past_from hex 0 bs) bs (numeral_whole hex 0 bs))

pub numeral_short : (hex : Bool) (bs rest : List ℕ) → rest ≡ past_from hex 0 bs → length rest ≤ length bs
numeral_short hex bs rest e = omega (arith, length-append {A = ℕ}, ap length (numeral_whole hex 0 bs), ap length e)

pub ruleset numeral_rules = (numeral_cut, past_from_cut, numeral_short)

-- ---- a text that begins what ends a script

shared_short : (bs text : List ℕ) → take (length text) bs ≡ text → length text ≤ length bs
shared_short bs text e = (let k : length (take (length text) bs) ≡ min (length text) (length bs) = length-take (length text) bs in omega (arith, k, ap length e))

pub shared_start : (script bs : List ℕ) → EndsWith script bs → length bs ≤ length script
shared_start script bs h = h.0

pub shared_end : (script bs text : List ℕ) → EndsWith script bs → take (length text) bs ≡ text → length script - length bs + length text ≤ length script
shared_end script bs text h e = omega (arith, h.0, shared_short bs text e)

pub shared_text : (script bs text : List ℕ) → EndsWith script bs → take (length text) bs ≡ text → take (length script - length bs + length text - (length script - length bs)) (drop (length script - length bs) script) ≡ text
shared_text script bs text h e =
    (let n : length script - length bs + length text - (length script - length bs) ≡ length text = omega arith in
    ap (λ k. take k (drop (length script - length bs) script)) n ∙ ap (take (length text)) h.1 ∙ e)

pub ruleset shared_rules = (shared_start, shared_end, shared_text)

pub run_begins : (p : ℕ → Bool) (bs text : List ℕ) → text ≡ run p bs → take (length text) bs ≡ text
run_begins p bs text e = rw e (subst (λ z. take (length (run p bs)) z ≡ run p bs) (run_past p bs) (take-append_seam (run p bs) (past p bs)))

pub run_front : (bs text : List ℕ) → text ≡ run is_word bs → take (length text) bs ≡ text
run_front bs text e = run_begins is_word bs text e
