-- Numbers of hexadecimal digits.
use Rattle.std.proofs.Common.{◌≡◌, refl, ℕ, ◌+◌, ◌*◌, ◌^◌, ◌≤◌, ◌<◌, Bool, true, false, if◌then◌else◌, List, [], ◌∷◌, Some, None, arith}
use Rattle.std.specs.List.{list_all}
use Rattle.std.proofs.lemmas.Bool.{lt-ltb, le-ltb, ne_eqb, eq-eqb}
use Rattle.lua_lexer.specs.Bytes.{run, is_hex_digit}
use Rattle.lua_lexer.specs.Spellings.{hex_value, hex_number, utf8, code_point}

number_grows : (bs : List ℕ) (n : ℕ) → n ≤ hex_number n bs
number_grows [] n = omega arith
number_grows (b ∷ bs) n = omega (arith, number_grows bs (n * 16 + hex_value b))

pub code_great : (n : ℕ) (v : List ℕ) (b : ℕ) (bs : List ℕ) → v ≡ b ∷ bs → 2 ^ 27 ≤ n → 2 ^ 31 ≤ hex_number n v
code_great n v b bs e h = rw e (omega (arith, number_grows bs (n * 16 + hex_value b)))

pub ruleset code_rules = (code_great, code_great)

pub point_none : (ds bs : List ℕ) → bs ≡ [] → code_point ds bs ≡ None
point_none [] bs e = refl
point_none (d ∷ ds) bs e = rw e refl

pub point_empty : (ds bs : List ℕ) → ds ≡ [] → code_point ds bs ≡ None
point_empty ds bs e = rw e refl

pub point_other : (ds v : List ℕ) (b : ℕ) (bs : List ℕ) → v ≡ b ∷ bs → (b ≡ 125 → ⊥) → code_point ds v ≡ None
point_other [] v b bs e n = refl
point_other (d ∷ ds) v b bs e n = rw e (rw (ne_eqb b 125 n) refl)

pub point_great : (ds v : List ℕ) (b : ℕ) (bs : List ℕ) → v ≡ b ∷ bs → b ≡ 125 → 2 ^ 31 ≤ hex_number 0 ds → code_point ds v ≡ None
point_great [] v b bs e n g = refl
point_great (d ∷ ds) v b bs e n g = rw e (rw (eq-eqb b 125 n, le-ltb (hex_number 0 (d ∷ ds)) (2 ^ 31) g) refl)

pub point_is : (ds v : List ℕ) (b : ℕ) (bs : List ℕ) → (ds ≡ [] → ⊥) → v ≡ b ∷ bs → b ≡ 125 → hex_number 0 ds < 2 ^ 31 → code_point ds v ≡ Some (utf8 (hex_number 0 ds), bs)
point_is [] v b bs m e n g = absurd (m refl)
point_is (d ∷ ds) v b bs m e n g = rw e (rw (eq-eqb b 125 n, lt-ltb (hex_number 0 (d ∷ ds)) (2 ^ 31) g) refl)

pub ruleset point_rules = (point_none, point_empty, point_other, point_great, point_is)

digits_by : (b : ℕ) (bs : List ℕ) (v : Bool) → is_hex_digit b ≡ v → list_all is_hex_digit (run is_hex_digit bs) ≡ true → list_all is_hex_digit (if v then b ∷ run is_hex_digit bs else []) ≡ true
digits_by b bs true e h = rw e h
digits_by b bs false e h = refl

run_all : (bs : List ℕ) → list_all is_hex_digit (run is_hex_digit bs) ≡ true
run_all [] = refl
run_all (b ∷ bs) = digits_by b bs (is_hex_digit b) refl (run_all bs)

pub run_digits : (bs v : List ℕ) → v ≡ run is_hex_digit bs → list_all is_hex_digit v ≡ true
run_digits bs v e = rw e (run_all bs)
