-- Texts without the blanks round them.
use Rattle.std.proofs.Common.{◌≡◌, refl, ap, ℕ, ◌+◌, Bool, true, false, if◌then◌else◌, List, [], ◌∷◌, length, take, ◌&&◌, arith}
use Rattle.std.specs.List.{list_all}
use Rattle.int_ops.specs.Reading.{is_blank, up_to_blanks}

-- a length counted from bytes before, of which the first `solid` end in one that is no blank
abbrev pub solid_from : ℕ → ℕ → List ℕ → ℕ
solid_from solid at [] = solid
solid_from solid at (c ∷ cs) = at + length (c ∷ cs)

pub solid_start : (bs : List ℕ) → solid_from 0 0 (up_to_blanks bs) ≡ length (up_to_blanks bs)
solid_start bs = by (up_to_blanks bs)
  where
    by : (v : List ℕ) → solid_from 0 0 v ≡ length v
    by [] = refl
    by (c ∷ cs) = omega arith

pub solid_end : (solid at : ℕ) (v : List ℕ) → v ≡ [] → solid_from solid at (up_to_blanks v) ≡ solid
solid_end solid at v e = rw e refl

-- nothing is left just where all are blanks
left_by : (b : ℕ) (bs : List ℕ) (v : Bool) → list_all is_blank (b ∷ bs) ≡ v → length (if v then [] else b ∷ up_to_blanks bs) ≡ 0 → list_all is_blank (b ∷ bs) ≡ true
left_by b bs true e h = e
left_by b bs false e h = absurd (omega (arith, h))

none_left : (bs : List ℕ) → length (up_to_blanks bs) ≡ 0 → list_all is_blank bs ≡ true
none_left [] e = refl
none_left (b ∷ bs) e = left_by b bs (list_all is_blank (b ∷ bs)) refl e

all_blank : (bs : List ℕ) → list_all is_blank bs ≡ true → up_to_blanks bs ≡ []
all_blank [] e = refl
all_blank (b ∷ bs) e = rw e refl

first_blank : (solid at b : ℕ) (bs : List ℕ) → is_blank b ≡ true → solid_from solid at (up_to_blanks (b ∷ bs)) ≡ solid_from solid (at + 1) (up_to_blanks bs)
first_blank solid at b bs e = by (list_all is_blank bs) refl
  where
    some : (v : List ℕ) → (length v ≡ 0 → ⊥) → solid_from solid at (b ∷ v) ≡ solid_from solid (at + 1) v
    some [] n = absurd (n refl)
    some (c ∷ cs) n = omega arith

    by : (v : Bool) → list_all is_blank bs ≡ v → solid_from solid at (if is_blank b && v then [] else b ∷ up_to_blanks bs) ≡ solid_from solid (at + 1) (up_to_blanks bs)
    by true f = rw (e, all_blank bs f) refl
    by false f = rw e (some (up_to_blanks bs) (λ n. let h : list_all is_blank bs ≡ true = none_left bs n in cc))

first_solid : (solid at b : ℕ) (bs : List ℕ) → is_blank b ≡ false → solid_from solid at (up_to_blanks (b ∷ bs)) ≡ solid_from (at + 1) (at + 1) (up_to_blanks bs)
first_solid solid at b bs e = rw e (by (up_to_blanks bs))
  where
    by : (v : List ℕ) → solid_from solid at (b ∷ v) ≡ solid_from (at + 1) (at + 1) v
    by [] = omega arith
    by (c ∷ cs) = omega arith

pub solid_blank : (solid at : ℕ) (v : List ℕ) (b : ℕ) (bs : List ℕ) → v ≡ b ∷ bs → is_blank b ≡ true → solid_from solid at (up_to_blanks v) ≡ solid_from solid (at + 1) (up_to_blanks bs)
solid_blank solid at v b bs h e = rw h (first_blank solid at b bs e)

pub solid_other : (solid at : ℕ) (v : List ℕ) (b : ℕ) (bs : List ℕ) → v ≡ b ∷ bs → is_blank b ≡ false → solid_from solid at (up_to_blanks v) ≡ solid_from (at + 1) (at + 1) (up_to_blanks bs)
solid_other solid at v b bs h e = rw h (first_solid solid at b bs e)

pub ruleset trim_rules = (solid_start, solid_end, solid_blank, solid_other)

cut_by : (b : ℕ) (bs : List ℕ) (v : Bool) → take (length (up_to_blanks bs)) bs ≡ up_to_blanks bs → take (length (if v then [] else b ∷ up_to_blanks bs)) (b ∷ bs) ≡ (if v then [] else b ∷ up_to_blanks bs)
cut_by b bs true h = refl
cut_by b bs false h = ap (λ z. b ∷ z) h

cut : (bs : List ℕ) → take (length (up_to_blanks bs)) bs ≡ up_to_blanks bs
cut [] = refl
cut (b ∷ bs) = cut_by b bs (list_all is_blank (b ∷ bs)) (cut bs)

pub cut_at : (bs : List ℕ) (n : ℕ) → n ≡ length (up_to_blanks bs) → take n bs ≡ up_to_blanks bs
cut_at bs n e = rw e (cut bs)

pub ruleset cut_rules = (cut_at, cut_at)
