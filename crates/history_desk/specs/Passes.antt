-- What a pass knows of a desk's history, and what a call of its holder adds to that.
use Rattle.std.specs.Prelude.{◌≡◌, ℕ, ◌+◌, ◌<◌, ◌≤◌, ◌==◌, ◌||◌, Bool, true, false, List, [], ◌∷◌, ◌++◌, length, max, cond, ltb}
use mathlib.Core.List.{IsPrefix}
use Rattle.atomic_table.specs.Seated.{TableId}
use Rattle.desk_object.specs.declared.entry.Entry.{Entry}
use Rattle.desk_object.specs.Meaning.{Meaning}
use Rattle.desk_object.specs.History.{calls_by, is_closed, AreBelow, IsLegal}
use Rattle.history_desk.specs.declared.known.Known.{Known}

-- whether the number is in the list
abbrev pub has : ℕ → List ℕ → Bool
has n [] = false
has n (x ∷ xs) = (x == n) || has n xs

-- no number is in the list twice
abbrev pub AreDistinct : List ℕ → Type 0
AreDistinct [] = Unit {0}
AreDistinct (x ∷ xs) = (has x xs ≡ false) × AreDistinct xs

abbrev pub longer : {E : Type 0} → List E → List E → List E
longer xs ys = cond (ltb (length xs) (length ys)) ys xs

-- what contracts see of a pass: its desk, and what it knows
pub record Held (A R : Type 0) : Type 0 where
  pub desk : TableId
  pub known : Known A R

module _ {A R : Type 0} where
  abbrev pub carries : Known A R → ℕ → Bool
  carries k n = has n k.carried

  -- it carries each number that was enrolled from a number that it carries
  abbrev pub IsWhole : Known A R → Type 0
  IsWhole k = (n : ℕ) → has n k.enrolled ≡ true → carries k n ≡ true

  -- none of these entries is of a number that the pass carries
  abbrev pub AreForeign : Known A R → List (Entry A R) → Type 0
  AreForeign k entries = (n : ℕ) → carries k n ≡ true → calls_by n entries ≡ []

  -- h is k after one look, since which the history has these entries more
  pub record Grown (k : Known A R) (added : List (Entry A R)) (h : Known A R) : Type 0 where
    pub seen : h.seen ≡ k.seen ++ added
    pub looks : h.looks ≡ k.looks + 1
    pub given : k.given ≤ h.given
    pub number : h.number ≡ k.number
    pub carried : h.carried ≡ k.carried
    pub enrolled : h.enrolled ≡ k.enrolled

  -- The holder saw the history as it was at one moment, and made no entry. What was new is of
  -- others; once the history is closed there are no others.
  pub record Looked (k h : Known A R) : Type 0 where
    pub others : List (Entry A R)
    pub foreign : AreForeign k others
    pub grown : Grown k others h
    pub closed : is_closed h.seen ≡ true → h.seen ≡ k.seen

  -- The holder saw the history as it was at one moment, what was new being of others, and made this
  -- entry next.
  pub record Appended (k : Known A R) (entry : Entry A R) (h : Known A R) : Type 0 where
    pub others : List (Entry A R)
    pub foreign : AreForeign k others
    pub grown : Grown k (others ++ entry ∷ []) h

  -- what a new pass with this number knows, of a history of which so much was seen
  abbrev pub newcomer : ℕ → List (Entry A R) → Known A R
  newcomer n seen =
      record { number = n; carried = n ∷ []; enrolled = []; given = n + 1; looks = 0; seen = seen }

  -- what a pass knows that took in another: the longer of what was seen, and the numbers of both
  abbrev pub met : Known A R → Known A R → Known A R
  met k o = record {
    number = k.number;
    carried = k.carried ++ o.carried;
    enrolled = k.enrolled ++ o.enrolled;
    given = max k.given o.given;
    looks = k.looks;
    seen = longer k.seen o.seen;
  }

module _ {C A R : Type 0} (m : Meaning C A R) where
  -- what is true of each pass
  pub record IsSound (k : Known A R) : Type 0 where
    pub own : carries k k.number ≡ true
    pub distinct : AreDistinct k.carried
    pub carried : (n : ℕ) → carries k n ≡ true → n < k.given
    pub callers : AreBelow k.given k.seen
    pub legal : IsLegal m k.seen
    -- a whole pass that carries number 0 carries every number that it knows to be given
    pub all : IsWhole k → carries k 0 ≡ true → (n : ℕ) → n < k.given → carries k n ≡ true
