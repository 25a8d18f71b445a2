-- The rule of a desk: what its words, its slot and its passes are at every moment.
use Rattle.std.specs.Prelude.{◌≡◌, ℕ, ◌+◌, ◌<◌, ◌≤◌, ◌^◌, Bool, true, false, List, [], ◌∷◌, length}
use mathlib.Core.Option.{some}
use mathlib.Core.List.{IsPrefix}
use lib.ListN.{get_elem?}
use Rattle.atomic_table.specs.Table.{State, Me}
use Rattle.atomic_table.specs.Seated.{TableId}
use Rattle.desk_object.specs.declared.ending.Ending.{Ending}
use Rattle.desk_object.specs.declared.entry.Entry.{Entry}
use Rattle.desk_object.specs.declared.entry.Entry.TheVariants.{Made, Close}
use Rattle.desk_object.specs.Meaning.{Meaning}
use Rattle.desk_object.specs.History.{calls_by, is_closed, AreBelow, Reaches, IsLegal}
use Rattle.history_desk.specs.declared.known.Known.{Known}
use Rattle.history_desk.specs.declared.known.View.{View}
use Rattle.history_desk.specs.declared.known.Place.{Place}
use Rattle.history_desk.specs.declared.known.Place.TheVariants.{Here, Turned, Out}
use Rattle.history_desk.specs.Passes.{has, AreDistinct, carries, newcomer}

-- the table of a desk: three words (the history's length, the lock, the next number) and one slot
abbrev pub IsDesk : TableId → Type 0
IsDesk table = (table.words ≡ 3) × (table.slots ≡ 1)

module _ {A R : Type 0} where
  -- a pass whose holder is in no call
  abbrev pub idle : Known A R → View A R
  idle known = record { known = known; met = []; busy = false }

  -- a pass whose holder has the lock
  abbrev pub holding : Known A R → View A R
  holding known = record { known = known; met = []; busy = true }

  -- the first pass
  abbrev pub founder : View A R
  founder = idle (newcomer 0 [])

  -- a pass that was taken in: the history has nothing of its numbers but what it had seen
  pub record IsPart (log : List (Entry A R)) (k p : Known A R) : Type 0 where
    pub seen : IsPrefix p.seen log
    pub numbers : (n : ℕ) → carries p n ≡ true → carries k n ≡ true
    pub calls : (n : ℕ) → carries p n ≡ true → calls_by n log ≡ calls_by n p.seen

  abbrev pub AreParts : List (Entry A R) → Known A R → List (Known A R) → Type 0
  AreParts log k [] = Unit {0}
  AreParts log k (p ∷ ps) = IsPart log k p × AreParts log k ps

  -- a number that the pass at this seat carries
  pub record IsMine (log : List (Entry A R)) (owner : ℕ → ℕ) (seat : ℕ) (k : Known A R) (n : ℕ)
      : Type 0 where
    pub owned : owner n ≡ seat
    pub below : n < k.given
    pub calls : calls_by n log ≡ calls_by n k.seen
    pub closed : is_closed log ≡ true → k.seen ≡ log

  -- what the rule says of one pass
  pub record IsKept (log : List (Entry A R)) (next : ℕ) (owner : ℕ → ℕ) (seat : ℕ) (v : View A R)
      : Type 0 where
    pub seen : IsPrefix v.known.seen log
    pub busy : v.busy ≡ true → (v.known.seen ≡ log) × (v.known.given ≡ next)
    pub mine : (n : ℕ) → carries v.known n ≡ true → IsMine log owner seat v.known n
    pub distinct : AreDistinct v.known.carried
    pub given : v.known.given ≤ next
    pub callers : AreBelow v.known.given v.known.seen
    pub parts : AreParts log v.known v.met

module _ {T Q W C A R : Type 0} (m : Meaning C A R) (content : T → C) where
  -- What is behind the lock while nobody has it: the object, which the history leads to; or
  -- nothing, and the history is closed.
  abbrev pub Rests : List (Entry A R) → Place T Q W → Type 0
  Rests log (Here object) = (is_closed log ≡ false) × Reaches m log (content object)
  Rests log (Turned object call ending reply) = ⊥
  Rests log Out = is_closed log ≡ true

  pub record Kept (s : State (Place T Q W) (View A R)) : Type 0 where
    pub log : List (Entry A R)
    pub lock : ℕ
    pub next : ℕ
    -- the seat that carries a number, the number that it was enrolled from, and who has the lock
    pub owner : ℕ → ℕ
    pub parent : ℕ → ℕ
    pub holder : ℕ
    pub words : s.words ≡ length log ∷ lock ∷ next ∷ []
    pub legal : IsLegal m log
    pub most : is_closed log ≡ false → length log ≤ 2 ^ 62
    pub few : next ≤ 2 ^ 62
    pub callers : AreBelow next log
    pub home : lock ≡ 0 → (p : Place T Q W) × (get_elem? s.homes 0 ≡ some (some p)) × Rests log p
    pub held : (j : ℕ) (v : View A R) → get_elem? s.views j ≡ some v → v.busy ≡ true
        → (j ≡ holder) × (lock ≡ 1)
    pub each : (j : ℕ) (v : View A R) → get_elem? s.views j ≡ some v → IsKept log next owner j v
    pub numbered : (n : ℕ) → n < next
        → (v : View A R) × (get_elem? s.views (owner n) ≡ some v) × (carries v.known n ≡ true)
    pub enrolled : (n : ℕ) → 0 < n → n < next
        → (parent n < n)
        × ((v : View A R) → get_elem? s.views (owner (parent n)) ≡ some v
        → has n v.known.enrolled ≡ true)
