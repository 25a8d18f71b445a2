-- The rule of the board, over its words and the views of all seats, which holds at every moment.
use Rattle.std.specs.Prelude.{◌≡◌, ℕ, ◌+◌, ◌*◌, ◌<◌, ◌≤◌, Bool, true, false, ◌&&◌, ◌==◌, nat_lt, if◌then◌else◌, List, [], ◌∷◌, length, slice_index}
use mathlib.Core.Option.{some}
use lib.ListN.{get_elem?}
use Rattle.atomic_table.specs.Table.{State}
use Rattle.status_board.specs.declared.view.LaneFacts.{LaneFacts}
use Rattle.status_board.specs.declared.view.DrawnFacts.{DrawnFacts}
use Rattle.status_board.specs.declared.view.View.{View}
use Rattle.status_board.specs.StatusLife.{is_end}
use Rattle.status_board.specs.Words.{most, status_place, cancel_place, word, code_of, bits_of}
use Rattle.status_board.specs.Views.{new_lane, new_drawn, lanes_at, drawn_at}
use Rattle.status_board.specs.Agreement.{IsAgreed}

-- a lane: what its seat shows, what the seat shows that drew it, and how many looks its words had
pub record Lane : Type 0 where
  pub own : LaneFacts
  pub drawn : DrawnFacts
  pub looks : ℕ
  pub cancel_looks : ℕ

-- What both seats show agrees. Before the end all looks gave no end, and before the first ask of a
-- kind all gave its bit unset. A lane without a seat is Pending, and its cancel word had no look.
pub record IsLawful (x : Lane) : Type 0 where
  pub agreed : IsAgreed x.own x.drawn
  pub looks : is_end x.own.status ≡ false → x.drawn.looks ≡ x.looks
  pub soft : x.drawn.soft.asked ≡ false → x.own.soft.unset ≡ x.cancel_looks
  pub hard : x.drawn.hard.asked ≡ false → x.own.hard.unset ≡ x.cancel_looks
  pub unseated : x.drawn.seated ≡ false → (x.own ≡ new_lane x.own.lane) × (x.cancel_looks ≡ 0)

abbrev pub status_word : Lane → ℕ
status_word x = word x.looks (code_of x.own.status)

abbrev pub cancel_word : Lane → ℕ
cancel_word x = word x.cancel_looks (bits_of x.drawn.soft.asked x.drawn.hard.asked)

-- what has happened on a board: the next number, the lanes, the lane whose seat drew a number, and
-- the place among the views of the one that has a lane
pub record Past : Type 0 where
  pub next : ℕ
  pub lane : ℕ → Lane
  pub drawer : ℕ → ℕ
  pub holder : ℕ → ℕ

-- whether the view at a place has a lane
abbrev pub holds_lane : Past → ℕ → ℕ → Bool
holds_lane past place lane = (past.lane lane).drawn.seated && (past.holder lane == place)

abbrev pub is_drawn : Past → ℕ → Bool
is_drawn past number = nat_lt 0 number && nat_lt number past.next

-- whether the view at a place has a number: it has the lane that drew it
abbrev pub holds_number : Past → ℕ → ℕ → Bool
holds_number past place number =
    is_drawn past number && (past.holder (past.drawer number) == place)

abbrev pub only : {X : Type 0} → Bool → X → List X
only b x = if b then x ∷ [] else []

-- a view shows the lanes and the numbers that it has, each once, and no others
pub record Shows (past : Past) (place : ℕ) (v : View) : Type 0 where
  pub lanes : (lane : ℕ) → lanes_at v lane ≡ only (holds_lane past place lane) (past.lane lane).own
  pub drawn : (number : ℕ)
      → drawn_at v number ≡ only (holds_number past place number) (past.lane number).drawn

-- a number was drawn by the seat of a lesser lane, which keeps it where no lane was left for it
pub record IsDrawn (past : Past) (number : ℕ) : Type 0 where
  pub lesser : past.drawer number < number
  pub seated : (past.lane (past.drawer number)).drawn.seated ≡ true
  pub kept : most ≤ number → (past.lane (past.drawer number)).own.over ≡ number

-- a lane with a seat has words, was drawn or is lane 0, and a view has it
pub record IsSeated (past : Past) (count lane : ℕ) : Type 0 where
  pub low : lane < most
  pub drawn : lane < past.next
  pub held : past.holder lane < count

-- the words and the views are those of this past
pub record IsPast (past : Past) (words : List ℕ) (views : List View) : Type 0 where
  pub length_is : length words ≡ 1 + 2 * most
  pub number_word : slice_index words 0 ≡ past.next
  pub status_words : (lane : ℕ) → lane < most
      → slice_index words (status_place lane) ≡ status_word (past.lane lane)
  pub cancel_words : (lane : ℕ) → lane < most
      → slice_index words (cancel_place lane) ≡ cancel_word (past.lane lane)
  pub begun : 0 < past.next
  pub named : (lane : ℕ)
      → ((past.lane lane).own.lane ≡ lane) × ((past.lane lane).drawn.number ≡ lane)
  pub lawful : (lane : ℕ) → IsLawful (past.lane lane)
  pub fresh : (number : ℕ) → past.next ≤ number → (past.lane number).drawn ≡ new_drawn number
  pub seated : (lane : ℕ) → (past.lane lane).drawn.seated ≡ true → IsSeated past (length views) lane
  pub draws : (number : ℕ) → 0 < number → number < past.next → IsDrawn past number
  pub shows : (place : ℕ) (v : View) → get_elem? views place ≡ some v → Shows past place v

abbrev pub Kept : State (Unit {0}) View → Type 0
Kept s = (past : Past) × IsPast past s.words s.views
