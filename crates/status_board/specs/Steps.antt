-- What each step on a word tells the seat that makes it, of the seat before, the word found and the
-- seat after.
use Rattle.std.specs.Prelude.{◌≡◌, ℕ, ◌-◌, ◌/◌, ◌%◌, ◌<◌, ◌≤◌, true, false, List, [], ◌∷◌, length, bit_xor}
use Rattle.atomic_table.specs.Table.{Me, Step}
use Rattle.status_board.specs.declared.view.DrawnFacts.{DrawnFacts}
use Rattle.status_board.specs.declared.view.View.{View}
use Rattle.status_board.specs.StatusLife.{is_end, rank}
use Rattle.status_board.specs.Words.{code_of, status_of, kind_of_bit, soft_in, hard_in}
use Rattle.status_board.specs.Views.{lanes_at, drawn_at, has_lane, drawn_of, own_lane, newcomer, HasAllNumbers, IsNewNumber, own_status}
use Rattle.status_board.specs.Changes.{with_drawn, with_draw, with_status, with_look, with_ask, with_bits}
use Rattle.status_board.specs.Agreement.{Agrees}

abbrev pub Seated : Type 0
Seated = Me (Unit {0}) View

abbrev pub Tells : Type 0 → Type 1
Tells X = Step X → Me X View → ℕ → Me X View → Type 0

abbrev pub Draws : Tells (Unit {0})
Draws st me found after =
    (after ≡ (with_draw me.0 found, me.1)) × IsNewNumber me.0 found × HasAllNumbers after.0

-- the operand is the exclusive or of the old and the new status
abbrev pub Sets : Tells (Unit {0})
Sets st me found after =
    let status = status_of (bit_xor (code_of (own_status me.0)) st.first) in
    after ≡ (with_status me.0 status (found / 256), me.1)

abbrev pub Looks : Tells (Unit {0})
Looks st me found after =
    let lane = (st.word - 1) / 2 in
    let status = status_of (found % 256) in
    (after ≡ (with_look me.0 lane status, me.1)) × (found % 256 ≤ 5)
    × (rank (drawn_of me.0 lane).read ≤ rank status)
    × (is_end (drawn_of me.0 lane).read ≡ true → (drawn_of me.0 lane).read ≡ status)

abbrev pub Asks : Tells (Unit {0})
Asks st me found after =
    after ≡ (with_ask me.0 ((st.word - 2) / 2) (kind_of_bit st.first) (found / 256), me.1)

abbrev pub Hears : Tells (Unit {0})
Hears st me found after =
    let soft = soft_in (found % 256) in
    let hard = hard_in (found % 256) in
    (after ≡ (with_bits me.0 soft hard, me.1)) × (found % 256 ≤ 3)
    × ((own_lane me.0).soft.read ≡ true → soft ≡ true)
    × ((own_lane me.0).hard.read ≡ true → hard ≡ true)

-- a load of the lane's status word puts what is shown of the lane first
abbrev pub Chooses : Tells (Unit {0})
Chooses st me found after =
    let lane = (st.word - 1) / 2 in
    (after ≡ (with_drawn me.0 (drawn_of me.0 lane), me.1)) × (0 < lane)
    × (has_lane me.0 lane ≡ false)

-- no lane and no number is shown twice
pub record IsOnce (v : View) : Type 0 where
  pub lanes : (lane : ℕ) → length (lanes_at v lane) ≤ 1
  pub drawn : (number : ℕ) → length (drawn_at v number) ≤ 1

abbrev pub Compares : Tells (Unit {0})
Compares st me found after = (after ≡ me) × IsOnce me.0 × Agrees me.0 × HasAllNumbers me.0

-- the seat that drew a lane, and the new seat of that lane, which is shown first
abbrev pub first_seated : List DrawnFacts → List DrawnFacts
first_seated [] = []
first_seated (b ∷ bs) = record b { seated = true } ∷ bs

abbrev pub first_number : List DrawnFacts → ℕ
first_number [] = 0
first_number (b ∷ bs) = b.number

abbrev pub left_of : View → View
left_of v = record v { drawn = first_seated v.drawn }

abbrev pub right_of : View → View
right_of v = newcomer (first_number v.drawn)
