-- What a seat shows: of each lane that it has, and of each number that it drew or took in.
use Rattle.std.specs.Prelude.{◌≡◌, ◌<◌, ◌≤◌, ℕ, Bool, true, false, ◌==◌, if◌then◌else◌, List, [], ◌∷◌, filter, Option, None, Some}
use Rattle.status_board.specs.declared.status.Status.{Status}
use Rattle.status_board.specs.declared.status.Status.TheVariants.{Pending, Running}
use Rattle.status_board.specs.declared.status.CancelKind.{CancelKind}
use Rattle.status_board.specs.declared.status.CancelKind.TheVariants.{Soft, Hard}
use Rattle.status_board.specs.declared.view.LaneFacts.{LaneFacts}
use Rattle.status_board.specs.declared.view.DrawnFacts.{DrawnFacts}
use Rattle.status_board.specs.declared.view.View.{View}
use Rattle.status_board.specs.Words.{most}

abbrev pub is_filled : {X : Type 0} → List X → Bool
is_filled [] = false
is_filled (x ∷ xs) = true

abbrev pub first_or : {X : Type 0} → X → List X → X
first_or none [] = none
first_or none (x ∷ xs) = x

-- of a lane with a new seat, and of a number that was drawn now
abbrev pub new_lane : ℕ → LaneFacts
new_lane lane = record {
  lane = lane;
  status = Pending;
  before = [];
  end_found = 0;
  soft = record { unset = 0; read = false };
  hard = record { unset = 0; read = false };
  over = 0;
}

abbrev pub new_drawn : ℕ → DrawnFacts
new_drawn number = record {
  number = number;
  looks = 0;
  read = Pending;
  soft = record { asked = false; found = 0 };
  hard = record { asked = false; found = 0 };
  seated = false;
}

abbrev pub lanes_at : View → ℕ → List LaneFacts
lanes_at v lane = filter (λ a. a.lane == lane) v.lanes

abbrev pub drawn_at : View → ℕ → List DrawnFacts
drawn_at v number = filter (λ b. b.number == number) v.drawn

-- whether the seat has the lane, and what it shows of it
abbrev pub has_lane : View → ℕ → Bool
has_lane v lane = is_filled (lanes_at v lane)

abbrev pub lane_of : View → ℕ → LaneFacts
lane_of v lane = first_or (new_lane lane) (lanes_at v lane)

-- whether the seat drew the number or took it in, and what it shows of it
abbrev pub has_drawn : View → ℕ → Bool
has_drawn v number = is_filled (drawn_at v number)

abbrev pub drawn_of : View → ℕ → DrawnFacts
drawn_of v number = first_or (new_drawn number) (drawn_at v number)

-- of the seat's own lane
abbrev pub own_lane : View → LaneFacts
own_lane v = lane_of v v.own

abbrev pub own_status : View → Status
own_status v = (own_lane v).status

-- the number that the seat drew when no lane was left, or 0
abbrev pub own_over : View → ℕ
own_over v = (own_lane v).over

-- the lane has words, and the seat drew it or took it in
abbrev pub Drew : View → ℕ → Type 0
Drew v lane = (lane < most) × (has_drawn v lane ≡ true)

-- above the seat's lane, and neither a number nor a lane that the seat has
pub record IsNewNumber (v : View) (number : ℕ) : Type 0 where
  pub above : v.own < number
  pub not_drawn : has_drawn v number ≡ false
  pub no_lane : has_lane v number ≡ false

-- the numbers that the seat has stay
abbrev pub KeepsNumbers : View → View → Type 0
KeepsNumbers old new = (number : ℕ) → has_drawn old number ≡ true → has_drawn new number ≡ true

-- the seat took in each seat that was made from it, or from a seat that it took in
abbrev pub IsWhole : View → Type 0
IsWhole v =
    (lane : ℕ) → has_drawn v lane ≡ true → (drawn_of v lane).seated ≡ true
    → has_lane v lane ≡ true

-- a whole seat that has lane 0 drew or took in every number from 1 to the greatest that it has
abbrev pub HasAllNumbers : View → Type 0
HasAllNumbers v =
    IsWhole v → has_lane v 0 ≡ true
    → (greatest number : ℕ) → has_drawn v greatest ≡ true
    → 0 < number → number ≤ greatest → has_drawn v number ≡ true

-- the stronger of the kinds whose bits were found
abbrev pub kind_found : Bool → Bool → Option CancelKind
kind_found soft hard = if hard then Some Hard else (if soft then Some Soft else None)

-- the seats at the start
abbrev pub founder : View
founder = record {
  own = 0;
  lanes = (record (new_lane 0) { status = Running; before = Pending ∷ [] }) ∷ [];
  drawn = [];
}

abbrev pub newcomer : ℕ → View
newcomer lane = record { own = lane; lanes = new_lane lane ∷ []; drawn = [] }

-- a seat without anything, which is left of one that was taken in
abbrev pub nobody : View
nobody = record { own = 0; lanes = []; drawn = [] }
