-- How each call changes what a seat shows. What is renewed stands first, in the place of what was
-- shown before.
use Rattle.std.specs.Prelude.{◌≡◌, ℕ, Option, ◌+◌, Bool, true, not, ◌==◌, nat_lt, if◌then◌else◌, ◌∷◌, ◌++◌, filter}
use Rattle.status_board.specs.declared.status.Status.{Status}
use Rattle.status_board.specs.declared.status.CancelKind.{CancelKind}
use Rattle.status_board.specs.declared.status.CancelKind.TheVariants.{Soft, Hard}
use Rattle.status_board.specs.declared.view.CancelReads.{CancelReads}
use Rattle.status_board.specs.declared.view.CancelAsks.{CancelAsks}
use Rattle.status_board.specs.declared.view.LaneFacts.{LaneFacts}
use Rattle.status_board.specs.declared.view.DrawnFacts.{DrawnFacts}
use Rattle.status_board.specs.declared.view.View.{View}
use Rattle.status_board.specs.StatusLife.{is_end}
use Rattle.status_board.specs.Words.{most}
use Rattle.status_board.specs.Views.{new_drawn, drawn_of, own_lane, kind_found}

abbrev pub with_lane : View → LaneFacts → View
with_lane v a = record v { lanes = a ∷ filter (λ b. not (b.lane == a.lane)) v.lanes }

abbrev pub with_drawn : View → DrawnFacts → View
with_drawn v b = record v { drawn = b ∷ filter (λ c. not (c.number == b.number)) v.drawn }

-- a status is set, where the word had so many looks
abbrev pub in_status : LaneFacts → Status → ℕ → LaneFacts
in_status a status found = record a {
  status = status;
  before = a.status ∷ a.before;
  end_found = if is_end status then found else a.end_found;
}

abbrev pub with_status : View → Status → ℕ → View
with_status v status found = with_lane v (in_status (own_lane v) status found)

-- a look at a lane's status gave this one
abbrev pub looked : DrawnFacts → Status → DrawnFacts
looked b status = record b {
  looks = if is_end status then b.looks else b.looks + 1;
  read = status;
}

abbrev pub with_look : View → ℕ → Status → View
with_look v lane status = with_drawn v (looked (drawn_of v lane) status)

-- a lane is asked to end, where the cancel word had so many looks
abbrev pub asked : CancelAsks → ℕ → CancelAsks
asked q found = record { asked = true; found = if q.asked then q.found else found }

abbrev pub asked_by : CancelKind → DrawnFacts → ℕ → DrawnFacts
asked_by Soft b found = record b { soft = asked b.soft found }
asked_by Hard b found = record b { hard = asked b.hard found }

abbrev pub with_ask : View → ℕ → CancelKind → ℕ → View
with_ask v lane kind found = with_drawn v (asked_by kind (drawn_of v lane) found)

-- a look at the own cancel word gave the bit so
abbrev pub heard : CancelReads → Bool → CancelReads
heard r bit = record { unset = if bit then r.unset else r.unset + 1; read = bit }

abbrev pub heard_both : LaneFacts → Bool → Bool → LaneFacts
heard_both a soft hard = record a { soft = heard a.soft soft; hard = heard a.hard hard }

abbrev pub with_bits : View → Bool → Bool → View
with_bits v soft hard = with_lane v (heard_both (own_lane v) soft hard)

-- what the look found: a bit that the look before found is there, and the answer is the stronger
-- kind
pub record IsHeard (old new : View) (answer : Option CancelKind) : Type 0 where
  pub soft : Bool
  pub hard : Bool
  pub shown : new ≡ with_bits old soft hard
  pub soft_stays : (own_lane old).soft.read ≡ true → soft ≡ true
  pub hard_stays : (own_lane old).hard.read ≡ true → hard ≡ true
  pub answer_is : answer ≡ kind_found soft hard

-- a number was drawn; where no lane is left for it, the seat's lane keeps it
abbrev pub over : View → ℕ → View
over v number =
    if nat_lt number most then v else with_lane v (record (own_lane v) { over = number })

abbrev pub with_draw : View → ℕ → View
with_draw v number = with_drawn (over v number) (new_drawn number)

-- a seat was made for a lane
abbrev pub with_seat : View → ℕ → View
with_seat v lane = with_drawn v (record (drawn_of v lane) { seated = true })

-- all that the other seat shows is handed on
abbrev pub met : View → View → View
met v other = record v { lanes = v.lanes ++ other.lanes; drawn = v.drawn ++ other.drawn }
