-- How what a lane's seat shows and what the seat shows that drew the lane agree.
use Rattle.std.specs.Prelude.{◌≡◌, ◌≤◌, ◌%◌, ℕ, true}
use Rattle.status_board.specs.declared.view.CancelReads.{CancelReads}
use Rattle.status_board.specs.declared.view.CancelAsks.{CancelAsks}
use Rattle.status_board.specs.declared.view.LaneFacts.{LaneFacts}
use Rattle.status_board.specs.declared.view.DrawnFacts.{DrawnFacts}
use Rattle.status_board.specs.declared.view.View.{View}
use Rattle.status_board.specs.StatusLife.{is_end, rank, is_life}
use Rattle.status_board.specs.Words.{turn}
use Rattle.status_board.specs.Views.{has_lane, lane_of, has_drawn, drawn_of}

-- a bit that was read was asked for, and once it was asked for, no look gave it unset
pub record IsAskedFor (reads : CancelReads) (asks : CancelAsks) : Type 0 where
  pub asked : reads.read ≡ true → asks.asked ≡ true
  pub found : asks.asked ≡ true → reads.unset % turn ≡ asks.found

-- no status that was read is further in the lane's life, an end that was read is the lane's, and
-- once it has ended, no look gave another status
pub record IsAgreed (lane : LaneFacts) (drawn : DrawnFacts) : Type 0 where
  pub life : is_life lane.status lane.before ≡ true
  pub ranked : rank drawn.read ≤ rank lane.status
  pub ended : is_end drawn.read ≡ true → drawn.read ≡ lane.status
  pub looks : is_end lane.status ≡ true → drawn.looks % turn ≡ lane.end_found
  pub soft : IsAskedFor lane.soft drawn.soft
  pub hard : IsAskedFor lane.hard drawn.hard

-- of each lane that the seat both drew and has
abbrev pub Agrees : View → Type 0
Agrees v =
    (lane : ℕ) → has_lane v lane ≡ true → has_drawn v lane ≡ true
    → IsAgreed (lane_of v lane) (drawn_of v lane)
