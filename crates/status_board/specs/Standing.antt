-- What a seat keeps beside what it shows: its own lane, that lane's status, and the number too
-- great that it drew, or 0.
use Rattle.std.specs.Prelude.{◌≡◌, ◌<◌, ◌≤◌, ℕ, true}
use Rattle.status_board.specs.declared.status.Status.{Status}
use Rattle.status_board.specs.declared.view.View.{View}
use Rattle.status_board.specs.StatusLife.{is_life}
use Rattle.status_board.specs.Words.{most}
use Rattle.status_board.specs.Views.{has_lane, own_lane, own_status, own_over, HasAllNumbers}

pub record Stands (lane : ℕ) (status : Status) (over : ℕ) (v : View) : Type 0 where
  pub own : v.own ≡ lane
  pub low : lane < most
  pub held : has_lane v lane ≡ true
  pub status_is : own_status v ≡ status
  pub life : is_life (own_status v) (own_lane v).before ≡ true
  pub over_is : own_over v ≡ over
  pub too_great : 0 < over → most ≤ over
  pub numbers : HasAllNumbers v
