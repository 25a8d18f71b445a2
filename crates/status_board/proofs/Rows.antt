-- The definitions, computed on examples.
use Rattle.std.proofs.Common.{◌≡◌, ◌+◌, ◌*◌, true, false, [], ◌∷◌, refl}
use Rattle.std.specs.Prelude.{Some}
use Rattle.status_board.specs.declared.status.Status.TheVariants.{Pending, Running, Waiting, Done, Error, Cancelled}
use Rattle.status_board.specs.declared.status.CancelKind.TheVariants.{Soft, Hard}
use Rattle.status_board.specs.declared.view.View.{View}
use Rattle.status_board.specs.StatusLife.{is_life, may_follow}
use Rattle.status_board.specs.Words.{word, turn, code_of, bits_of, soft_in, hard_in}
use Rattle.status_board.specs.Views.{founder, newcomer, new_drawn, has_lane, has_drawn, drawn_of, own_lane, own_status, own_over, kind_found}
use Rattle.status_board.specs.Changes.{with_status, with_look, with_ask, with_bits, with_draw, with_seat, met}

waited_and_done : is_life Done (Running ∷ Waiting ∷ Running ∷ Pending ∷ []) ≡ true
waited_and_done = refl

began_with_waiting : is_life Waiting (Pending ∷ []) ≡ false
began_with_waiting = refl

ran_after_its_end : is_life Running (Error ∷ Running ∷ Pending ∷ []) ≡ false
ran_after_its_end = refl

ended_twice : may_follow Cancelled Done ≡ false
ended_twice = refl

-- three looks at a lane that runs; and a count of looks that began again
status_of_three_looks : word 3 (code_of Running) ≡ 3 * 256 + 1
status_of_three_looks = refl

count_began_again : word (turn + 2) (code_of Done) ≡ 2 * 256 + 3
count_began_again = refl

both_bits : bits_of true true ≡ 3
both_bits = refl

hard_alone : (soft_in 2 ≡ false) × (hard_in 2 ≡ true) × (kind_found false true ≡ Some Hard)
hard_alone = (refl, refl, refl)

-- lane 0 drew lane 1, made its seat, looked at it twice and asked it to end softly, and hard, and again
abbrev asked : View
asked = with_ask (with_ask (with_ask (with_look (with_look (with_seat (with_draw founder 1) 1) 1 Pending) 1 Running) 1 Soft 4) 1 Hard 7) 1 Soft 9

what_it_shows : drawn_of asked 1
    ≡ record (new_drawn 1) {
      looks = 2;
      read = Running;
      soft = record { asked = true; found = 4 };
      hard = record { asked = true; found = 7 };
      seated = true;
    }
what_it_shows = refl

-- lane 1 runs, looks at its cancel word five times, of which the last found the soft bit, and ends
abbrev ended : View
ended = with_status (with_bits (with_bits (with_bits (with_bits (with_bits (with_status (newcomer 1) Running 1) false false) false false) false false) false false) true false) Done 6

what_it_read : ((own_lane ended).soft ≡ record { unset = 4; read = true }) × ((own_lane ended).hard ≡ record { unset = 5; read = false })
what_it_read = (refl, refl)

how_it_ended : ((own_lane ended).end_found ≡ 6) × (own_status ended ≡ Done) × ((own_lane ended).before ≡ Running ∷ Pending ∷ [])
how_it_ended = (refl, refl, refl)

-- an end changes no count of looks without one
look_after_the_end : (drawn_of (with_look (with_look asked 1 Done) 1 Done) 1).looks ≡ 2
look_after_the_end = refl

-- after the meet lane 0 has both
after_the_meet : (has_lane (met asked ended) 0 ≡ true) × (has_lane (met asked ended) 1 ≡ true) × (has_drawn (met asked ended) 1 ≡ true) × (has_drawn (met asked ended) 2 ≡ false)
after_the_meet = (refl, refl, refl, refl)

-- a number that is too great stays with the lane that drew it
too_great : (own_over (with_draw (newcomer 1) 1024) ≡ 1024) × (own_over (with_draw (newcomer 1) 1023) ≡ 0) × (has_drawn (with_draw (newcomer 1) 1024) 1024 ≡ true)
too_great = (refl, refl, refl)
