-- Lives of lanes: ranks never fall, and nothing follows an end.
use Rattle.std.proofs.Common.{◌≡◌, ◌≤◌, true, false, true≢false, List, [], ◌∷◌, refl, sym, arith}
use Rattle.std.specs.Prelude.{All, not}
use Rattle.std.proofs.lemmas.Bool.{and_from, and_parts}
use Rattle.std.proofs.lemmas.List.Elements.{All-nil, All-cons, All-weaker}
use Rattle.status_board.specs.declared.status.Status.{Status}
use Rattle.status_board.specs.declared.status.Status.TheVariants.{Pending, Running, Waiting, Done, Error, Cancelled}
use Rattle.status_board.specs.StatusLife.{is_end, rank, is_pending, may_follow, is_life}

pub no_end_before : (old new : Status) → may_follow old new ≡ true → is_end old ≡ false
no_end_before Pending new h = refl
no_end_before Running new h = refl
no_end_before Waiting new h = refl
no_end_before Done new h = absurd (true≢false (sym h))
no_end_before Error new h = absurd (true≢false (sym h))
no_end_before Cancelled new h = absurd (true≢false (sym h))

-- a begun status has rank 1 at least
begun : (new : Status) → not (is_pending new) ≡ true → 1 ≤ rank new
begun Pending h = absurd (true≢false (sym h))
begun Running h = omega arith
begun Waiting h = omega arith
begun Done h = omega arith
begun Error h = omega arith
begun Cancelled h = omega arith

pub rank_rises : (old new : Status) → may_follow old new ≡ true → rank old ≤ rank new
rank_rises Pending new h = omega arith
rank_rises Running new h = begun new h
rank_rises Waiting new h = begun new h
rank_rises Done new h = absurd (true≢false (sym h))
rank_rises Error new h = absurd (true≢false (sym h))
rank_rises Cancelled new h = absurd (true≢false (sym h))

pub life_goes_on : (old new : Status) (before : List Status) → may_follow old new ≡ true → is_life old before ≡ true → is_life new (old ∷ before) ≡ true
life_goes_on old new before may life = and_from (may_follow old new) (is_life old before) may life

-- what came before in a life is no further in it, and no end
pub before_is_lesser : (status : Status) (before : List Status) → is_life status before ≡ true → All (λ s. rank s ≤ rank status) before
before_is_lesser status [] life = All-nil (λ s. rank s ≤ rank status)
before_is_lesser status (last ∷ before) life =
    let p = and_parts (may_follow last status) (is_life last before) life in
    let rises = rank_rises last status p.0 in
    All-cons (λ s. rank s ≤ rank status) last before rises (All-weaker (λ s. rank s ≤ rank last) (λ s. rank s ≤ rank status) (λ s le. omega (arith, le, rises)) before (before_is_lesser last before p.1))

pub before_is_no_end : (status : Status) (before : List Status) → is_life status before ≡ true → All (λ s. is_end s ≡ false) before
before_is_no_end status [] life = All-nil (λ s. is_end s ≡ false)
before_is_no_end status (last ∷ before) life =
    let p = and_parts (may_follow last status) (is_life last before) life in
    All-cons (λ s. is_end s ≡ false) last before (no_end_before last status p.0) (before_is_no_end last before p.1)
