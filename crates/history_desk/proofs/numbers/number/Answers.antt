use Rattle.std.proofs.Common.{◌≡◌, arith, sym, ◌∙◌, ap, subst, true}
use Rattle.history_desk.specs.Passes.{carries}
use Rattle.history_desk.specs.Steps.{IsHolding}
use Rattle.history_desk.proofs.Seats.{asks_at, draws_at, splits_at}
use Rattle.history_desk.proofs.numbers.number.Goals as goal

pub load-next-requires : goal.load-next-requires
load-next-requires g c =
    let d = c.requires.desk in
    let h = c.requires.holding in
    (d.0, omega (arith, d.1.0), asks_at g.S.Object.means g.S.Object.content _ _ c.args.seat.now.me h.0 h.1)

pub fetch_add-requires : goal.fetch_add-requires
fetch_add-requires g c =
    let d = c.requires.desk in
    let h = c.requires.holding in
    let a = c.load-next.ensures.2 in
    let few = c.if-next-ge-LIMIT.false in (
      c.load-next.ensures.0 ∙ d.0,
      omega (arith, d.1.0),
      draws_at g.S.Object.means g.S.Object.content _ _ c.load-next.new.seat.me h.0
          (subst (λ u. IsHolding u h.0) (sym a.0) h.1)
          (subst (λ u. carries u.0.known u.0.known.number ≡ true) (sym a.0) c.requires.own)
          (let same = ap (λ u. u.0.known.given) a.0 in omega (arith, same, a.1, few)),
    )

pub split_seat-other-requires : goal.split_seat-other-requires
split_seat-other-requires g c =
    let d = c.requires.desk in (
      c.fetch_add.ensures.0 ∙ (c.load-next.ensures.0 ∙ d.0),
      omega (arith, d.1.0),
      splits_at g.S.Object.means g.S.Object.content _ c.fetch_add.new.seat.me _ _ c.fetch_add.ensures.2.0,
    )
