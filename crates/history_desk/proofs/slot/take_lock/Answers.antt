use Rattle.std.proofs.Common.{◌≡◌, arith, sym, ◌∙◌, ap, subst, rules, ne_eqb, eq-eqb, true}
use Rattle.atomic_table.specs.Table.{Me}
use Rattle.history_desk.specs.Passes.{carries}
use Rattle.history_desk.specs.Steps.{IsIdle, Taken}
use Rattle.history_desk.specs.declared.known.View.{View}
use Rattle.history_desk.specs.declared.known.Place.{Place}
use Rattle.history_desk.proofs.Seats.{takes_at, measures_at}
use Rattle.history_desk.proofs.slot.take_lock.Goals as goal

pub swap-requires : goal.swap-requires
swap-requires g c =
    let i = c.loop.invariant in
    let d = c.requires.desk in (
      i.2 ∙ d.0,
      omega (arith, d.1.0),
      takes_at g.S.Object.means g.S.Object.content _ _ c.loop.seat.me (subst IsIdle (sym i.3) c.requires.idle)
          (subst (λ (u : Me (Place g.row.S.Denot g.row.S-Call.Denot g.row.S-Reply.Denot) (View g.row.S-CallData.Denot g.row.S-ReplyData.Denot)). carries u.0.known u.0.known.number ≡ true) (sym i.3) c.requires.own),
    )

pub load-requires : goal.load-requires
load-requires g c =
    let i = c.loop.invariant in
    let d = c.requires.desk in
    let taken = rw (eq-eqb c.swap.result 0 c.if-swap-eq0.true) at c.swap.ensures.2 in (
      c.swap.ensures.0 ∙ (i.2 ∙ d.0),
      omega (arith, d.1.0),
      measures_at g.S.Object.means g.S.Object.content _ _ c.swap.new.seat.me taken.slot taken.holding,
    )
