use Rattle.std.proofs.Common.{◌≡◌, arith, sym, ◌∙◌, ap, refl, subst}
use Rattle.desk_object.specs.declared.entry.Entry.TheVariants.{Made}
use Rattle.history_desk.specs.Steps.{with_entry}
use Rattle.history_desk.proofs.Answering.{idle_knows, fits_after, try_fits}
use Rattle.history_desk.proofs.turning.turn.Goals as goal

pub returns-in_default-clause-ends : goal.returns-in_default-clause-ends
returns-in_default-clause-ends g c =
    let none = c.in_default.ensures.none in
    let n = c.requires.count in
    let few = c.if-count-ge-LIMIT.false in (
      idle_knows c.put_back-in_default.new.seat.me _ _ c.put_back-in_default.ensures.idle,
      omega (arith, n.0, few),
      none.0,
      refl,
      fits_after g.S.Object.means g.met.S.Object.determined _ (g.S.Object.content c.args.object) _ _ c.requires.reached (sym none.1 ∙ c.ready.ensures),
    )

pub returns-in_default-reserve-clause-ends : goal.returns-in_default-reserve-clause-ends
returns-in_default-reserve-clause-ends g c =
    let some = c.in-Some.ensures.some in
    let n = c.requires.count in
    let few = c.if-count-ge-LIMIT.false in (
      idle_knows c.put_back-in_default-reserve.new.seat.me _ _ c.put_back-in_default-reserve.ensures.idle,
      omega (arith, n.0, few),
      λ is. fits_after g.S.Object.means g.met.S.Object.determined _ (g.S.Object.content c.args.object) _ _ c.requires.reached (sym (try_fits c.args.mode c.in-Some.ending c.ready.result some.0 some.1 is) ∙ c.ready.ensures),
    )

pub returns-clause-ends : goal.returns-clause-ends
returns-clause-ends g c =
    let some = c.in-Some.ensures.some in
    let n = c.requires.count in
    let few = c.if-count-ge-LIMIT.false in
    let e = c.append-reply.ensures in
    let h = c.args.seat.now.me.0.known in (
      c.in-Some.ending,
      some.1,
      omega (arith, n.0, few),
      idle_knows c.append-reply.new.seat.me _ _ e.appended
          ∙ ap (λ (r : g.row.S-Reply.Denot). with_entry h (Made h.number (g.S.Object.call_data c.args.call) c.in-Some.ending (g.S.Object.reply_data r))) (sym e.reply),
      e.legal,
    )
