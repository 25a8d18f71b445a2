use Rattle.std.proofs.Common.{◌≡◌, ◌∷◌, [], ◌++◌, ◌∙◌, sym, ap, length, subst}
use Rattle.atomic_table.specs.Table.{Me}
use Rattle.history_desk.specs.declared.known.Place.{Place}
use Rattle.history_desk.specs.declared.known.Place.TheVariants.{Here}
use Rattle.history_desk.specs.declared.known.View.{View}
use Rattle.history_desk.specs.Passes.{newcomer, IsSound}
use Rattle.history_desk.specs.Rule.{idle}
use Rattle.history_desk.proofs.Moves.{opens}
use Rattle.history_desk.proofs.Answering.{idle_knows}
use Rattle.history_desk.proofs.Knowledge.{idles, sound_founder}
use Rattle.history_desk.proofs.desk.Desk.make.Goals as goal

pub new-requires : goal.new-requires
new-requires g c =
    let are : c.push_reserved.new.self.items ≡ Here c.args.object ∷ [] = c.push_reserved.ensures.items ∙ ap (λ l. l ++ Here c.args.object ∷ []) (c.reserve.ensures.items ∙ c.new-slots.ensures.items) in
    rw are (opens g.S.Object.means g.S.Object.content c.args.object c.requires)

pub invariant_of-result-in-Ok : goal.invariant_of-result-in-Ok
invariant_of-result-in-Ok g c =
    let is = c.in-Ok.ensures.ok.4 in
    let known = sym (idle_knows c.in-Ok.seat.me _ _ is) in (
      ap (λ h. h.number) known,
      ap (λ h. length h.seen) known,
      idles c.in-Ok.seat.me _ is,
      subst (IsSound g.S.Object.means) known (sound_founder g.S.Object.means),
    )
