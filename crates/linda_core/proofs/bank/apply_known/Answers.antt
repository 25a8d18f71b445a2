use Rattle.std.proofs.Common.{◌∙◌, sym, ap, subst}
use Rattle.std.specs.Option.{option_copied_mut}
use Rattle.desk_object.specs.Endings.{MayEnd}
use Rattle.linda_core.specs.SequentialLinda.{fits, reply_to}
use Rattle.linda_core.specs.BankHolding.{StandsAt}
use Rattle.linda_core.proofs.BankLemmas.{ended_at, linda_at-stands}
use Rattle.linda_core.proofs.bank.apply_known.Goals as goal

pub apply-requires-clause-ending : goal.apply-requires-clause-ending
apply-requires-clause-ending c =
    let there = sym c.get_index_mut.ensures.value ∙ ap option_copied_mut c.unwrap.ensures in
    let stands : StandsAt c.args.lindas.now.entries c.args.call.now.linda c.args.place c.unwrap.result.now = record { found = c.requires.room.1.found; there = there } in
    subst (λ linda. MayEnd c.args.ending (fits linda c.args.call.now.op)) (linda_at-stands c.args.lindas.now.entries c.args.call.now.linda c.args.place c.unwrap.result.now stands) c.requires.ending

pub returns-clause-reply : goal.returns-clause-reply
returns-clause-reply c =
    let there = sym c.get_index_mut.ensures.value ∙ ap option_copied_mut c.unwrap.ensures in
    let stands : StandsAt c.args.lindas.now.entries c.args.call.now.linda c.args.place c.unwrap.result.now = record { found = c.requires.room.1.found; there = there } in
    c.apply.ensures.reply
    ∙ ap (λ linda. reply_to linda c.args.call.now.op c.args.ending) (sym (linda_at-stands c.args.lindas.now.entries c.args.call.now.linda c.args.place c.unwrap.result.now stands))

pub returns-clause-content : goal.returns-clause-content
returns-clause-content c =
    let there = sym c.get_index_mut.ensures.value ∙ ap option_copied_mut c.unwrap.ensures in
    let stands : StandsAt c.args.lindas.now.entries c.args.call.now.linda c.args.place c.unwrap.result.now = record { found = c.requires.room.1.found; there = there } in
    ended_at c.args.lindas.now.entries c.args.call.now c.args.place c.unwrap.result.now c.apply.new.self c.args.ending stands c.apply.ensures.content
