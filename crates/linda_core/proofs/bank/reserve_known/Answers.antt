use Rattle.std.proofs.Common.{◌∙◌, sym, ap}
use Rattle.std.specs.Option.{option_copied_mut}
use Rattle.linda_core.proofs.BankLemmas.{known_room, seen_bank-same}
use Rattle.linda_core.proofs.bank.reserve_known.Goals as goal

pub returns-clause-room : goal.returns-clause-room
returns-clause-room c =
    known_room c.args.lindas.now.entries c.args.place c.args.call.now c.unwrap.result.now c.reserve.new.self c.reserve.result c.requires.found
    (sym c.get_index_mut.ensures.value ∙ ap option_copied_mut c.unwrap.ensures) c.reserve.ensures.room

pub returns-clause-same : goal.returns-clause-same
returns-clause-same c =
    seen_bank-same c.args.lindas.now.entries c.args.place c.unwrap.result.now c.reserve.new.self
    (sym c.get_index_mut.ensures.value ∙ ap option_copied_mut c.unwrap.ensures) c.reserve.ensures.content
