use Rattle.std.proofs.Common.{◌∙◌, sym, ap}
use Rattle.linda_core.specs.SequentialLinda.{fits}
use Rattle.linda_core.specs.BankHolding.{bank_content}
use Rattle.linda_core.specs.BankMeaning.{linda_at}
use Rattle.linda_core.proofs.BankLemmas.{linda_at-known, linda_at-none}
use Rattle.linda_core.proofs.bank.BankObject.ready.Goals as goal

pub returns-in-Some : goal.returns-in-Some
returns-in-Some c =
    c.ready.ensures
    ∙ ap (λ linda. fits linda c.args.call.now.op) (sym (linda_at-known c.self.inside.lindas.entries c.args.call.now.linda c.in-Some.linda.now (sym c.in-Some.ensures.value)))
    ∙ ap (λ bank. fits (linda_at (bank_content bank) c.args.call.now.linda) c.args.call.now.op) c.self.view_is

pub returns-in-None : goal.returns-in-None
returns-in-None c =
    c.ready-in-None-2.ensures
    ∙ ap (λ linda. fits linda c.args.call.now.op) (c.new.ensures ∙ sym (linda_at-none c.self.inside.lindas.entries c.args.call.now.linda (sym c.in-None.ensures.value)))
    ∙ ap (λ bank. fits (linda_at (bank_content bank) c.args.call.now.linda) c.args.call.now.op) c.self.view_is
