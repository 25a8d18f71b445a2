use Rattle.std.proofs.Common.{◌≡◌, ◌∙◌, sym, ap, subst}
use Rattle.desk_object.specs.Endings.{MayEnd}
use Rattle.linda_core.specs.SequentialLinda.{fits, reply_to, linda_after}
use Rattle.linda_core.specs.Holding.{content}
use Rattle.linda_core.specs.BankHolding.{seen_bank}
use Rattle.linda_core.specs.BankMeaning.{bank_after}
use Rattle.linda_core.proofs.ContentLemmas.{on_ok}
use Rattle.linda_core.proofs.BankLemmas.{begun_with, linda_at-none}
use Rattle.linda_core.proofs.bank.apply_fresh.Goals as goal

pub apply-reply-requires-clause-ending : goal.apply-reply-requires-clause-ending
apply-reply-requires-clause-ending c =
    subst (λ linda. MayEnd c.args.ending (fits linda c.args.call.now.op))
    (linda_at-none c.args.lindas.now.entries c.args.call.now.linda c.requires.room.0 ∙ sym c.requires.room.2) c.requires.ending

pub returns-in-Served-clause-reply : goal.returns-in-Served-clause-reply
returns-in-Served-clause-reply c =
    c.apply-reply.ensures.reply
    ∙ ap (λ linda. reply_to linda c.args.call.now.op c.args.ending) (sym (linda_at-none c.args.lindas.now.entries c.args.call.now.linda c.requires.room.0 ∙ sym c.requires.room.2))

pub returns-in-Served-clause-content : goal.returns-in-Served-clause-content
returns-in-Served-clause-content c =
    let after = subst (λ ending. content c.apply-reply.new.self ≡ linda_after (content c.args.linda) c.args.call.now.op ending) c.in-Served.is c.apply-reply.ensures.content in
    subst (λ ending. seen_bank c.insert.new.self.entries ≡ bank_after (seen_bank c.args.lindas.now.entries) c.args.call.now ending) (sym c.in-Served.is)
    (begun_with c.args.lindas.now.entries c.args.call.now c.insert.new.self.entries c.args.linda c.apply-reply.new.self c.requires.room.0 c.requires.room.2 after
    (on_ok _ _ (c.insert.ensures.succeeds c.requires.room.1) c.insert.ensures.entries))
