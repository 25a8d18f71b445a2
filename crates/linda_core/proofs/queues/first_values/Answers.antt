use Rattle.std.proofs.Common.{ap, sym, ◌∙◌, take, ◌≡◌, ℕ, zero, suc, [], refl, subst, IfOk}
use Rattle.linda_core.specs.declared.item.Item.{Item}
use Rattle.linda_core.proofs.ContentLemmas.{held_by-known, held_by-unknown}
use Rattle.linda_core.proofs.queues.first_values.Goals as goal

none_of : (n : ℕ) → [] ≡ take {A = Item} n []
none_of zero = refl
none_of (suc n) = refl

pub returns-in-Some : goal.returns-in-Some
returns-in-Some c =
    subst (λ items. IfOk c.first.result (λ copies. copies.items ≡ take c.args.count items))
    (sym (ap (λ known. known.queue) (held_by-known _ c.args.key.now _ (sym c.in-Some.ensures.value)))) c.first.ensures

pub returns-in-None : goal.returns-in-None
returns-in-None c =
    c.new.ensures.items ∙ none_of c.args.count
    ∙ ap (λ known. take c.args.count known.queue) (sym (held_by-unknown _ c.args.key.now (sym c.in-None.ensures.value)))
