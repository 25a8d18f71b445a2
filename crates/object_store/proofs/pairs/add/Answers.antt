use Rattle.std.proofs.Common.{◌∙◌, ◌++◌, ap, refl}
use Rattle.object_store.specs.Run.{numbered}
use Rattle.object_store.proofs.RunLemmas.{push_last, absent_later, distinct-later}
use Rattle.object_store.proofs.pairs.add.Goals as goal

pub returns-then-push_next-clause-pairs : goal.returns-then-push_next-clause-pairs
returns-then-push_next-clause-pairs c =
    ap (λ l. numbered 0 l ++ c.args.rest.now.entries) (c.if-push_next.ensures.pushed refl)
    ∙ push_last c.args.run.now.items c.args.rest.now.entries c.args.key c.args.value (c.is_empty.ensures.0 c.if-not-is_empty.false) (c.if-push_next.ensures.next refl)

pub add-requires : goal.add-requires
add-requires c = record { absent = absent_later c.args.run.now.items c.args.rest.now.entries c.args.key c.requires.absent; distinct = distinct-later c.args.run.now.items c.args.rest.now.entries c.requires.distinct }

pub add-requires-2 : goal.add-requires-2
add-requires-2 c = record { absent = absent_later c.args.run.now.items c.args.rest.now.entries c.args.key c.requires.absent; distinct = distinct-later c.args.run.now.items c.args.rest.now.entries c.requires.distinct }
