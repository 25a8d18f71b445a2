use Rattle.std.proofs.Common.{arith}
use Rattle.object_store.specs.declared.value.Value.TheVariants.{Nil}
use Rattle.object_store.proofs.PairLemmas.{dead_there, recounted_is, same_length}
use Rattle.object_store.proofs.change.clear.Goals as goal

pub recounted-requires-clause-there : goal.recounted-requires-clause-there
recounted-requires-clause-there c = dead_there _ c.args.key c.in-Some.old c.args.dead c.requires.counted c.in-Some.ensures.old

pub returns-in-Some-clause-dead : goal.returns-in-Some-clause-dead
returns-in-Some-clause-dead c = recounted_is _ c.args.key c.in-Some.old c.args.dead c.requires.counted c.in-Some.ensures.old _ Nil c.recounted.result c.in-Some.ensures.present c.recounted.ensures

pub returns-in-Some-clause-few : goal.returns-in-Some-clause-few
returns-in-Some-clause-few c = omega (arith, same_length _ _ c.args.key Nil c.in-Some.ensures.present, c.requires.few)
