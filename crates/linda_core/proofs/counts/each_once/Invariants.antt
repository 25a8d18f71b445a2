use Rattle.std.proofs.Common.{◌≡◌, [], drop}
use Rattle.indexmap.specs.IndexSet.{insert_all}
use Rattle.linda_core.specs.SequentialLinda.{key_eq}
use Rattle.linda_core.proofs.counts.each_once.Given as goal

abbrev pub invariant-loop-key : goal.invariant-loop-key
invariant-loop-key l =
    insert_all key_eq l.set.keys (drop l.key-index l.listed) ≡ insert_all key_eq [] l.listed
