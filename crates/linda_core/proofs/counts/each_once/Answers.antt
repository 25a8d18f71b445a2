use Rattle.std.proofs.Common.{◌∙◌, sym}
use Rattle.std.proofs.lemmas.List.{at_drop_all}
use Rattle.indexmap.specs.IndexSet.{insert_all}
use Rattle.linda_core.specs.SequentialLinda.{key_eq}
use Rattle.linda_core.proofs.OnceLemmas.{each_once}
use Rattle.linda_core.proofs.counts.each_once.Goals as goal

pub returns : goal.returns
returns c =
    sym (at_drop_all (insert_all key_eq c.loop-key.set.keys) c.args.listed.now c.loop-key.key-index c.loop-key-test.false)
    ∙ c.loop-key.invariant ∙ each_once c.args.listed.now
