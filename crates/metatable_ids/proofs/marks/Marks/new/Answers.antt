use Rattle.metatable_ids.proofs.RegistryLemmas.{kept-empty}
use Rattle.metatable_ids.proofs.marks.Marks.new.Goals as goal

pub invariant_of-result : goal.invariant_of-result
invariant_of-result c = kept-empty c.args.state c.new.result.entries c.new-2.result.entries c.new.ensures.empty c.new-2.ensures.empty
