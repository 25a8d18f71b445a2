use Rattle.std.proofs.Common.{subst}
use Rattle.lanes_program.specs.Refusals.{Refuses}
use Rattle.lanes_program.proofs.RefusalLemmas.{refused_here}
use Rattle.lanes_program.proofs.run.run_script.Goals as goal

pub returns-in-Ok-from_vec-clause-refused : goal.returns-in-Ok-from_vec-clause-refused
returns-in-Ok-from_vec-clause-refused g c = λ refusal is.
    refused_here (g.I.Source.left c.args.input.now) (g.I.Source.left c.read_script.new.input) c.in-Ok.script.items refusal c.in-Ok.ensures.gave
    (subst (λ text. Refuses text refusal) c.in-Ok-from_vec.ensures (c.run_text.ensures.refused refusal is))
