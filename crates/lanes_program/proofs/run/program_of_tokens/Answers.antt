use Rattle.lanes_program.proofs.RefusalLemmas.{tokens_end, scoped_here}
use Rattle.lanes_program.proofs.Finishes.{program_all}
use Rattle.lanes_program.proofs.run.program_of_tokens.Goals as goal

pub parse-requires : goal.parse-requires
parse-requires c = tokens_end c.args.script.now c.args.tokens c.requires

pub returns-in-Ok-clause-program : goal.returns-in-Ok-clause-program
returns-in-Ok-clause-program c =
    program_all c.args.script.now c.args.name.now c.args.tokens c.in-Ok.tree c.program_of_tree.result c.requires c.in-Ok.ensures.answers c.program_of_tree.ensures.program

pub returns-in-Ok-clause-refused : goal.returns-in-Ok-clause-refused
returns-in-Ok-clause-refused c = λ refusal is.
    scoped_here c.args.script.now c.args.tokens c.in-Ok.tree refusal c.requires c.in-Ok.ensures.answers (c.program_of_tree.ensures.refused refusal is)
