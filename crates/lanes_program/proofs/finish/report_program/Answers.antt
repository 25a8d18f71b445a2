use Rattle.lanes_program.proofs.finish.report_program.Goals as goal

pub returns-in-Memory-clause-told : goal.returns-in-Memory-clause-told
returns-in-Memory-clause-told g c = rw c.in-Memory.is c.tell-in-Memory.ensures

pub returns-in-WriteFault-clause-told : goal.returns-in-WriteFault-clause-told
returns-in-WriteFault-clause-told g c = rw c.in-WriteFault.is c.tell-in-WriteFault.ensures

pub returns-in-Spent-clause-told : goal.returns-in-Spent-clause-told
returns-in-Spent-clause-told g c = rw c.in-Spent.is c.tell-in-Spent.ensures
