use Rattle.std.proofs.Common.{refl, inl, inr, subst}
use Rattle.script_run.specs.Running.{RunsProgram}
use Rattle.script_run.proofs.script.run_program.Goals as goal

pub returns-in-Ok-new-clause-ran : goal.returns-in-Ok-new-clause-ran
returns-in-Ok-new-clause-ran g c =
    inl (subst (λ p. RunsProgram p (g.O.Sink.taken c.args.output) (g.O.Sink.taken c.call_main.result.output) (g.O.Sink.faults c.args.output) (g.O.Sink.faults c.call_main.result.output) c.call_main.result.end) c.in-Ok-new.ensures.ok c.call_main.ensures.ran)

pub returns-in-Err-clause-ran : goal.returns-in-Err-clause-ran
returns-in-Err-clause-ran g c = inr (refl, refl)
