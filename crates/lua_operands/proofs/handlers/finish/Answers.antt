use Rattle.lua_machine.proofs.Failures.{fault_leads}
use Rattle.lua_operands.proofs.handlers.finish.Goals as goal

pub returns-in-Err : goal.returns-in-Err
returns-in-Err g c =
    rw c.in-Err.is record {
      leads = λ k. fault_leads c.args.m.now c.fault_at.new.self k c.args.p.now c.args.line c.in-Err.fault c.fault_at.ensures;
      stack = tt;
    }
