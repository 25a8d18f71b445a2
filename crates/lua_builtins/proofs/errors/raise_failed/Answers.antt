use Rattle.std.proofs.Common.{ap, codes}
use Rattle.lua_meaning.specs.Run.{here}
use Rattle.lua_meaning.specs.Library.{failed}
use Rattle.lua_machine.specs.Does.{world}
use Rattle.lua_machine.proofs.Leads.{from}
use Rattle.lua_machine.proofs.Failures.{raise_leads}
use Rattle.lua_builtins.proofs.ErrorTurns.{failed_other}
use Rattle.lua_builtins.proofs.errors.raise_failed.Goals as goal

pub returns-in-Nil : goal.returns-in-Nil
returns-in-Nil g c = λ l s k.
    let m = c.args.m.now in
    from (ap (λ v. failed c.args.p.now l s v (world m) k) c.in-Nil.is) (raise_leads m c.raise_at.new.self k (codes "assertion failed!") c.raise_at.ensures)

pub returns-in_default : goal.returns-in_default
returns-in_default g c = λ l s k. from (failed_other c.args.p.now l s (world c.args.m.now) k c.args.message c.in_default.not-Nil) here
