use Rattle.std.proofs.Common.{ap}
use Rattle.lua_meaning.specs.Run.{here}
use Rattle.lua_meaning.specs.Library.{positioned}
use Rattle.lua_machine.specs.Does.{world}
use Rattle.lua_machine.proofs.Leads.{from}
use Rattle.lua_machine.proofs.Failures.{raise_leads}
use Rattle.lua_builtins.proofs.ErrorTurns.{positioned_none, positioned_string, positioned_other}
use Rattle.lua_builtins.proofs.errors.raise_positioned.Goals as goal

pub returns-then-line-eq0 : goal.returns-then-line-eq0
returns-then-line-eq0 g c = λ l s k. from (positioned_none c.args.p.now l s (world c.args.m.now) k c.args.line c.args.value c.if-line-eq0.true) here

pub returns-in-Str : goal.returns-in-Str
returns-in-Str g c = λ l s k.
    let m = c.args.m.now in
    from (ap (λ v. positioned c.args.p.now l s c.args.line v (world m) k) c.in-Str.is) (from (positioned_string c.args.p.now l s (world m) k c.args.line c.in-Str.id c.if-line-eq0.false) (raise_leads m c.raise_string.new.m k _ c.raise_string.ensures))

pub returns-in_default : goal.returns-in_default
returns-in_default g c = λ l s k. from (positioned_other c.args.p.now l s (world c.args.m.now) k c.args.line c.args.value c.in_default.not-Str) here
