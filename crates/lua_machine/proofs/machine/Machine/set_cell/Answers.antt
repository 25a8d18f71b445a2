use Rattle.std.proofs.Common.{refl, ap, ◌∙◌, sym}
use Rattle.lua_meaning.specs.declared.fault.Fault.TheVariants as F
use Rattle.lua_meaning.specs.Run.{here, wrote}
use Rattle.lua_meaning.specs.Names.{set_cell}
use Rattle.lua_machine.specs.Does.{world}
use Rattle.lua_machine.proofs.Leads.{from, unit_failed}
use Rattle.lua_machine.proofs.Places.{set_goes, set_fails, no_true}
use Rattle.lua_machine.proofs.machine.Machine.set_cell.Goals as goal

pub returns-in_default : goal.returns-in_default
returns-in_default g c =
    let m = c.args.self.now in
    let failed = unit_failed g.H.Host.asked m c.broken.new.self F.Broken c.broken.ensures in
    record { leads = λ k. from (ap (λ x. set_cell x m.value (world m) k) c.in_default.is) (failed.leads k); stack = tt }

pub returns-then-set_cell : goal.returns-then-set_cell
returns-then-set_cell g c =
    let m = c.args.self.now in
    let e = c.if-set_cell.ensures in
    record {
      leads = λ k. from (ap (λ x. set_cell x m.value (world m) k) c.in-Some.is ∙ set_goes c.in-Some.id m.value (world m) k (e.there.0 refl)) (rw (e.set refl) (wrote here));
      stack = refl;
    }

pub returns : goal.returns
returns g c =
    let m = c.args.self.now in
    let e = c.if-set_cell.ensures in
    record {
      leads = λ k. from (ap (λ x. set_cell x m.value (world m) k) c.in-Some.is ∙ set_fails c.in-Some.id m.value (world m) k (λ h. no_true (e.there.1 h))) (rw (c.broken-2.ensures, e.absent refl) here);
      stack = tt;
    }
