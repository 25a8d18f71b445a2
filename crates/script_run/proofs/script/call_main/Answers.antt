use Rattle.std.proofs.Common.{map}
use Rattle.linda_core.specs.Holding.{content}
use Rattle.lua_machine.specs.Does.{store_of}
use Rattle.script_run.proofs.Programs.{told, seen_program, begun}
use Rattle.script_run.proofs.script.call_main.Goals as goal

pub returns-clause-ran : goal.returns-clause-ran
returns-clause-ran g c =
    let r = c.run-end.ensures.ran in
    let h = c.of-host.result in
    let h1 = c.run-end.result.host in
    let begins = begun g.O.Sink.taken g.O.Sink.faults h.output c.args.output h.failed h.lindas.items c.of-host.ensures.output c.of-host.ensures.failed c.of-host.ensures.lindas in
    record {
      opening = store_of c.args.state;
      main = c.args.main.number;
      opens = c.requires;
      failed = h1.failed;
      lindas = map content h1.lindas.items;
      result = r.result;
      world = record { store = store_of c.run-end.result.state; left = r.left };
      ran = seen_program g.O.Sink.taken g.O.Sink.faults h h1 _ _ _ _ _ begins r.ran;
      ended = c.ending-end.ensures r.result r.end;
    }

pub returns-clause-write : goal.returns-clause-write
returns-clause-write g c = told _ _ _ _ _ _ (returns-clause-ran g c)
