use Rattle.std.proofs.Common.{◌≡◌, ◌∙◌, ap}
use Rattle.base_lib.specs.Open.{opened_each, opened_libs, tables_of, with_room}
use Rattle.base_lib.proofs.Opening.{roomed}
use Rattle.base_lib.proofs.open.open_libs.Goals as goal
use Rattle.base_lib.proofs.open.open_libs.Goals.{in-Ok, in-Err}

pub returns-clause-ok : goal.returns-clause-ok
returns-clause-ok c =
    let made : c.reserve.new.self ≡ with_room (tables_of c.args.libs) c.args.state.now =
    roomed c.reserve.new.self c.args.state.now c.tables_needed.result (tables_of c.args.libs) c.in_ok-reserve.ensures.heap c.in_ok-reserve.ensures.texts
    c.in_ok-reserve.ensures.ok c.tables_needed.ensures in
    elim c.match-open_each.branch [
      | in-Ok w ↦ rw w.result-is (w.in-Ok.ensures.ok ∙ ap (opened_each c.args.libs) made)
      | in-Err w ↦ rw w.result-is tt
    ]
