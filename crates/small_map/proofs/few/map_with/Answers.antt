use Rattle.std.proofs.Common.{◌∙◌, ap}
use Rattle.indexmap.specs.IndexMap.{insert_entry}
use Rattle.small_map.proofs.FewLemmas.{insert_absent}
use Rattle.small_map.proofs.few.map_with.Goals as goal

pub returns : goal.returns
returns g c =
    ap (λ m. m.entries) c.in_ok-new.ensures.ok ∙ c.in_ok-insert.ensures.entries
    ∙ ap (λ l. insert_entry g.K.PartialEq.eq l c.args.key c.args.value) c.in_ok-map.ensures.entries
    ∙ insert_absent g.K.PartialEq.eq c.args.key c.args.value c.args.few.now c.requires.absent
