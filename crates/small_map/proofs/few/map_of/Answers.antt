use Rattle.std.proofs.Common.{Some, ◌∙◌, ap, sym, arith}
use Rattle.std.proofs.lemmas.Option.{slice_get-get_or}
use Rattle.small_map.proofs.FewLemmas.{copied_more}
use Rattle.small_map.proofs.few.map_of.Goals as goal

pub loop-i-preserved : goal.loop-i-preserved
loop-i-preserved g c = record {
  copied = copied_more g.K.PartialEq.eq g.met.K.Eq.laws c.args.few.now c.loop-i.map.entries c.insert.new.self.entries c.loop-i.i c.index-few-i.result c.requires.distinct (slice_get-get_or c.args.few.now c.loop-i.i c.index-few-i.result c.loop-i-test.true ∙ ap Some (sym c.index-few-i.is)) c.loop-i.invariant.copied c.in_ok-insert.ensures.entries;
  room = omega (arith, c.loop-i.invariant.room, c.in_ok-insert.ensures.spare, c.loop-i-test.true);
}
