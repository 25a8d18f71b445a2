use Rattle.std.proofs.Common.{arith, ◌∙◌}
use Rattle.plain_host.proofs.Taken.{Appends-more}
use Rattle.plain_host.proofs.writing.write_text.Goals as goal

pub loop-at-preserved : goal.loop-at-preserved
loop-at-preserved g c =
    let more = c.in_ok-at.ensures in (
      grind arith,
      more.cause.kept ∙ c.loop-at.invariant.1,
      Appends-more _ _ _ c.args.text.now c.loop-at.at c.in_ok-at.field-0 c.loop-at.invariant.2 more.bytes,
    )
