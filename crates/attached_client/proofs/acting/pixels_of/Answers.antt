use Rattle.std.proofs.Common.{◌+◌, min, ap, ◌∙◌}
use Rattle.xp_base.specs.Counts.{greatest}
use Rattle.attached_client.proofs.Pixels.{one_more, all_pixels}
use Rattle.attached_client.proofs.acting.pixels_of.Goals as goal

pub returns : goal.returns
returns c = all_pixels c.args.sources.now c.loop-source.pixels c.loop-source.source-index c.loop-source.invariant c.loop-source-test.false

pub loop-source-preserved : goal.loop-source-preserved
loop-source-preserved c =
    one_more c.args.sources.now c.loop-source.pixels c.loop-source.source-index c.source-item.result c.saturating_add-pixels.result c.loop-source.invariant c.loop-source-test.true c.source-item.is (c.saturating_add-pixels.ensures ∙ ap (λ n. min (c.loop-source.pixels + n) greatest) c.pixels.ensures)
