use Rattle.rect_regions.specs.Making.{columns}
use Rattle.rect_regions.specs.Combinations.{keeps}
use Rattle.rect_regions.proofs.Sweeps.{rows_added}
use Rattle.rect_regions.proofs.sweep.add_rows.Goals as goal

pub returns-clause-points : goal.returns-clause-points
returns-clause-points c =
    rows_added c.args.rects.now.items c.append_combined.new.rects.items c.join_band-place.new.rects.items c.args.top c.args.bottom
    (λ x. keeps c.args.combination (columns c.args.one.now x) (columns c.args.other.now x)) c.in_ok-append_combined.ensures c.join_band-place.ensures.points
