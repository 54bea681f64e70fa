use Rattle.std.proofs.Common.{List, subst}
use Rattle.xp_base.specs.Points.{Rectangle}
use Rattle.rect_regions.specs.PointSets.{has}
use Rattle.rect_regions.specs.Sweeping.{Covers}
use Rattle.rect_regions.proofs.Coverings.{united_covered}
use Rattle.rect_regions.proofs.region.RegionPoints.union_rect.Goals as goal

pub returns-then-covers-clause-ok : goal.returns-then-covers-clause-ok
returns-then-covers-clause-ok c =
    let mine = c.args.self.now in
    let all : Covers (has c.list.result.now) c.args.r = c.covers.ensures.0 c.if-covers.true in
    let own : Covers (has mine) c.args.r = subst (λ (l : List Rectangle). Covers (has l) c.args.r) c.list.ensures.list all in
    united_covered (has mine) c.args.r own
