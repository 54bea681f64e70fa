use Rattle.rect_regions.specs.PointSets.{has}
use Rattle.rect_regions.proofs.Rects.{IsRowBands-same}
use Rattle.rect_regions.proofs.Uniqueness.{one_list}
use Rattle.rect_regions.proofs.laws.equal_by_points.Goals as goal

pub returns : goal.returns
returns c one other is it same = one_list (has other) one other (IsRowBands-same (has one) (has other) one same is) it
