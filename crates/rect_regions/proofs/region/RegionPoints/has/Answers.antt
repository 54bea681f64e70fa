use Rattle.rect_regions.proofs.Searches.{sorted_limited}
use Rattle.rect_regions.proofs.region.RegionPoints.has.Goals as goal

pub returns-clause-limited : goal.returns-clause-limited
returns-clause-limited c = sorted_limited c.args.self.now c.list.ensures.kept.sized
