use Rattle.std.proofs.Common.{◌<◌, List, length, subst, arith}
use Rattle.xp_base.specs.Points.{Rectangle}
use Rattle.capture_jobs.proofs.PlanningLemmas.{some_point}
use Rattle.capture_jobs.proofs.planning.plan.Goals as goal

pub unreachable-requires : goal.unreachable-requires
unreachable-requires g c =
    let more : 32 < length c.in_ok-rects.rects = subst (λ (l : List Rectangle). 32 < length l) c.as_slice-rects.ensures c.if-rects-le-MOST_RECTANGLES.false in
    some_point (g.R.Points.has c.args.region.now) c.in_ok-rects.rects c.in_ok-rects.ensures (omega arith) (λ x y. c.in_default.ensures x y)
