use Rattle.std.proofs.Common.{◌≡◌, ◌<◌, ◌≤◌, length, ap, arith}
use Rattle.std.proofs.lemmas.List.{take_all}
use Rattle.draw_sequencer.specs.InHand.{HeldJob}
use Rattle.rect_regions.specs.PointSets.{SamePoints, united}
use Rattle.resize_cancel.proofs.ReliefLemmas.{added_more}
use Rattle.resize_cancel.proofs.cancelling.add_reliefs.Goals as goal

pub loop-k-preserved : goal.loop-k-preserved
loop-k-preserved g c =
    let within : c.loop-k.k < length c.args.s.now.jobs = omega (arith, c.len-k-end.ensures.count, c.loop-k-test.true) in
    let relief : c.job.inside.relief ≡ c.in-Some.job.now.relief = ap (λ (j : HeldJob g.row.R.Denot). j.relief) c.job.view_is in
    let more : SamePoints (g.R.Points.has c.union.new.self) (united (g.R.Points.has c.loop-k.points) (g.R.Points.has c.in-Some.job.now.relief)) = rw relief at c.in_ok-union.ensures.ok in
    added_more g.R.Points.has c.args.s.now.jobs c.loop-k.k c.in-Some.job.now c.args.points.now c.loop-k.points c.union.new.self c.in-Some.ensures within c.loop-k.invariant more

pub returns : goal.returns
returns g c =
    let end : length c.args.s.now.jobs ≤ c.loop-k.k = omega (arith, c.len-k-end.ensures.count, c.loop-k-test.false) in
    rw (take_all c.loop-k.k c.args.s.now.jobs end) at c.loop-k.invariant
