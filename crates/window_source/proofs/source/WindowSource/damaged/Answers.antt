use Rattle.std.proofs.Common.{◌≡◌, sym, ap}
use Rattle.xp_base.specs.Points.{is_in, LiesIn}
use Rattle.rect_regions.specs.PointSets.{SamePoints, united}
use Rattle.window_source.specs.Source.{SourceSeen}
use Rattle.window_source.proofs.Regions.{united_within, united_points}
use Rattle.window_source.proofs.source.WindowSource.damaged.Goals as goal

pub returns : goal.returns
returns g c =
    let have = c.points_are_their_tests.ensures.point in
    let alike = c.points_are_their_tests.ensures.alike in
    let same : SamePoints (g.R.Points.has c.in_ok-pending.pending) (united (g.R.Points.has c.self.inside.batch.pending) (is_in c.args.r)) = c.in_ok-pending.ensures in
    let wide : c.args.self.now.wide ≡ c.self.inside.w = sym (ap (λ (s : SourceSeen). s.wide) c.self.view_is) in
    let high : c.args.self.now.high ≡ c.self.inside.h = sym (ap (λ (s : SourceSeen). s.high) c.self.view_is) in
    let lies : LiesIn c.self.inside.w c.self.inside.h c.args.r = rw (← wide, ← high) c.requires.lies in
    rw (← c.self.view_is) (record { lies = united_within _ _ _ _ _ c.self.invariant.pending lies same; points = united_points have alike _ _ _ _ _ same })
