use Rattle.std.proofs.Common.{◌≡◌, sym, ◌∙◌, ap}
use Rattle.xp_base.specs.Points.{is_in, whole}
use Rattle.rect_regions.specs.PointSets.{SamePoints, united, shared}
use Rattle.window_source.specs.Source.{SourceSeen}
use Rattle.window_source.proofs.Regions.{clipped_within, clipped_points}
use Rattle.window_source.proofs.source.WindowSource.damaged_inside.Goals as goal

pub returns : goal.returns
returns g c =
    let have = c.points_are_their_tests.ensures.point in
    let alike = c.points_are_their_tests.ensures.alike in
    let all : SamePoints (g.R.Points.has c.in_ok-pending.pending) (united (g.R.Points.has c.self.inside.batch.pending) (is_in c.args.rect)) = c.in_ok-pending.ensures in
    let window : c.whole.result ≡ whole c.self.inside.w c.self.inside.h = c.whole.ensures ∙ sym (ap (λ (s : SourceSeen). whole s.wide s.high) c.self.view_is) in
    let clipped : SamePoints (g.R.Points.has c.clip.new.self) (shared (g.R.Points.has c.in_ok-pending.pending) (is_in (whole c.self.inside.w c.self.inside.h))) = rw window at c.in_ok-clip.ensures.ok in
    rw (← c.self.view_is) (record { lies = clipped_within _ _ _ _ clipped; points = clipped_points have alike _ _ _ _ _ _ all clipped })
